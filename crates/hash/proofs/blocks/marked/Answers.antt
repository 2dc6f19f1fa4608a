use Rattle.std.proofs.Common.{arith}
use Rattle.hash.proofs.Buffers.{mark}
use Rattle.hash.proofs.blocks.marked.Goals as goal

pub returns : goal.returns
returns g c = mark g.row.N c.args.mark c.args.at c.args.front.now c.put.new.out c.requires.0 c.requires.1 (c.put.ensures.inside (omega arith))
