use Rattle.std.proofs.Common.{◌≡◌}
use Rattle.hash.specs.Chaining.{over}
use Rattle.hash.proofs.blocks.take_blocks.Given as goal

abbrev pub invariant-loop-block : goal.invariant-loop-block
invariant-loop-block g l = g.C.Chaining.value l.chain ≡ over g.row.N g.C.Chaining.after l.block-index (g.C.Chaining.value l.initial.chain) l.bytes
