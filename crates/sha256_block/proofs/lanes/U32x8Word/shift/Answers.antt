use Rattle.std.proofs.Common.{◌/◌, ◌^◌, rules}
use Rattle.simd_lanes.proofs.Ops.{at_splat}
use Rattle.sha256_block.proofs.lanes.U32x8Word.shift.Goals as goal

pub returns : goal.returns
returns c i h = at_splat 8 (λ x k. x / 2 ^ k) c.args.self c.args.n i (search rules) h
