use Rattle.std.proofs.Common.{◌-◌, ◌*◌, ◌/◌, ◌%◌, ◌^◌, rules}
use lib.Bits.{bit_or}
use Rattle.simd_lanes.proofs.Ops.{at_both}
use Rattle.sha256_block.proofs.lanes.U32x8Word.rotate.Goals as goal

pub returns : goal.returns
returns c i h = at_both 8 bit_or (λ x k. x / 2 ^ k) (λ x k. (x * 2 ^ k) % 2 ^ 32) c.args.self c.args.n (32 - c.args.n) i (search rules) h
