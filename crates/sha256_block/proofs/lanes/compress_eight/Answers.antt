use Rattle.std.proofs.Common.{[], get_or, ◌∙◌, arith}
use Rattle.simd_lanes.specs.Lane.{lane}
use Rattle.simd_lanes.proofs.Ops.{get_or_lane}
use Rattle.sha256_block.proofs.lanes.compress_eight.Goals as goal

pub returns : goal.returns
unfolding lane
returns c i h = c.compress.ensures i (get_or c.args.blocks.now i []) h (λ t k. get_or_lane i c.parse.result t (omega arith) ∙ c.parse.ensures t i k h)
