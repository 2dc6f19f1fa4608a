use Rattle.simd_lanes.specs.Lane.{lane}
use Rattle.keccak.proofs.pairs.permute_two.Goals as goal

pub returns : goal.returns
unfolding lane
returns c i h = c.permute.ensures i h
