-- The chain in a lane.
use Rattle.std.specs.Prelude.{ℕ, List, slice_index_or}
use Rattle.lmots.specs.declared.lanes.Chain.{Chain}

abbrev pub chain_at : ℕ → List Chain → Chain
chain_at l chains = slice_index_or chains l (record { q = 0; i = 0 })
