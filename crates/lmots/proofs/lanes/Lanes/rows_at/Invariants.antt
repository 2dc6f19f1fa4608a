use Rattle.std.proofs.Common.{◌≡◌, ℕ, ◌<◌, [], get_or}
use Rattle.lmots.specs.LmOts.{X}
use Rattle.lmots.specs.Lanes.{chain_at}
use Rattle.lmots.proofs.lanes.Lanes.rows_at.Given as goal

abbrev pub invariant-loop-j : goal.invariant-loop-j
invariant-loop-j g l =
    (k : ℕ) → k < 8 → get_or l.rows k [] ≡ X g.H.Hash.hashed l.self.id.bytes l.fn.seed.bytes (chain_at k l.self.chains).q (chain_at k l.self.chains).i l.j
