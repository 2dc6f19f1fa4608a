use Rattle.std.proofs.Common.{◌≡◌, ℕ, ◌+◌, ◌*◌, ◌^◌, ◌<◌}
use Rattle.rows.specs.Bytes.{row_at}
use Rattle.sizes.specs.Sizes.{bits}
use Rattle.lmots.specs.LmOts.{X, p}
use Rattle.lmots.proofs.deal.write_positions.Given as goal

abbrev pub invariant-loop-first : goal.invariant-loop-first
invariant-loop-first g l =
    (i j : ℕ) → i < l.first → i < p (bits l.width) → j < 2 ^ bits l.width →
    row_at (i * 2 ^ bits l.width + j) l.out ≡ X g.H.Hash.hashed l.origin.id.bytes l.origin.seed.bytes l.q i j
