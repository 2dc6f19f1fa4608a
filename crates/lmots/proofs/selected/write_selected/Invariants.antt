use Rattle.std.proofs.Common.{◌≡◌, ℕ, ◌<◌}
use Rattle.rows.specs.Bytes.{row_at}
use Rattle.sizes.specs.Sizes.{bits}
use Rattle.lmots.specs.LmOts.{X, digit}
use Rattle.lmots.proofs.selected.write_selected.Given as goal

abbrev pub invariant-loop-i : goal.invariant-loop-i
invariant-loop-i g l =
    (k : ℕ) → k < l.i → row_at k l.out ≡ X g.H.Hash.hashed l.origin.id.bytes l.origin.seed.bytes l.q k (digit (bits l.fn.width) l.digest k)
