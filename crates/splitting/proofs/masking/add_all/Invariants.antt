use Rattle.std.proofs.Common.{◌≡◌, ℕ, ◌+◌, ◌*◌, ◌≤◌, map, length}
use Rattle.rows.specs.Bytes.{row_at}
use Rattle.splitting.specs.KeyParts.{label_in}
use Rattle.splitting.specs.Sources.{padded}
use Rattle.splitting.proofs.masking.add_all.Given as goal

abbrev pub invariant-loop-trustee : goal.invariant-loop-trustee
invariant-loop-trustee g l =
    (m : ℕ) → 32 * (m + 1) ≤ length l.initial.out → row_at m l.out ≡ padded (map g.P.Pads.source l.sources) l.yielded (label_in l.part m) (row_at m l.initial.out)
