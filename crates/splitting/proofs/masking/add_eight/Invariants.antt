use Rattle.std.proofs.Common.{◌≡◌, ℕ, ◌+◌, ◌*◌, ◌<◌, ◌≤◌, ◌⊎◌, [], length, get_or}
use Rattle.rows.specs.Bytes.{row_at, xored}
use Rattle.splitting.proofs.masking.add_eight.Given as goal

abbrev pub invariant-loop-l : goal.invariant-loop-l
invariant-loop-l l =
    ((k : ℕ) → k < l.l → 32 * (l.first + k + 1) ≤ length l.initial.out → row_at (l.first + k) l.out ≡ xored (row_at (l.first + k) l.initial.out) (get_or l.pads k []))
    × ((m : ℕ) → (m < l.first) ⊎ (l.first + l.l ≤ m) → row_at m l.out ≡ row_at m l.initial.out)
