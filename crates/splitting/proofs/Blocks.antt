-- Pads added to rows in blocks of eight.
use Rattle.std.proofs.Common.{◌≡◌, ℕ, ◌+◌, ◌-◌, ◌*◌, ◌<◌, ◌≤◌, ◌⊎◌, List, length, sym, ap, ◌∙◌, ap₂, inl, inr, ⊎_elim, arith}
use Rattle.std.proofs.lemmas.Bool.{cases_lt}
use Rattle.rows.specs.Bytes.{row_at, xored}

-- rows below n have their pads, and the others are as they were
pub record Added (pad : ℕ → List ℕ) (old now : List ℕ) (n : ℕ) : Type 0 where
  pub done : (m : ℕ) → m < n → 32 * (m + 1) ≤ length old → row_at m now ≡ xored (row_at m old) (pad m)
  pub rest : (m : ℕ) → n ≤ m → row_at m now ≡ row_at m old

module _ (pad : ℕ → List ℕ) (old now new : List ℕ) where
  pub eight_added : (n : ℕ) (each : ℕ → List ℕ) → length now ≡ length old → Added pad old now n → ((k : ℕ) → k < 8 → each k ≡ pad (n + k)) →
      ((k : ℕ) → k < 8 → 32 * (n + k + 1) ≤ length now → row_at (n + k) new ≡ xored (row_at (n + k) now) (each k)) →
      ((m : ℕ) → (m < n) ⊎ (n + 8 ≤ m) → row_at m new ≡ row_at m now) → Added pad old new (n + 8)
  eight_added n each same was eight added kept = record {
    done = λ m l room.
        ⊎_elim
        (λ (low : m < n). kept m (inl low) ∙ was.done m low room)
        (λ (high : n ≤ m).
        let k = m - n in
        let e : n + k ≡ m = omega arith in
        let small : k < 8 = omega arith in
        ap (λ i. row_at i new) (sym e) ∙ added k small (omega (arith, same)) ∙ ap₂ xored (ap (λ i. row_at i now) e ∙ was.rest m high) (eight k small ∙ ap pad e))
        (cases_lt m n);
    rest = λ m l. kept m (inr l) ∙ was.rest m (omega arith);
  }
