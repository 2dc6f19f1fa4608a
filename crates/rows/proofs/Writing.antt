-- Bytes written at a place: what lies in front, and every row.
use Rattle.std.proofs.Common.{◌≡◌, ℕ, ◌+◌, ◌-◌, ◌*◌, ◌<◌, ◌≤◌, List, ◌++◌, length, take, drop, sym, ap, ◌∙◌, inl, inr, append_assoc, arith, length-append}
use Rattle.std.proofs.lemmas.List.{take_at, drop_at, drop-drop, take-take, length-take-le, drop-take}
use Rattle.std.proofs.lemmas.Bool.{cases_lt}
use Rattle.rows.specs.Bytes.{part, row_at}
use Rattle.rows.proofs.Rows.{part_behind}

-- a part is the same in every longer front
pub part_in : (s : List ℕ) (n a m : ℕ) → a + m ≤ n → part a m (take n s) ≡ part a m s
part_in s n a m h =
    let e : n ≡ a + (n - a) = omega arith in
    ap (λ k. part a m (take k s)) e ∙ ap (take m) (drop-take a (n - a) s) ∙ take-take m (n - a) (drop a s) (omega arith)

-- what `put` leaves of o where b fits at a
abbrev pub Put : List ℕ → ℕ → List ℕ → List ℕ → Type 0
Put o a b o' = (a + length b ≤ length o → o' ≡ take a o ++ b ++ drop (a + length b) o)

-- what is written behind what was written
pub grow : (o o' A b : List ℕ) (a n : ℕ) → Put o a b o' → a + length b ≤ length o → take a o ≡ A → a + length b ≡ n → take n o' ≡ A ++ b
grow o o' A b a n put fits e l =
    let z : length (take a o ++ b) ≡ a + length b = length-append (take a o) b ∙ omega (arith, length-take-le a o (omega arith)) in
    ap (λ k. take k o') (sym l) ∙ ap (take (a + length b)) (put fits)
    ∙ take_at (take a o ++ b) (drop (a + length b) o) (a + length b) z ∙ ap (λ t. t ++ b) e

module _ (o o' b : List ℕ) (k : ℕ) (put : Put o (32 * k) b o') (l : length b ≡ 32) (fits : 32 * (k + 1) ≤ length o) where
  front : length (take (32 * k) o) ≡ 32 * k
  front = length-take-le (32 * k) o (omega arith)

  e : o' ≡ take (32 * k) o ++ (b ++ drop (32 * k + 32) o)
  e =
      put (omega arith) ∙ ap (λ n. take (32 * k) o ++ b ++ drop (32 * k + n) o) l
      ∙ append_assoc (take (32 * k) o) b (drop (32 * k + 32) o)

  -- the row that was written
  pub row_put : row_at k o' ≡ b
  row_put =
      ap (row_at k) e ∙ ap (take 32) (drop_at (take (32 * k) o) (b ++ drop (32 * k + 32) o) (32 * k) front)
      ∙ take_at b (drop (32 * k + 32) o) 32 l

  -- and every other one
  pub row_kept : (m : ℕ) → (m ≡ k → ⊥) → row_at m o' ≡ row_at m o
  row_kept m n = ap (row_at m) e ∙ elim (cases_lt m k) [ inl h ↦ before h | inr h ↦ behind (omega arith) ]
    where
      before : m < k → row_at m (take (32 * k) o ++ (b ++ drop (32 * k + 32) o)) ≡ row_at m o
      before h =
          let F = take (32 * k) o in
          sym (part_in (F ++ (b ++ drop (32 * k + 32) o)) (32 * k) (32 * m) 32 (omega arith))
          ∙ ap (row_at m) (take_at F (b ++ drop (32 * k + 32) o) (32 * k) front)
          ∙ part_in o (32 * k) (32 * m) 32 (omega arith)

      behind : k < m → row_at m (take (32 * k) o ++ (b ++ drop (32 * k + 32) o)) ≡ row_at m o
      behind h =
          let r : ℕ = 32 * m - (32 * k + 32) in
          let a : 32 * m ≡ 32 * k + (32 + r) = omega arith in
          let z : 32 * k + 32 + r ≡ 32 * m = omega arith in
          let D = drop (32 * k + 32) o in
          ap (λ n. part n 32 (take (32 * k) o ++ (b ++ D))) a
          ∙ part_behind (take (32 * k) o) (b ++ D) (32 * k) (32 + r) 32 front
          ∙ part_behind b D 32 r 32 l
          ∙ ap (take 32) (drop-drop r (32 * k + 32) o ∙ ap (λ n. drop n o) z)
