-- Checks part by part.
use Rattle.std.proofs.Common.{◌≡◌, ℕ, zero, suc, ◌+◌, ◌<◌, ◌≤◌, Bool, true, false, cond, List, [], ◌∷◌, ◌++◌, Some, None, Option, sym, refl, ap, ◌∙◌, ⊎_elim, arith}
use Rattle.std.specs.List.{flat_map, range_with_len}
use Rattle.std.proofs.lemmas.Bool.{cases_eq}
use Rattle.std.proofs.lemmas.Option.{none-some}
use Rattle.checks.specs.Checks.{first_refusal}
use Rattle.checks.proofs.Ordered.{behind}

module _ {R : Type 0} where
  -- one check, and what those behind it answer
  pub first_passes : (test : Bool) (behind_it : Option R) (r : R) → cond test behind_it (Some r) ≡ None → (test ≡ true) × (behind_it ≡ None)
  first_passes true behind_it r h = (refl, h)
  first_passes false behind_it r h = absurd (none-some r (sym h))

  -- two parts
  pub both_pass : (xs ys : List (Bool × R)) → first_refusal xs ≡ None → first_refusal ys ≡ None → first_refusal (xs ++ ys) ≡ None
  both_pass xs ys e f = behind xs ys e ∙ f

  pub parts_pass : (xs ys : List (Bool × R)) → first_refusal (xs ++ ys) ≡ None → (first_refusal xs ≡ None) × (first_refusal ys ≡ None)
  parts_pass [] ys h = (refl, h)
  parts_pass ((test, r) ∷ xs) ys h =
      let a = first_passes test (first_refusal (xs ++ ys)) r h in
      let b = parts_pass xs ys a.1 in
      (ap (λ t. first_refusal ((t, r) ∷ xs)) a.0 ∙ b.0, b.1)

  -- a part for each of k numbers from a on
  pub all_pass : (part : ℕ → List (Bool × R)) (a k : ℕ) → ((g : ℕ) → a ≤ g → g < a + k → first_refusal (part g) ≡ None) → first_refusal (flat_map part (range_with_len a k)) ≡ None
  all_pass part a zero h = refl
  all_pass part a (suc k) h = both_pass (part a) (flat_map part (range_with_len (a + 1) k)) (h a (omega arith) (omega arith)) (all_pass part (a + 1) k (λ g l u. h g (omega arith) (omega arith)))

  pub each_passes : (part : ℕ → List (Bool × R)) (a k : ℕ) → first_refusal (flat_map part (range_with_len a k)) ≡ None → (g : ℕ) → a ≤ g → g < a + k → first_refusal (part g) ≡ None
  each_passes part a zero h g l u = absurd (omega arith)
  each_passes part a (suc k) h g l u =
      let p = parts_pass (part a) (flat_map part (range_with_len (a + 1) k)) h in
      ⊎_elim (λ (e : g ≡ a). ap (λ n. first_refusal (part n)) e ∙ p.0) (λ (ne : g ≡ a → ⊥). each_passes part (a + 1) k p.1 g (omega arith) (omega arith)) (cases_eq g a)
