-- The first check that fails.
use Rattle.std.proofs.Common.{◌≡◌, ℕ, zero, suc, ◌<◌, Bool, true, false, List, [], ◌∷◌, ◌++◌, Some, None, sym, refl, ap, arith}
use Rattle.std.specs.Prelude.{slice_get}
use Rattle.std.proofs.lemmas.Option.{none-some, same_Some}
use Rattle.checks.specs.Checks.{first_refusal}
use Rattle.checks.specs.Laws.{Pass, FailsFirst, InOrder}

module _ {R : Type 0} where
  -- the check that refuses
  pub refuser : (checks : List (Bool × R)) (r : R) → first_refusal checks ≡ Some r → (i : ℕ) × FailsFirst checks i r
  refuser [] r e = absurd (none-some r e)
  refuser ((false, x) ∷ rest) r e = (0, record { fails = ap (λ (y : R). Some (false, y)) (same_Some x r e); before = λ j check l s. absurd (omega arith) })
  refuser ((true, x) ∷ rest) r e =
      let later = refuser rest r e in
      (suc later.0, record { fails = later.1.fails; before = earlier x rest later.0 r later.1 })
    where
      earlier : (x : R) (rest : List (Bool × R)) (i : ℕ) (r : R) → FailsFirst rest i r → (j : ℕ) (check : Bool × R) → j < suc i → slice_get ((true, x) ∷ rest) j ≡ Some check → check.0 ≡ true
      earlier x rest i r f zero check l s = ap (λ (c : Bool × R). c.0) (sym (same_Some (true, x) check s))
      earlier x rest i r f (suc j) check l s = f.before j check (omega arith) s

  pub refuses : (checks : List (Bool × R)) (i : ℕ) (r : R) → FailsFirst checks i r → first_refusal checks ≡ Some r
  refuses [] i r f = absurd (none-some (false, r) f.fails)
  refuses ((false, x) ∷ rest) zero r f = ap (λ (c : Bool × R). Some c.1) (same_Some (false, x) (false, r) f.fails)
  refuses ((true, x) ∷ rest) zero r f = let e = same_Some (true, x) (false, r) f.fails in let z : true ≡ false = ap (λ (c : Bool × R). c.0) e in absurd (cc)
  refuses ((false, x) ∷ rest) (suc i) r f = let z : false ≡ true = f.before 0 (false, x) (omega arith) refl in absurd (cc)
  refuses ((true, x) ∷ rest) (suc i) r f = refuses rest i r (record { fails = f.fails; before = λ j check l s. f.before (suc j) check (omega arith) s })

  -- the tail of a list whose first check passes
  later : (x : R) (rest : List (Bool × R)) (i : ℕ) (r : R) → FailsFirst ((true, x) ∷ rest) (suc i) r → FailsFirst rest i r
  later x rest i r f = record { fails = f.fails; before = λ j check l s. f.before (suc j) check (omega arith) s }

  once : (checks : List (Bool × R)) (i j : ℕ) (r s : R) → FailsFirst checks i r → FailsFirst checks j s → i ≡ j
  once [] i j r s f g = absurd (none-some (false, r) f.fails)
  once (check ∷ rest) zero zero r s f g = refl
  once (check ∷ rest) zero (suc j) r s f g =
      let e = same_Some check (false, r) f.fails in
      let z : check.0 ≡ true = g.before 0 check (omega arith) refl in
      let y : check.0 ≡ false = ap (λ (c : Bool × R). c.0) e in
      absurd (cc)
  once (check ∷ rest) (suc i) zero r s f g =
      let e = same_Some check (false, s) g.fails in
      let z : check.0 ≡ true = f.before 0 check (omega arith) refl in
      let y : check.0 ≡ false = ap (λ (c : Bool × R). c.0) e in
      absurd (cc)
  once ((true, x) ∷ rest) (suc i) (suc j) r s f g = ap suc (once rest i j r s (later x rest i r f) (later x rest j s g))
  once ((false, x) ∷ rest) (suc i) (suc j) r s f g = let z : false ≡ true = f.before 0 (false, x) (omega arith) refl in absurd (cc)

  pub passed : (checks : List (Bool × R)) → first_refusal checks ≡ None → Pass checks
  passed [] e i check s = absurd (none-some check s)
  passed ((false, x) ∷ rest) e i check s = absurd (none-some x (sym e))
  passed ((true, x) ∷ rest) e zero check s = ap (λ (c : Bool × R). c.0) (sym (same_Some (true, x) check s))
  passed ((true, x) ∷ rest) e (suc i) check s = passed rest e i check s

  pub passes : (checks : List (Bool × R)) → Pass checks → first_refusal checks ≡ None
  passes [] f = refl
  passes ((false, x) ∷ rest) f = let z : false ≡ true = f 0 (false, x) refl in absurd (cc)
  passes ((true, x) ∷ rest) f = passes rest (λ i check s. f (suc i) check s)

  pub behind : (checks others : List (Bool × R)) → first_refusal checks ≡ None → first_refusal (checks ++ others) ≡ first_refusal others
  behind [] others e = refl
  behind ((false, x) ∷ rest) others e = absurd (none-some x (sym e))
  behind ((true, x) ∷ rest) others e = behind rest others e

  pub before : (checks others : List (Bool × R)) (r : R) → first_refusal checks ≡ Some r → first_refusal (checks ++ others) ≡ Some r
  before [] others r e = absurd (none-some r e)
  before ((false, x) ∷ rest) others r e = e
  before ((true, x) ∷ rest) others r e = before rest others r e

  pub in_order : InOrder R
  in_order = record {
    refused = λ checks r. (refuser checks r, λ f. refuses checks f.0 r f.1);
    once = once;
    accepted = λ checks. (passed checks, passes checks);
    behind = behind;
    before = before;
  }
