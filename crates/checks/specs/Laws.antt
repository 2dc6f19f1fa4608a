-- Which check refuses.
use Rattle.std.specs.Prelude.{◌≡◌, ◌↔◌, ℕ, ◌<◌, Bool, true, false, List, ◌++◌, Some, None, slice_get}
use Rattle.checks.specs.Checks.{first_refusal}

-- every check passes
abbrev pub Pass : {R : Type 0} → List (Bool × R) → Type 0
Pass {R} checks = (j : ℕ) (check : Bool × R) → slice_get checks j ≡ Some check → check.0 ≡ true

-- check i, from 0, fails with the refusal r, and every check before it passes
pub record FailsFirst {R : Type 0} (checks : List (Bool × R)) (i : ℕ) (r : R) : Type 0 where
  pub fails : slice_get checks i ≡ Some (false, r)
  pub before : (j : ℕ) (check : Bool × R) → j < i → slice_get checks j ≡ Some check → check.0 ≡ true

pub record InOrder (R : Type 0) : Type 0 where
  -- the answer is a refusal exactly if it is that of a check which fails while all before it pass
  pub refused : (checks : List (Bool × R)) (r : R) →
      (first_refusal checks ≡ Some r) ↔ ((i : ℕ) × FailsFirst checks i r)
  -- there is at most one such check
  pub once : (checks : List (Bool × R)) (i j : ℕ) (r s : R) →
      FailsFirst checks i r → FailsFirst checks j s → i ≡ j
  -- there is no refusal exactly if all pass
  pub accepted : (checks : List (Bool × R)) → (first_refusal checks ≡ None) ↔ Pass checks
  -- checks that all pass can be left out in front of others, and behind a refusal others change nothing
  pub behind : (checks others : List (Bool × R)) → first_refusal checks ≡ None →
      first_refusal (checks ++ others) ≡ first_refusal others
  pub before : (checks others : List (Bool × R)) (r : R) → first_refusal checks ≡ Some r →
      first_refusal (checks ++ others) ≡ Some r
