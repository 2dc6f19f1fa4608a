-- Lists of spends, and what they make of a ledger.
use Rattle.std.specs.Prelude.{◌≡◌, ℕ, ◌+◌, ◌^◌, ◌≤◌, true, false, ◌||◌, List, [], ◌∷◌, length, All, count_by, Some, None, Option, nat_eq}
use Rattle.std.specs.List.{list_any, IsDistinct}
use Rattle.checks.specs.Checks.{first_refusal}
use Rattle.ledger.specs.Standing.{Standing, Fresh}
use Rattle.ledger.specs.Spend.{checks, Spends}
use Rattle.ledger.specs.Counts.{in_range, spent_in, free_in}
use Rattle.ledger.specs.declared.refusal.Refusal.{Refusal}

-- from one standing to another by spends of these keys, each of which is accepted
abbrev pub Run : Standing → List ℕ → Standing → Type 0
Run before [] after = after ≡ before
Run before (key ∷ keys) after =
    (middle : Standing) × Spends before key middle × Run middle keys after

-- one spend with its answer: a refused one alters nothing
abbrev pub Answered : Standing → ℕ × Option Refusal → Standing → Type 0
Answered before (key, None) after = Spends before key after
Answered before (key, Some why) after =
    (first_refusal (checks before key) ≡ Some why) × (after ≡ before)

-- from one standing to another by spends of any keys, with their answers
abbrev pub Tries : Standing → List (ℕ × Option Refusal) → Standing → Type 0
Tries before [] after = after ≡ before
Tries before (asked ∷ rest) after =
    (middle : Standing) × Answered before asked middle × Tries middle rest after

-- the keys of those that were accepted
abbrev pub accepted : List (ℕ × Option Refusal) → List ℕ
accepted [] = []
accepted ((key, None) ∷ rest) = key ∷ accepted rest
accepted ((key, Some why) ∷ rest) = accepted rest

-- what accepted spends of these keys make of a ledger
pub record Ran (before : Standing) (keys : List ℕ) (after : Standing) : Type 0 where
  -- what is spent stays spent
  pub stays : (k : ℕ) → before.spent k ≡ true → after.spent k ≡ true
  -- the spent numbers are those at first and the keys
  pub spent : (k : ℕ) → after.spent k ≡ (list_any (nat_eq k) keys || before.spent k)
  -- no key is twice among them, and none was spent before
  pub once : IsDistinct nat_eq keys
  pub new : All (λ key. before.spent key ≡ false) keys
  -- each of them in a range adds one to the range's spent numbers, and takes one from its free ones
  pub counted : (first count : ℕ) →
      spent_in after first count
      ≡ spent_in before first count + count_by (in_range first count) keys
  pub left : (first count : ℕ) →
      free_in after first count + count_by (in_range first count) keys
      ≡ free_in before first count
  -- the room falls by one at most for each, and never rises
  pub room : (after.room ≤ before.room) × (before.room ≤ after.room + length keys)
  -- on a ledger made new for a tree, as many of the tree's keys are spent as there are keys
  pub from_new : (h : ℕ) → Fresh h before → spent_in after 0 (2 ^ h) ≡ length keys

pub record RunsHold : Type 0 where
  -- lists of accepted spends
  pub ran : (before after : Standing) (keys : List ℕ) →
      Run before keys after → Ran before keys after
  -- spends of which some are refused do what the accepted ones do
  pub tried : (before after : Standing) (asked : List (ℕ × Option Refusal)) →
      Tries before asked after → Run before (accepted asked) after
  -- each number of a range is free or spent, and none is both
  pub whole : (s : Standing) (first count : ℕ) →
      free_in s first count + spent_in s first count ≡ count
