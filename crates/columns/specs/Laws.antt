-- What fields say, in words of the subject.
use Rattle.std.specs.Prelude.{◌≡◌, ℕ, ◌^◌, ◌<◌, ◌≤◌, true, List, length, Some}
use Rattle.columns.specs.Number.{spaces, right, number_in, blank}

pub record Fields : Type 0 where
  -- a field is read as a number just if it is that number, right-justified, in at most nine columns
  pub reads : (field : List ℕ) (n : ℕ) → number_in field ≡ Some n → (length field ≤ 9) × (field ≡ right (length field) n)
  pub writes : (columns n : ℕ) → 0 < columns → columns ≤ 9 → n < 10 ^ columns → (length (right columns n) ≡ columns) × (number_in (right columns n) ≡ Some n)
  -- and blank just if it is spaces
  pub bare : (field : List ℕ) → blank field ≡ true → field ≡ spaces (length field)
  pub empty : (columns : ℕ) → blank (spaces columns) ≡ true
