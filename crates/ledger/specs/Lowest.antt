-- The lowest number of a range that has a property.
use Rattle.std.specs.Prelude.{ℕ, ◌<◌, ◌≤◌, Option, MatchOption}

-- no number from first on, below end, has the property
abbrev pub NoneOf : (ℕ → Type 0) → ℕ → ℕ → Type 0
NoneOf P first end = (j : ℕ) → first ≤ j → j < end → P j → ⊥

-- the lowest number from first on, below end, that has it; none where there is none
abbrev pub Lowest : (ℕ → Type 0) → ℕ → ℕ → Option ℕ → Type 0
Lowest P first end r =
    MatchOption r (NoneOf P first end) (λ k. (first ≤ k) × (k < end) × P k × NoneOf P first k)
