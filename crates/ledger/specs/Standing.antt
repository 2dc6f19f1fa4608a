-- What a ledger means: for each number whether it is spent, and how much room is left.
use Rattle.std.specs.Prelude.{◌≡◌, ℕ, ◌^◌, min, Bool, if◌then◌else◌, not, ◌||◌, nat_le}

pub record Standing : Type 0 where
  -- whether a number is spent
  pub spent : ℕ → Bool
  -- how many more keys there is room for
  pub room : ℕ

-- made new for a tree of height h: its keys are free, and all other numbers are spent
abbrev pub Fresh : ℕ → Standing → Type 0
Fresh h s = (k : ℕ) → s.spent k ≡ nat_le (2 ^ h) k

-- a ledger for a tree of height h: the numbers listed are spent, and so are all from 2^h on;
-- where it is not intact, all numbers are spent and there is no room
abbrev pub of_tree : Bool → ℕ → (ℕ → Bool) → ℕ → Standing
of_tree intact h listed room = record {
  spent = λ k. not intact || (nat_le (2 ^ h) k || listed k);
  room = if intact then room else 0;
}

-- spent in either, and the smaller room
abbrev pub both : Standing → Standing → Standing
both a b = record { spent = λ k. a.spent k || b.spent k; room = min a.room b.room }
