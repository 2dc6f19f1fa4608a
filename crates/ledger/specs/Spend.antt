-- What a spend checks, and what an accepted one does.
use Rattle.std.specs.Prelude.{◌≡◌, ℕ, ◌+◌, Bool, not, ◌||◌, ◌⊎◌, List, [], ◌∷◌, None, ◌==◌}
use Rattle.checks.specs.Checks.{first_refusal}
use Rattle.ledger.specs.Standing.{Standing}
use Rattle.ledger.specs.declared.refusal.Refusal.{Refusal}
use Rattle.ledger.specs.declared.refusal.Refusal.TheVariants.{Spent, NoRoom}

-- the checks of a spend, in order: the key is not spent, and there is room
abbrev pub checks : Standing → ℕ → List (Bool × Refusal)
checks s key = (not (s.spent key), Spent) ∷ (not (s.room == 0), NoRoom) ∷ []

-- whether a number is spent once a key is spent on a ledger that stood so: the key is, and what was
abbrev pub with_key : Standing → ℕ → ℕ → Bool
with_key before key k = k == key || before.spent k

-- an accepted spend of a key
pub record Spends (before : Standing) (key : ℕ) (after : Standing) : Type 0 where
  -- no check refused it
  pub accepted : first_refusal (checks before key) ≡ None
  -- just the key became spent
  pub keys : (k : ℕ) → after.spent k ≡ with_key before key k
  -- and the room fell by one or stayed
  pub left : (after.room ≡ before.room) ⊎ (after.room + 1 ≡ before.room)
