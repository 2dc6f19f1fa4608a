-- What two ledgers mean that are kept alike.
use Rattle.std.specs.Prelude.{ℕ}
use Rattle.ledger.specs.Standing.{Standing, both}
use Rattle.ledger.specs.declared.mirror.Mirror.{Mirror}

-- a mirror is spent in either half, and has the smaller room
abbrev pub of_mirror : {A B : Type 0} → (A → Standing) → (B → Standing) → Mirror A B → Standing
of_mirror f g m = both (f m.first) (g m.second)

-- a key spent in both halves
abbrev pub mirror_after : {A B : Type 0} → (A → ℕ → A) → (B → ℕ → B) → Mirror A B → ℕ → Mirror A B
mirror_after f g m key = record { first = f m.first key; second = g m.second key }
