-- What a ledger of one of two kinds makes of a spend.
use Rattle.std.specs.Prelude.{ℕ}
use Rattle.either.specs.declared.Either.{Either}
use Rattle.either.specs.Either.{map_either}

-- the same kind, with a key spent as it spends one
abbrev pub either_after : {A B : Type 0} → (A → ℕ → A) → (B → ℕ → B) → Either A B → ℕ → Either A B
either_after f g ledger key = map_either (λ a. f a key) (λ b. g b key) ledger
