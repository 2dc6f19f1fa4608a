-- What a helper means: how many rows it holds of each key, and which.
use Rattle.std.specs.Prelude.{◌≡◌, ℕ, ◌*◌, ◌<◌, Bool, List, [], ◌∷◌, length, nat_lt}
use Rattle.rows.specs.Bytes.{row_at}
use Rattle.helper.specs.declared.refusal.Refusal.{Refusal}
use Rattle.helper.specs.declared.refusal.Refusal.TheVariants.{Beyond}

-- the number of rows by key, and the rows by key and index
pub record Holding : Type 0 where
  pub number : ℕ → ℕ
  pub row : ℕ → ℕ → List ℕ

-- as many rows of every key
abbrev pub SameNumbers : Holding → Holding → Type 0
SameNumbers a b = (key : ℕ) → a.number key ≡ b.number key

-- a faithful helper stays faithful, and holds what it held
abbrev pub Stays : {X : Type 0} → (X → Holding) → (X → Type 0) → X → X → Type 0
Stays holding Faithful before after =
    Faithful before → (holding after ≡ holding before) × Faithful after

-- what is checked before one of `number` rows is read: its index is below the number
abbrev pub read_checks : ℕ → ℕ → List (Bool × Refusal)
read_checks number index = (nat_lt index number, Beyond) ∷ []

-- of a key it holds just this part: as many rows, and each from the part
pub record HoldsPart (h : Holding) (key : ℕ) (part : List ℕ) : Type 0 where
  pub number : length part ≡ 32 * h.number key
  pub row : (index : ℕ) → index < h.number key → h.row key index ≡ row_at index part
