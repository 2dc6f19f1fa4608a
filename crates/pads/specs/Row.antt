-- Rows: strings of 32 bytes.
use Rattle.std.specs.Prelude.{◌≡◌, ℕ, List, [], ◌∷◌, length}
use Rattle.std.specs.Coded.{×_prop, Unit-prop, le_prop}
use Rattle.std.proofs.Math.Nat.{ℕ_set}
use Rattle.hash.specs.Bytes.{Bytes}

-- 32 numbers, each of them a byte
pub record IsRow (r : List ℕ) : Type 0 where
  pub long : length r ≡ 32
  pub bytes : Bytes r

-- every pad is a row
abbrev pub AllRows : {L : Type 0} → (L → List ℕ) → Type 0
AllRows {L} pad = (l : L) → IsRow (pad l)

-- ---- which can be so in one way only, as a struct asks of what it keeps
Bytes-prop : (s : List ℕ) → IsProp (Bytes s)
Bytes-prop [] = Unit-prop
Bytes-prop (x ∷ xs) = ×_prop le_prop (Bytes-prop xs)

pub AllRows-prop : {L : Type 0} (pad : L → List ℕ) → IsProp (AllRows pad)
AllRows-prop pad a b = λ t l. record {
  long = ℕ_set (length (pad l)) 32 (a l).long (b l).long t;
  bytes = Bytes-prop (pad l) (a l).bytes (b l).bytes t;
}
