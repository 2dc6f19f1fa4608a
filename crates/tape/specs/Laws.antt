-- What holds of every tape, in words of the subject.
use Rattle.std.specs.Prelude.{◌≡◌, ◌↔◌, ℕ, ◌+◌, ◌^◌, ◌<◌, Bool, true, ◌||◌, List, [], ◌∷◌, ◌++◌, length, fold, None, nat_eq, nat_le}
use Rattle.std.specs.List.{AllByRecursion, IsDistinct, list_any}
use Rattle.sizes.specs.declared.height.Height.{Height}
use Rattle.sizes.specs.Sizes.{levels}
use Rattle.checks.specs.Checks.{first_refusal}
use Rattle.ledger.specs.Spend.{checks as spend_checks}
use Rattle.tape.specs.Lines.{lines, listed, sound, taped, with_line, OneLine}
use Rattle.tape.specs.Tapes.{checks, new_checks, whole_lines, blanked, of_tape}

-- keys of a tree of height h
abbrev pub OfTree : Height → List ℕ → Type 0
OfTree h keys = AllByRecursion (λ k. k < 2 ^ levels h) keys

-- bytes of a tape on which distinct keys of the tree were spent
pub record Kept (h : Height) (bytes : List ℕ) : Type 0 where
  pub keys : List ℕ
  pub room : ℕ
  pub written : bytes ≡ taped keys room
  pub below : OfTree h keys
  pub distinct : IsDistinct nat_eq keys

-- the checks accept the bytes of a tape
abbrev pub Accepted : Height → List ℕ → Type 0
Accepted h bytes = first_refusal (checks (levels h) bytes) ≡ None

-- a tape on these bytes, intact or not, accepts a spend of a key
abbrev pub Spendable : Bool → Height → List ℕ → ℕ → Type 0
Spendable intact h bytes key =
    first_refusal (spend_checks (of_tape intact (levels h) bytes) key) ≡ None

pub record TapesHold : Type 0 where
  -- the checks accept just the bytes of a tape on which distinct keys of the tree were spent
  pub exact : (h : Height) (bytes : List ℕ) → Accepted h bytes ↔ Kept h bytes
  -- the check of the lines alone refuses bytes that are not whole lines
  pub uncut : (h : Height) (bytes : List ℕ) →
      sound (2 ^ levels h) (lines bytes) ≡ true → whole_lines bytes ≡ true
  -- just the keys written on a tape are spent, and its unused lines are its room
  pub says : (h : Height) (keys : List ℕ) (room k : ℕ) → OfTree h keys →
      (of_tape true (levels h) (taped keys room)).spent k
      ≡ (nat_le (2 ^ levels h) k || list_any (nat_eq k) keys)
  pub roomy : (h : Height) (keys : List ℕ) (room : ℕ) → OfTree h keys →
      (of_tape true (levels h) (taped keys room)).room ≡ room
  -- an accepted spend writes one line, whatever the bytes were
  pub line : (intact : Bool) (h : Height) (bytes : List ℕ) (key : ℕ) →
      Spendable intact h bytes key → OneLine bytes key (with_line bytes key)
  -- which lists its key behind those before, on one unused line
  pub grows : (h : Height) (keys : List ℕ) (room key : ℕ) → OfTree h keys →
      with_line (taped keys (room + 1)) key ≡ taped (keys ++ key ∷ []) room
  -- so after some spends the lines are those before, and then the keys that were spent
  pub follows : (h : Height) (keys more : List ℕ) (room : ℕ) → OfTree h keys → OfTree h more →
      fold with_line (taped keys (room + length more)) more ≡ taped (keys ++ more) room
  -- no spend lists a key twice: where distinct keys are listed, so they are afterwards
  pub distinct : (intact : Bool) (h : Height) (bytes : List ℕ) (key : ℕ) →
      IsDistinct nat_eq (listed (lines bytes)) → Spendable intact h bytes key →
      IsDistinct nat_eq (listed (lines (with_line bytes key)))
  -- the checks accept a new tape, and an accepted one again after a spend
  pub new : (h : Height) (bytes : List ℕ) →
      first_refusal (new_checks bytes) ≡ None → Accepted h (blanked bytes)
  pub again : (h : Height) (bytes : List ℕ) (key : ℕ) →
      Accepted h bytes → Spendable true h bytes key → Accepted h (with_line bytes key)
