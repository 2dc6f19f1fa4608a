-- What a tape means, what is checked of its bytes, and what is made of them.
use Rattle.std.specs.Prelude.{ℕ, ◌%◌, ◌^◌, Bool, if◌then◌else◌, List, [], ◌∷◌, length, is_none, ◌==◌}
use Rattle.std.specs.Borrow.{MutBor}
use Rattle.sizes.specs.declared.height.Height.{Height}
use Rattle.sizes.specs.Sizes.{levels}
use Rattle.columns.specs.Number.{spaces}
use Rattle.checks.specs.Checks.{first_refusal}
use Rattle.ledger.specs.Standing.{Standing, of_tree}
use Rattle.tape.specs.declared.tapes.Tape.{Tape}
use Rattle.tape.specs.declared.refusal.Refusal.{Refusal}
use Rattle.tape.specs.declared.refusal.Refusal.TheVariants.{Damaged}
use Rattle.tape.specs.Lines.{lines, lists, blanks, sound, with_line}

-- ---- what a tape means
-- the keys listed are spent, and so are all from 2^h on; the unused lines are the room.
-- On a tape that is not intact, all is spent and there is no room
abbrev pub of_tape : Bool → ℕ → List ℕ → Standing
of_tape intact h bytes = of_tree intact h (lists (lines bytes)) (blanks (lines bytes))

-- a tape as a ledger
abbrev pub standing_of : Tape → Standing
standing_of t = of_tape t.intact (levels t.height) t.bytes.now

-- the same tape on the same bytes, with a key's line written over the first unused one
abbrev pub tape_after : Tape → ℕ → Tape
tape_after t key = record t { bytes = record t.bytes { now = with_line t.bytes.now key } }

-- ---- what is checked
-- whether bytes are whole lines
abbrev pub whole_lines : List ℕ → Bool
whole_lines bytes = length bytes % 6 == 0

-- the checks of a tape's bytes for a tree of height h, in order: their length, and their lines
abbrev pub checks : ℕ → List ℕ → List (Bool × Refusal)
checks h bytes = (whole_lines bytes, Damaged) ∷ (sound (2 ^ h) (lines bytes), Damaged) ∷ []

-- and of bytes that are to become a new tape: their length
abbrev pub new_checks : List ℕ → List (Bool × Refusal)
new_checks bytes = (whole_lines bytes, Damaged) ∷ []

-- whether the checks accept a tape's bytes
abbrev pub accepted : ℕ → List ℕ → Bool
accepted h bytes = is_none (first_refusal (checks h bytes))

-- ---- what is made
-- the tape on lent bytes, which is intact where they are accepted
abbrev pub opened : MutBor (List ℕ) → Height → Tape
opened loan height =
    record { bytes = loan; height = height; intact = accepted (levels height) loan.now }

-- what the tape on some bytes means
abbrev pub standing_on : Height → List ℕ → Standing
standing_on height bytes = of_tape (accepted (levels height) bytes) (levels height) bytes

-- the bytes of a new tape: spaces, where they are whole lines
abbrev pub blanked : List ℕ → List ℕ
blanked bytes = if whole_lines bytes then spaces (length bytes) else bytes

-- a new tape on lent bytes, which is intact where they are whole lines
abbrev pub made : MutBor (List ℕ) → Height → Tape
made loan height = record {
  bytes = record loan { now = blanked loan.now };
  height = height;
  intact = whole_lines loan.now;
}
