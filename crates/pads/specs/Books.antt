-- What a book means: bytes with the rows of consecutive keys.
use Rattle.std.specs.Prelude.{ℕ, ◌+◌, ◌-◌, ◌*◌, ◌/◌, ◌^◌, Bool, if◌then◌else◌, ◌&&◌, List, length, replicate, Some, None, Option, nat_le, nat_lt}
use Rattle.rows.specs.Bytes.{row_at}
use Rattle.layout.specs.Part.{part_rows}
use Rattle.pads.specs.declared.label.Label.{Label}
use Rattle.pads.specs.Labels.{check_bytes}
use Rattle.pads.specs.Labelled.{row_of}
use Rattle.pads.specs.Source.{Source}

-- each key has rows for eight members, whatever the size of its group
abbrev pub rows_of_key : ℕ → ℕ → ℕ
rows_of_key h w = part_rows h w 8

-- a key is held if it is one of the tree and all its rows are there
abbrev pub book_holds : ℕ → ℕ → ℕ → List ℕ → ℕ → Bool
book_holds h w first bytes key =
    nat_le first key
    && (nat_lt key (2 ^ h) && nat_lt (key - first) (length bytes / (32 * rows_of_key h w)))

-- a row of the key whose rows begin at a place, or zeros
abbrev pub row_at_place : List ℕ → ℕ → Option ℕ → List ℕ
row_at_place bytes start None = replicate 32 0
row_at_place bytes start (Some r) = row_at (start + r) bytes

-- the row of a label, or zeros
abbrev pub book_pad : ℕ → ℕ → ℕ → List ℕ → Label → List ℕ
book_pad h w first bytes l =
    if book_holds h w first bytes l.key
    then row_at_place bytes (rows_of_key h w * (l.key - first)) (row_of 8 h w l)
    else replicate 32 0

-- a book as a source
abbrev pub of_book : ℕ → ℕ → ℕ → List ℕ → (List ℕ → List ℕ) → Source
of_book h w first bytes mac = record {
  held = book_holds h w first bytes;
  pad = book_pad h w first bytes;
  check = λ k prefix. mac (check_bytes k prefix);
}
