-- What a bitmap means.
use Rattle.std.specs.Prelude.{ℕ, ◌/◌, ◌%◌, ◌^◌, Bool, true, List, ◌==◌, slice_index, slice_set}
use Rattle.std.specs.Int.RustNames.{bit_or}
use Rattle.sizes.specs.declared.height.Height.{Height}
use Rattle.sizes.specs.Sizes.{levels}
use Rattle.ledger.specs.Standing.{Standing, of_tree}
use Rattle.ledger.specs.declared.bitmap.Bitmap.{Bitmap}

-- bit k of a row of bytes, the lowest bit of a byte first
abbrev pub marked : List ℕ → ℕ → Bool
marked marks k = (slice_index marks (k / 8) / 2 ^ (k % 8)) % 2 == 1

-- the same bytes with bit k set
abbrev pub with_mark : List ℕ → ℕ → List ℕ
with_mark marks k = slice_set marks (k / 8) (bit_or (slice_index marks (k / 8)) (2 ^ (k % 8)))

-- each marked number is spent, and so is each from 2^h on; the room is always 2^h
abbrev pub of_marks : List ℕ → ℕ → Standing
of_marks marks h = of_tree true h (marked marks) (2 ^ h)

-- a bitmap as a ledger
abbrev pub of_bitmap : Bitmap → Standing
of_bitmap b = of_marks b.marks (levels b.height)

-- the height of the tree that a bitmap is for
abbrev pub height_of : Bitmap → Height
height_of b = b.height

-- a bitmap with a key marked
abbrev pub bitmap_after : Bitmap → ℕ → Bitmap
bitmap_after b key = record b { marks = with_mark b.marks key }
