-- What holds of labels and of every book, in words of the subject.
use Rattle.std.specs.Prelude.{◌≡◌, ◌≢◌, ◌↔◌, ℕ, ◌+◌, ◌-◌, ◌*◌, ◌^◌, ◌<◌, ◌≤◌, ◌==◌, true, false, if◌then◌else◌, ◌⊎◌, List, length, replicate, Some, None}
use Rattle.rows.specs.Bytes.{row_at}
use Rattle.lms.specs.Scheme.{components, positions}
use Rattle.layout.specs.Part.{part_rows}
use Rattle.pads.specs.declared.label.Label.{Label}
use Rattle.pads.specs.Labels.{label_bytes, check_bytes, InRange}
use Rattle.pads.specs.Labelled.{prefix_label, check_row_label, path_label, chain_label, label_at, row_of}
use Rattle.pads.specs.Books.{rows_of_key, book_holds, book_pad}

-- by its bytes a label is told from every other, and from the label of every check pad
pub record Naming : Type 0 where
  -- a label has 8 bytes, and a check pad's label has 8 in front of the prefix
  pub long : (l : Label) → length (label_bytes l) ≡ 8
  pub check_long : (key : ℕ) (prefix : List ℕ) → length (check_bytes key prefix) ≡ 8 + length prefix
  -- the same bytes are those of one label
  pub labels : (a b : Label) → InRange a → InRange b → label_bytes a ≡ label_bytes b → a ≡ b
  -- which is no check pad's
  pub apart : (l : Label) (key : ℕ) (prefix : List ℕ) → 0 < length prefix →
      label_bytes l ≢ check_bytes key prefix
  -- and check pads' labels with the same bytes are of one key and one prefix
  pub checks : (a b : ℕ) (x y : List ℕ) → a < 2 ^ 32 → b < 2 ^ 32 →
      check_bytes a x ≡ check_bytes b y → (a ≡ b) × (x ≡ y)

-- prefixes come first, then check rows, path rows and chains
abbrev pub turn : ℕ → ℕ
turn kind = if kind == 4 then 0 else if kind == 5 then 1 else if kind == 1 then 2 else 3

-- a label before another: by its kind's turn, and within a kind by rising i, and then j
abbrev pub Before : Label → Label → Type 0
Before a b =
    (turn a.kind < turn b.kind)
    ⊎ ((a.kind ≡ b.kind) × ((a.i < b.i) ⊎ ((a.i ≡ b.i) × (a.j < b.j))))

-- the labels of the rows of a key's part, in a group of k members, for trees of height h and width w
pub record Labelling : Type 0 where
  -- the prefix is row 0, the check row of the member at position i row 1 + i,
  pub prefix : (k h w key : ℕ) → row_of k h w (prefix_label key) ≡ Some 0
  pub check_row : (k h w key i : ℕ) → i < k → row_of k h w (check_row_label key i) ≡ Some (1 + i)
  -- level i of the path row 1 + k + i, and chain i at position j row 1 + k + h + i * 2^w + j
  pub path : (k h w key i : ℕ) → i < h → row_of k h w (path_label key i) ≡ Some (1 + k + i)
  pub chain : (k h w key i j : ℕ) → i < components w → j < positions w →
      row_of k h w (chain_label key i j) ≡ Some (1 + k + h + i * positions w + j)
  -- each row has a label of its own, which is one of the key
  pub there : (k h w key n : ℕ) → n < part_rows h w k →
      row_of k h w (label_at k h w key n) ≡ Some n
  pub of_key : (k h w key n : ℕ) → (label_at k h w key n).key ≡ key
  -- and each label that has a row is the label of this row
  pub back : (k h w n : ℕ) (l : Label) → row_of k h w l ≡ Some n →
      (n < part_rows h w k) × (label_at k h w l.key n ≡ l)
  -- rows rise with their labels
  pub rising : (k h w key n m : ℕ) → n < m → m < part_rows h w k →
      Before (label_at k h w key n) (label_at k h w key m)

-- a key of the tree of which all rows are there, in a book that begins with the key `first`
pub record Whole (h w first : ℕ) (bytes : List ℕ) (key : ℕ) : Type 0 where
  pub from : first ≤ key
  pub below : key < 2 ^ h
  pub rows : 32 * (rows_of_key h w * (key - first + 1)) ≤ length bytes

pub record Booking : Type 0 where
  pub labels : Labelling
  -- a book holds just these keys
  pub holds : (h w first : ℕ) (bytes : List ℕ) (key : ℕ) →
      (book_holds h w first bytes key ≡ true) ↔ Whole h w first bytes key
  -- row by row its bytes are the pads of the keys that it holds
  pub rows : (h w first : ℕ) (bytes : List ℕ) (key n : ℕ) →
      book_holds h w first bytes key ≡ true → n < rows_of_key h w →
      row_at (rows_of_key h w * (key - first) + n) bytes
      ≡ book_pad h w first bytes (label_at 8 h w key n)
  -- and all other pads are zeros
  pub cut : (h w first : ℕ) (bytes : List ℕ) (l : Label) →
      book_holds h w first bytes l.key ≡ false → book_pad h w first bytes l ≡ replicate 32 0
  pub others : (h w first : ℕ) (bytes : List ℕ) (l : Label) →
      row_of 8 h w l ≡ None → book_pad h w first bytes l ≡ replicate 32 0
