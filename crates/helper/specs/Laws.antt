-- What a table lends, in words of the subject.
use Rattle.std.specs.Prelude.{◌≡◌, ℕ, ◌+◌, ◌*◌, ◌<◌, ◌≤◌, List, length, Some, None}
use Rattle.rows.specs.Bytes.{row_at}
use Rattle.plan.specs.Shape.{Shape}
use Rattle.plan.specs.Keys.{owner}
use Rattle.layout.specs.Table.{rows_of_group, table_rows, section_of, place_in}
use Rattle.helper.specs.Holding.{HoldsPart}
use Rattle.helper.specs.Tables.{of_plan}

-- a row of a key's part that lies whole within some bytes
pub record There (p : Shape) (bytes : List ℕ) (g key index : ℕ) : Type 0 where
  pub in_part : index < rows_of_group p g
  pub in_bytes : 32 * (place_in (section_of p g) key + index) + 32 ≤ length bytes

-- all rows of a part of a key of group g, in some bytes from the key's place on
pub record PartAtPlace (p : Shape) (bytes : List ℕ) (g key : ℕ) (part : List ℕ) : Type 0 where
  pub long : length part ≡ 32 * rows_of_group p g
  pub inside : 32 * (place_in (section_of p g) key + rows_of_group p g) ≤ length bytes
  pub row : (n : ℕ) → n < rows_of_group p g →
      row_at (place_in (section_of p g) key + n) bytes ≡ row_at n part

pub record Lending (p : Shape) : Type 0 where
  -- of a dealt key just these rows are held
  pub there : (bytes : List ℕ) (g key index : ℕ) → owner p key ≡ Some g →
      index < (of_plan bytes p).number key → There p bytes g key index
  pub held : (bytes : List ℕ) (g key index : ℕ) → owner p key ≡ Some g →
      There p bytes g key index → index < (of_plan bytes p).number key
  -- each from its place
  pub row : (bytes : List ℕ) (g key index : ℕ) → owner p key ≡ Some g →
      (of_plan bytes p).row key index ≡ row_at (place_in (section_of p g) key + index) bytes
  -- so all of them, once the bytes are a whole table
  pub all : (bytes : List ℕ) (g key : ℕ) → owner p key ≡ Some g →
      32 * table_rows p ≤ length bytes → (of_plan bytes p).number key ≡ rows_of_group p g
  -- and just the key's part, where that stands at the key's place
  pub part : (bytes : List ℕ) (g key : ℕ) (part : List ℕ) → owner p key ≡ Some g →
      PartAtPlace p bytes g key part → HoldsPart (of_plan bytes p) key part
  -- and of a key that is not dealt none
  pub undealt : (bytes : List ℕ) (key : ℕ) → owner p key ≡ None →
      (of_plan bytes p).number key ≡ 0
