-- What the rows of key sheets and parts hold, and what a table holds and lends once parts were dealt
-- into it.
use Rattle.std.specs.Prelude.{◌≡◌, ◌≢◌, ℕ, ◌+◌, ◌*◌, ◌<◌, List, [], ◌∷◌, ◌++◌, length, Some, None, All, Contains}
use Rattle.rows.specs.Bytes.{row_at}
use Rattle.plan.specs.Shape.{Shape}
use Rattle.plan.specs.Keys.{owner}
use Rattle.layout.specs.Table.{rows_of_group, table_rows, section_of, place_in}
use Rattle.pads.specs.declared.label.Label.{Label}
use Rattle.splitting.specs.Sources.{padded}
use Rattle.splitting.specs.Split.{members_of, part_row}
use Rattle.helper.specs.Holding.{HoldsPart}
use Rattle.helper.specs.Tables.{of_plan}
use Rattle.dealer.specs.Sheet.{Deal, key_sheet, key_part, content}
use Rattle.dealer.specs.Tabled.{tabled, dealt_all, AllDealt}

-- each row of a key's sheet holds what its label says
abbrev pub Labelled : Deal → ℕ → List ℕ → Type 0
Labelled d key sheet =
    (g n : ℕ) (l : Label) → owner d.plan key ≡ Some g → l.key ≡ key →
    part_row d.plan g l ≡ Some n → row_at n sheet ≡ content d g l

pub record KeySheets (d : Deal) : Type 0 where
  -- a dealt key's sheet has the rows of its part, and each holds what its label says
  pub long : (g key : ℕ) → owner d.plan key ≡ Some g →
      length (key_sheet d key) ≡ 32 * rows_of_group d.plan g
  pub labelled : (key : ℕ) → Labelled d key (key_sheet d key)
  -- the part is as long, and each row holds the same with the pads of all members added
  pub part_long : (g key : ℕ) → owner d.plan key ≡ Some g →
      length (key_part d key) ≡ 32 * rows_of_group d.plan g
  pub part : (g key n : ℕ) (l : Label) → owner d.plan key ≡ Some g → l.key ≡ key →
      part_row d.plan g l ≡ Some n →
      row_at n (key_part d key) ≡ padded d.sources (members_of d.plan g) l (content d g l)

-- row n of the place that the part of a key of group g has in a table
abbrev pub row_in_place : Shape → ℕ → ℕ → ℕ → List ℕ → List ℕ
row_in_place p g key n table = row_at (place_in (section_of p g) key + n) table

-- a whole table: a helper on it holds just the part of each dealt key, and nothing of any other
pub record IsTable (p : Shape) (parts : ℕ → List ℕ) (table : List ℕ) : Type 0 where
  pub long : length table ≡ 32 * table_rows p
  pub dealt : (g key : ℕ) → owner p key ≡ Some g → HoldsPart (of_plan table p) key (parts key)
  pub undealt : (key : ℕ) → owner p key ≡ None → (of_plan table p).number key ≡ 0

-- parts of the lengths that the owners' parts have
abbrev pub PartsFit : Shape → (ℕ → List ℕ) → List ℕ → Type 0
PartsFit p parts keys =
    All (λ a. (g : ℕ) → owner p a ≡ Some g → length (parts a) ≡ 32 * rows_of_group p g) keys

pub record Tabling (p : Shape) : Type 0 where
  -- a key's part stands at the key's place
  pub own : (g key : ℕ) (part table : List ℕ) → owner p key ≡ Some g →
      length table ≡ 32 * table_rows p → length part ≡ 32 * rows_of_group p g →
      (n : ℕ) → n < rows_of_group p g →
      row_in_place p g key n (tabled p key part table) ≡ row_at n part
  -- and the parts of all other dealt keys stay
  pub others : (g k a b : ℕ) (part table : List ℕ) →
      owner p a ≡ Some g → owner p b ≡ Some k → a ≢ b →
      length table ≡ 32 * table_rows p → length part ≡ 32 * rows_of_group p g →
      (n : ℕ) → n < rows_of_group p k →
      row_in_place p k b n (tabled p a part table) ≡ row_in_place p k b n table
  -- the length stays
  pub long : (g key : ℕ) (part table : List ℕ) → owner p key ≡ Some g →
      length table ≡ 32 * table_rows p → length part ≡ 32 * rows_of_group p g →
      length (tabled p key part table) ≡ 32 * table_rows p
  -- to deal one key more is to put its part at its place
  pub more : (parts : ℕ → List ℕ) (keys : List ℕ) (key : ℕ) (table : List ℕ) →
      dealt_all p parts (keys ++ key ∷ []) table
      ≡ tabled p key (parts key) (dealt_all p parts keys table)
  -- parts may be dealt in any order, and again, over any bytes: afterwards each key among those dealt
  -- has its part at its place
  pub order : (parts : ℕ → List ℕ) (keys table : List ℕ) →
      length table ≡ 32 * table_rows p → PartsFit p parts keys →
      (g key n : ℕ) → Contains keys key → owner p key ≡ Some g → n < rows_of_group p g →
      row_in_place p g key n (dealt_all p parts keys table) ≡ row_at n (parts key)
  -- so that of each key among them a helper holds just the part
  pub lends : (parts : ℕ → List ℕ) (keys table : List ℕ) →
      length table ≡ 32 * table_rows p → PartsFit p parts keys →
      (g key : ℕ) → Contains keys key → owner p key ≡ Some g →
      HoldsPart (of_plan (dealt_all p parts keys table) p) key (parts key)
  -- and once all dealt keys are among them, the table is whole
  pub whole : (parts : ℕ → List ℕ) (keys table : List ℕ) →
      length table ≡ 32 * table_rows p → PartsFit p parts keys → AllDealt p keys →
      IsTable p parts (dealt_all p parts keys table)
