-- What splitting does and undoes, and where each label stands.
use Rattle.std.specs.Prelude.{◌≡◌, ◌≢◌, ℕ, ◌*◌, ◌<◌, true, List, [], ◌∷◌, ◌++◌, length, replicate, slice_index, slice_index_or, Some, Ok}
use Rattle.rows.specs.Bytes.{row_at, xored}
use Rattle.plan.specs.Shape.{Shape}
use Rattle.plan.specs.Keys.{owner}
use Rattle.layout.specs.Table.{rows_of_group}
use Rattle.pads.specs.declared.label.Label.{Label}
use Rattle.pads.specs.Source.{Source}
use Rattle.pads.specs.Laws.{Labelling}
use Rattle.splitting.specs.Sources.{no_source, source_of, pad_of, padded}
use Rattle.splitting.specs.Split.{members_of, part_label, split}

-- source number i, from 0
abbrev pub source_at : List Source → ℕ → Source
source_at sources i = slice_index_or sources i no_source

-- what must be so for a key to be split, with n bytes of rows
pub record Fit (p : Shape) (sources : List Source) (key n : ℕ) : Type 0 where
  -- one source a trustee, and no two that both hold key 0 and have the same check pad for it and a
  -- zero prefix
  pub all : length sources ≡ p.trustees
  pub apart : (i j : ℕ) → i < j → j < length sources →
      (source_at sources i).held 0 ≡ true → (source_at sources j).held 0 ≡ true →
      (source_at sources i).check 0 (replicate 32 0) ≢ (source_at sources j).check 0 (replicate 32 0)
  -- a dealt key, rows for its part, and every member's source holds it
  pub g : ℕ
  pub owns : owner p key ≡ Some g
  pub long : n ≡ 32 * rows_of_group p g
  pub held : (i : ℕ) → i < length (members_of p g) →
      (source_of sources (slice_index (members_of p g) i)).held key ≡ true

pub record Splitting : Type 0 where
  -- just such keys are split
  pub fits : (p : Shape) (sources : List Source) (key : ℕ) (sheet part : List ℕ) →
      split p sources key sheet ≡ Ok part → Fit p sources key (length sheet)
  pub splits : (p : Shape) (sources : List Source) (key : ℕ) (sheet : List ℕ) →
      Fit p sources key (length sheet) → (part : List ℕ) × (split p sources key sheet ≡ Ok part)
  -- the length stays, and splitting twice gives the rows back
  pub long : (p : Shape) (sources : List Source) (key : ℕ) (sheet part : List ℕ) →
      split p sources key sheet ≡ Ok part → length part ≡ length sheet
  pub twice : (p : Shape) (sources : List Source) (key : ℕ) (sheet part : List ℕ) →
      split p sources key sheet ≡ Ok part → split p sources key part ≡ Ok sheet
  -- every member's pad is in: with it taken off, what is left is what the others' pads make, and no
  -- pads make nothing
  pub none : (sources : List Source) (l : Label) (row : List ℕ) → padded sources [] l row ≡ row
  pub each : (sources : List Source) (ss us : List ℕ) (t : ℕ) (l : Label) (row : List ℕ) →
      xored (padded sources (ss ++ t ∷ us) l row) (pad_of sources t l)
      ≡ padded sources (ss ++ us) l row
  -- pads come off as they came on, and in any order of members
  pub off : (sources : List Source) (ts : List ℕ) (l : Label) (row : List ℕ) →
      padded sources ts l (padded sources ts l row) ≡ row
  pub anywhere : (sources : List Source) (ss us : List ℕ) (t : ℕ) (l : Label) (row : List ℕ) →
      padded sources (ss ++ t ∷ us) l row ≡ padded sources (t ∷ ss ++ us) l row
  -- a part's rows are those that were split, with the pads of all members of the key's group; and with
  -- these added again they are the rows that were split
  pub hidden : (p : Shape) (sources : List Source) (key g : ℕ) (sheet part : List ℕ) →
      split p sources key sheet ≡ Ok part → owner p key ≡ Some g →
      (n : ℕ) → n < rows_of_group p g →
      row_at n part ≡ padded sources (members_of p g) (part_label p g key n) (row_at n sheet)
  pub rows_back : (p : Shape) (sources : List Source) (key g : ℕ) (sheet part : List ℕ) →
      split p sources key sheet ≡ Ok part → owner p key ≡ Some g →
      (n : ℕ) → n < rows_of_group p g →
      padded sources (members_of p g) (part_label p g key n) (row_at n part) ≡ row_at n sheet
  -- each row of a part has a label of its own, and each such label a row
  pub labels : Labelling
