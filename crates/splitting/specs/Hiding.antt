-- What a part hides of the rows that were split.
use Rattle.std.specs.Prelude.{◌≡◌, ◌≢◌, ℕ, ◌<◌, ◌≤◌, ◌⊎◌, List, map, length, replicate, Some, None, Ok, Contains}
use Rattle.hash.specs.Bytes.{Bytes}
use Rattle.rows.specs.Bytes.{row_at, xored}
use Rattle.plan.specs.Shape.{Shape}
use Rattle.plan.specs.Keys.{owner}
use Rattle.layout.specs.Table.{rows_of_group}
use Rattle.pads.specs.declared.label.Label.{Label}
use Rattle.pads.specs.Row.{AllRows}
use Rattle.pads.specs.Source.{Source}
use Rattle.splitting.specs.Sources.{source_of, pad_of, padded}
use Rattle.splitting.specs.Split.{members_of, part_label, part_row, refusal, split}

-- what a source is apart from its pads: the keys that it holds, and its check pads
abbrev pub without_pads : Source → Source
without_pads s = record { held = s.held; pad = λ l. replicate 32 0; check = s.check }

-- trustee by trustee, sources that hold the same keys and have the same check pads
abbrev pub DifferInPads : List Source → List Source → Type 0
DifferInPads old new = map without_pads old ≡ map without_pads new

-- of some members' pads at a label one alone changes, by d
pub record OneChanges (old new : List Source) (ts : List ℕ) (l : Label) (d : List ℕ) : Type 0 where
  pub t : ℕ
  pub member : Contains ts t
  pub hers : pad_of new t l ≡ xored (pad_of old t l) d
  pub long : length d ≤ length (pad_of old t l)
  pub others : (u : ℕ) → u ≢ t → pad_of new u l ≡ pad_of old u l

-- the sources of a ring, and rows of a key to be split among them
pub record Dealing : Type 0 where
  pub sources : List Source
  pub sheet : List ℕ

-- each row of a key of group g changes by some d, and with it one member's pad at its label; all else
-- stays
pub record ChangeTogether (p : Shape) (g key : ℕ) (old new : Dealing) : Type 0 where
  pub sources : DifferInPads old.sources new.sources
  pub long : length new.sheet ≡ length old.sheet
  pub change : ℕ → List ℕ
  pub row : (n : ℕ) → n < rows_of_group p g →
      row_at n new.sheet ≡ xored (row_at n old.sheet) (change n)
  pub pad : (n : ℕ) → n < rows_of_group p g →
      OneChanges old.sources new.sources (members_of p g) (part_label p g key n) (change n)

-- other pads of trustee t, at the labels of one key's rows alone, with which other rows are dealt as
-- this part
pub record OtherPads (p : Shape) (g key t : ℕ) (old : List Source) (other part : List ℕ) : Type 0
  where
    pub new : List Source
    pub alike : DifferInPads old new
    pub others : (u : ℕ) (l : Label) → u ≢ t → pad_of new u l ≡ pad_of old u l
    pub kept : (l : Label) → (l.key ≢ key) ⊎ (part_row p g l ≡ None) →
        pad_of new t l ≡ pad_of old t l
    pub rows : AllRows (source_of new t).pad
    pub same : split p new key other ≡ Ok part

pub record Hiding : Type 0 where
  -- what is refused depends on which keys are held and on check pads, and on no pad
  pub refusals : (p : Shape) (old new : List Source) (key n : ℕ) → DifferInPads old new →
      refusal p old key n ≡ refusal p new key n
  -- a row of a part stays the same where the row that was split and one member's pad at its label
  -- change by one d
  pub row : (p : Shape) (g : ℕ) (old new : List Source) (l : Label) (d row : List ℕ) →
      OneChanges old new (members_of p g) l d →
      padded new (members_of p g) l (xored row d) ≡ padded old (members_of p g) l row
  -- and so does the whole part, whichever member's pad it is at each row
  pub parts : (p : Shape) (g key : ℕ) (old new : Dealing) →
      owner p key ≡ Some g → ChangeTogether p g key old new →
      split p new.sources key new.sheet ≡ split p old.sources key old.sheet
  -- so a part tells nothing of its rows without one member's pads: any others of the length would give
  -- it, with some other pads of hers
  pub any_rows : (p : Shape) (g key t : ℕ) (sources : List Source) (sheet other part : List ℕ) →
      owner p key ≡ Some g → Contains (members_of p g) t → AllRows (source_of sources t).pad →
      Bytes sheet → Bytes other → length other ≡ length sheet →
      split p sources key sheet ≡ Ok part → OtherPads p g key t sources other part
