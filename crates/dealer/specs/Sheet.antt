-- A key sheet: all rows of a key before they are split; and a key's part: its key sheet, split.
use Rattle.std.specs.Prelude.{ℕ, if◌then◌else◌, List, [], ◌++◌, length, Some, None, Option, ◌==◌, slice_index}
use Rattle.rows.specs.Bytes.{rows}
use Rattle.plan.specs.Shape.{Shape}
use Rattle.plan.specs.Keys.{owner}
use Rattle.lms.specs.Scheme.{prefix, component, path_row, all_components}
use Rattle.pads.specs.declared.label.Label.{Label}
use Rattle.pads.specs.Source.{Source}
use Rattle.splitting.specs.Sources.{source_of}
use Rattle.splitting.specs.Split.{members_of, split_for}

-- what key sheets and parts are made from: a hash, a plan, a tree's identifier and seed, and the
-- trustees' pad sources
pub record Deal : Type 0 where
  pub hashed : List ℕ → List ℕ
  pub plan : Shape
  pub identifier : List ℕ
  pub seed : List ℕ
  pub sources : List Source

-- the prefix of a key
abbrev pub prefix_of : Deal → ℕ → List ℕ
prefix_of d key = prefix d.hashed d.identifier d.seed key

-- level i of the path of a key, and chain i of a key at position j
abbrev pub path_of : Deal → ℕ → ℕ → List ℕ
path_of d key i = path_row d.hashed d.identifier d.seed d.plan.height d.plan.width key i

abbrev pub chain_of : Deal → ℕ → ℕ → ℕ → List ℕ
chain_of d key i j = component d.hashed d.identifier d.seed key i j

-- the check row of a trustee: her check pad for the key and its prefix
abbrev pub check_row_of : Deal → ℕ → ℕ → List ℕ
check_row_of d key t = (source_of d.sources t).check key (prefix_of d key)

-- the check rows of some trustees
abbrev pub check_rows : Deal → List ℕ → ℕ → List ℕ
check_rows d ts key = rows (length ts) (λ i. check_row_of d key (slice_index ts i))

-- the sheet of a key whose members are ts: the prefix, the check rows, the path rows from level 0, and
-- the chains, position by position
abbrev pub sheet_for : Deal → List ℕ → ℕ → List ℕ
sheet_for d ts key =
    prefix_of d key
    ++ check_rows d ts key
    ++ rows d.plan.height (path_of d key)
    ++ all_components d.hashed d.identifier d.seed d.plan.width key

-- what the group that owns a key makes of it, and nothing where none does
abbrev pub by_owner : (ℕ → List ℕ) → Option ℕ → List ℕ
by_owner made None = []
by_owner made (Some g) = made g

abbrev pub key_sheet : Deal → ℕ → List ℕ
key_sheet d key = by_owner (λ g. sheet_for d (members_of d.plan g) key) (owner d.plan key)

-- the key's part of the public table
abbrev pub key_part : Deal → ℕ → List ℕ
key_part d key = split_for d.plan d.sources key (key_sheet d key) (owner d.plan key)

-- what the row of a label holds, in the sheet of a key of group g: by the label's kind the prefix (4),
-- the check row of the member at position i (5), level i of the path (1), or chain i at position j (2)
abbrev pub content : Deal → ℕ → Label → List ℕ
content d g l =
    if l.kind == 4 then prefix_of d l.key
    else if l.kind == 5 then check_row_of d l.key (slice_index (members_of d.plan g) l.i)
    else if l.kind == 1 then path_of d l.key l.i
    else chain_of d l.key l.i l.j
