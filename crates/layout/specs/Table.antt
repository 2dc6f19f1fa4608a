-- Where each part lies in the public table: the parts of the dealt keys one behind another, by
-- rising key. All numbers count rows.
use Rattle.std.specs.Prelude.{ℕ, zero, suc, ◌+◌, ◌-◌, ◌*◌, if◌then◌else◌, List, length, Some, None, Option, ◌==◌}
use Rattle.std.specs.List.{find as first_with}
use Rattle.plan.specs.Shape.{Shape}
use Rattle.plan.specs.Keys.{first_key, key_count, in_range, owner}
use Rattle.plan.specs.Groups.{members_of}
use Rattle.layout.specs.declared.section.Section.{Section}
use Rattle.layout.specs.Part.{part_rows}

-- how many rows each part of group g has
abbrev pub rows_of_group : Shape → ℕ → ℕ
rows_of_group p g = part_rows p.height p.width (length (members_of p g))

-- how many rows lie before those of group g
unfoldable pub start_of : Shape → ℕ → ℕ
start_of p zero = 0
start_of p (suc g) = start_of p g + key_count p g * rows_of_group p g

-- the whole table
abbrev pub table_rows : Shape → ℕ
table_rows p = start_of p (length p.masks)

-- the parts of one group lie together, in a section
abbrev pub section_of : Shape → ℕ → Section
section_of p g = record {
  first = first_key p g;
  count = key_count p g;
  rows = rows_of_group p g;
  start = start_of p g;
}

-- a section that no group has
abbrev pub unused : Section
unused = record { first = 0; count = 0; rows = 0; start = 0 }

-- where the part of a key of a section begins
abbrev pub place_in : Section → ℕ → ℕ
place_in s key = s.start + (key - s.first) * s.rows

-- of some sections, the first whose keys have a key
abbrev pub find : List Section → ℕ → Option Section
find sections key = first_with (λ s. in_range s.first s.count key) sections

-- ---- in a buffer of n bytes
-- what the owner of a key gives it in a buffer of the whole table's length; elsewhere, and to a key
-- without an owner, nothing
abbrev pub by_owner : (ℕ → ℕ) → Option ℕ → ℕ
by_owner f None = 0
by_owner f (Some g) = f g

abbrev pub in_table : Shape → ℕ → ℕ → (ℕ → ℕ) → ℕ
in_table p key n f = if n == 32 * table_rows p then by_owner f (owner p key) else 0

-- where the bytes of a key's part begin, and how many they are
abbrev pub part_start : Shape → ℕ → ℕ → ℕ
part_start p key n = in_table p key n (λ g. 32 * place_in (section_of p g) key)

abbrev pub part_size : Shape → ℕ → ℕ → ℕ
part_size p key n = in_table p key n (λ g. 32 * rows_of_group p g)
