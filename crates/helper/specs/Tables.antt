-- What a table's bytes mean, where each key has a section or none.
use Rattle.std.specs.Prelude.{ℕ, ◌+◌, ◌-◌, ◌/◌, min, List, [], length, Some, None, Option}
use Rattle.std.specs.Option.{option_map}
use Rattle.rows.specs.Bytes.{row_at}
use Rattle.plan.specs.Shape.{Shape}
use Rattle.plan.specs.Keys.{owner}
use Rattle.layout.specs.declared.section.Section.{Section}
use Rattle.layout.specs.Table.{place_in, section_of, find}
use Rattle.helper.specs.declared.table.Table.{Table}
use Rattle.helper.specs.Holding.{Holding}

-- of the rows of a part, as many as some bytes have whole
abbrev pub whole : ℕ → List ℕ → ℕ
whole rows bytes = min rows (length bytes / 32)

-- of a key's part, as many rows as are there whole; a key without a section has none
abbrev pub number_in : List ℕ → ℕ → Option Section → ℕ
number_in bytes key None = 0
number_in bytes key (Some s) = min s.rows (length bytes / 32 - place_in s key)

-- they stand one behind another from the key's place on
abbrev pub row_in : List ℕ → ℕ → ℕ → Option Section → List ℕ
row_in bytes key index None = []
row_in bytes key index (Some s) = row_at (place_in s key + index) bytes

-- bytes as a helper, given each key's section
abbrev pub laid_out : List ℕ → (ℕ → Option Section) → Holding
laid_out bytes section = record {
  number = λ key. number_in bytes key (section key);
  row = λ key index. row_in bytes key index (section key);
}

-- in a plan's table a key has the section of its owner
abbrev pub of_plan : List ℕ → Shape → Holding
of_plan bytes p = laid_out bytes (λ key. option_map (section_of p) (owner p key))

-- a table finds it among its sections
abbrev pub of_table : Table → Holding
of_table t = laid_out t.bytes.now (find t.sections.all)
