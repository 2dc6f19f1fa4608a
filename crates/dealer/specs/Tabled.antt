-- Parts in the public table.
use Rattle.std.specs.Prelude.{ℕ, Bool, ◌+◌, ◌*◌, ◌<◌, List, [], ◌∷◌, ◌++◌, length, take, drop, Some, None, Option, Contains, ◌==◌}
use Rattle.std.specs.List.{list_all, range_with_len}
use Rattle.std.specs.Option.{option_map}
use Rattle.plan.specs.Shape.{Shape}
use Rattle.plan.specs.Keys.{first_key, owner}
use Rattle.layout.specs.Table.{table_rows, section_of, place_in}
use Rattle.pads.specs.Source.{Source}
use Rattle.splitting.specs.Sources.{distinct, all_hold}
use Rattle.splitting.specs.Split.{members_of, of_owner, refusal_if}
use Rattle.dealer.specs.declared.refusal.Refusal.{Refusal}
use Rattle.dealer.specs.declared.refusal.Refusal.TheVariants.{Sources, SameChecks, Buffer, NotHeld}
use Rattle.dealer.specs.Refusals.{handed_on}

-- some bytes with others in place of those from `at` on
abbrev pub written_at : ℕ → List ℕ → List ℕ → List ℕ
written_at at part table = take at table ++ part ++ drop (at + length part) table

abbrev pub at_place : Shape → ℕ → List ℕ → List ℕ → Option ℕ → List ℕ
at_place p key part table None = table
at_place p key part table (Some g) = written_at (32 * place_in (section_of p g) key) part table

-- a table with the part of a key at the key's place
abbrev pub tabled : Shape → ℕ → List ℕ → List ℕ → List ℕ
tabled p key part table = at_place p key part table (owner p key)

-- what is refused of a key's part in a table of n bytes: what splitting refuses, but the buffer is to
-- have the length of the whole table
abbrev pub part_refusal : Shape → List Source → ℕ → ℕ → Option Refusal
part_refusal p sources key n =
    option_map handed_on (refusal_if p sources key (λ _. n == 32 * table_rows p))

-- ---- parts of many keys
-- a table with the parts of some keys dealt into it, one after the other
abbrev pub dealt_all : Shape → (ℕ → List ℕ) → List ℕ → List ℕ → List ℕ
dealt_all p parts [] table = table
dealt_all p parts (key ∷ keys) table = dealt_all p parts keys (tabled p key (parts key) table)

-- how many keys are dealt: those from 0 on, up to the end of the last group's
abbrev pub dealt_keys : Shape → ℕ
dealt_keys p = first_key p (length p.masks)

-- these, by rising number
abbrev pub all_keys : Shape → List ℕ
all_keys p = range_with_len 0 (dealt_keys p)

-- the sources of all members of the group that owns a key hold it
abbrev pub held_by_owner : Shape → List Source → ℕ → Bool
held_by_owner p sources key = of_owner (λ g. all_hold sources (members_of p g) key) (owner p key)

-- what is checked before a whole table is dealt into n bytes, in this order: as many sources as
-- trustees, no two that clash, a buffer of the table's length, and every dealt key is held by the
-- sources of all members of its group
abbrev pub table_checks : Shape → List Source → ℕ → List (Bool × Refusal)
table_checks p sources n =
    (length sources == p.trustees, Sources)
    ∷ (distinct sources, SameChecks)
    ∷ (n == 32 * table_rows p, Buffer)
    ∷ (list_all (held_by_owner p sources) (all_keys p), NotHeld)
    ∷ []

-- every dealt key is among these
abbrev pub AllDealt : Shape → List ℕ → Type 0
AllDealt p keys = (key : ℕ) → key < dealt_keys p → Contains keys key
