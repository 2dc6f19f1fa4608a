-- How the parts of a plan's keys lie to each other.
use Rattle.std.specs.Prelude.{◌≡◌, ℕ, ◌+◌, ◌<◌, ◌≤◌}
use Rattle.plan.specs.Shape.{Shape}
use Rattle.plan.specs.Keys.{Owns}
use Rattle.layout.specs.Table.{rows_of_group, section_of, place_in, table_rows}

-- where the part of a key of group g begins
abbrev place_of : Shape → ℕ → ℕ → ℕ
place_of p g key = place_in (section_of p g) key

pub record Places (p : Shape) : Type 0 where
  -- the part of a later key lies behind that of an earlier one
  pub apart : (g k a b : ℕ) → Owns p g a → Owns p k b → a < b →
      place_of p g a + rows_of_group p g ≤ place_of p k b
  -- and every part lies within the table
  pub inside : (g key : ℕ) → Owns p g key →
      place_of p g key + rows_of_group p g ≤ table_rows p
  -- with nothing between them: the first key's part begins the table, the next key's follows on a
  -- key's, and the last key's ends the table
  pub begins : (g : ℕ) → Owns p g 0 → place_of p g 0 ≡ 0
  pub follows : (g k key : ℕ) → Owns p g key → Owns p k (key + 1) →
      place_of p k (key + 1) ≡ place_of p g key + rows_of_group p g
  pub ends : (g key : ℕ) → Owns p g key → ((k : ℕ) → Owns p k (key + 1) → ⊥) →
      place_of p g key + rows_of_group p g ≡ table_rows p
