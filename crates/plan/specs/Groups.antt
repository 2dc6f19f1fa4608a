-- A group of a plan as a value.
use Rattle.std.specs.Prelude.{◌≡◌, ℕ, Bool, if◌then◌else◌, List, map, length, Some, None, Option, nat_lt, slice_index}
use Rattle.std.specs.List.{range_with_len}
use Rattle.std.specs.Option.{option_map}
use Rattle.plan.specs.declared.group.Group.{Group}
use Rattle.plan.specs.Shape.{Shape, Valid}
use Rattle.plan.specs.Members.{members}
use Rattle.plan.specs.Keys.{first_key, key_count, in_range, owner}

-- group g of a plan
abbrev pub group_of : Shape → ℕ → Group
group_of p g = record {
  number = g;
  mask = slice_index p.masks g;
  first = first_key p g;
  count = key_count p g;
}

-- the same, or none where the plan lacks it
abbrev pub group_at : Shape → ℕ → Option Group
group_at p g = if nat_lt g (length p.masks) then Some (group_of p g) else None

-- the group that owns a key, or none
abbrev pub owning : Shape → ℕ → Option Group
owning p key = option_map (group_of p) (owner p key)

-- whether a group owns a key
abbrev pub owns_key : Group → ℕ → Bool
owns_key g key = in_range g.first g.count key

-- all groups, in order
abbrev pub groups : Shape → List Group
groups p = map (group_of p) (range_with_len 0 (length p.masks))

-- the members of group g, rising
abbrev pub members_of : Shape → ℕ → List ℕ
members_of p g = members (slice_index p.masks g)

-- a value that is a group of some plan
abbrev pub IsOfPlan : Group → Type 0
IsOfPlan group = (p : Shape) × (n : ℕ) × Valid p × (group_at p n ≡ Some group)
