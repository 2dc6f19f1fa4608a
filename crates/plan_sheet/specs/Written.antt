-- The one sheet of a plan.
use Rattle.std.specs.Prelude.{ℕ, ◌-◌, ◌*◌, List, [], ◌∷◌, ◌++◌, length}
use Rattle.std.specs.List.{flat_map}
use Rattle.plan.specs.Shape.{Shape}
use Rattle.plan.specs.Members.{members}
use Rattle.columns.specs.Number.{right, spaces}

-- n, h, w and m in four fields of 6
abbrev pub heading : ℕ → ℕ → ℕ → ℕ → List ℕ
heading n h w m = flat_map (right 6) (n ∷ h ∷ w ∷ m ∷ []) ++ 10 ∷ []

-- trustee numbers in eight fields of 3, blank at the end
abbrev pub group_line : ℕ → List ℕ
group_line mask =
    flat_map (right 3) (members mask)
    ++ spaces (24 - 3 * length (members mask))
    ++ 10 ∷ []

-- a plan's sheet: its heading, and a line for each group
unfoldable pub written : Shape → List ℕ
written p = heading p.trustees p.height p.width (length p.masks) ++ flat_map group_line p.masks
