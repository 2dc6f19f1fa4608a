-- Each refusal's public number, and the line and field that it names.
use Rattle.std.specs.Prelude.{ℕ, List, [], ◌∷◌}
use Rattle.std.specs.List.{flat_map}
use Rattle.columns.specs.Number.{right}
use Rattle.plan_sheet.specs.declared.refusal.Refusal.{Refusal}
use Rattle.plan_sheet.specs.declared.refusal.Refusal.TheVariants.{Layout, NoNumber, OutOfRange, Members, Groups}

abbrev pub number_of : Refusal → ℕ
number_of Layout = 1
number_of (NoNumber line field) = 2
number_of (OutOfRange line field) = 3
number_of (Members line) = 4
number_of Groups = 5

abbrev pub line_of : Refusal → ℕ
line_of Layout = 0
line_of (NoNumber line field) = line
line_of (OutOfRange line field) = line
line_of (Members line) = line
line_of Groups = 1

abbrev pub field_of : Refusal → ℕ
field_of Layout = 0
field_of (NoNumber line field) = field
field_of (OutOfRange line field) = field
field_of (Members line) = 0
field_of Groups = 4

-- how it is printed: the three, in fields of 6
abbrev pub places : Refusal → List ℕ
places e = flat_map (right 6) (number_of e ∷ line_of e ∷ field_of e ∷ [])
