-- The plan that a value of the plan type is.
use Rattle.std.specs.Prelude.{ℕ, List, take}
use Rattle.sizes.specs.declared.height.Height.{Height}
use Rattle.sizes.specs.declared.width.Width.{Width}
use Rattle.sizes.specs.Sizes.{levels, bits}
use Rattle.plan.specs.declared.plans.Plan.{Plan}
use Rattle.plan.specs.Shape.{Shape}

abbrev pub shaped : ℕ → Height → Width → List ℕ → Shape
shaped n h w masks = record { trustees = n; height = levels h; width = bits w; masks = masks }

abbrev pub view : Plan → Shape
view p = shaped p.trustees p.height p.width (take p.groups p.masks)
