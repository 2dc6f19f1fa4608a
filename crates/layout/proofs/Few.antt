-- How many rows there are at most.
use Rattle.std.proofs.Common.{ℕ, ◌*◌, ◌≤◌, length, arith}
use Rattle.sizes.specs.declared.height.Height.{Height}
use Rattle.sizes.specs.declared.width.Width.{Width}
use Rattle.sizes.specs.declared.width.Width.TheVariants.{One, Two, Four, Eight}
use Rattle.sizes.specs.Sizes.{levels, bits}
use Rattle.sizes.proofs.Heights.{levels_most}
use Rattle.plan.specs.Members.{members}
use Rattle.plan.proofs.Membership.{members_few}
use Rattle.lms.specs.Scheme.{components, positions}
use Rattle.layout.specs.Part.{part_rows}

pub components_few : (w : Width) → components (bits w) * positions (bits w) ≤ 8704
components_few One = omega arith
components_few Two = omega arith
components_few Four = omega arith
components_few Eight = omega arith

pub part_few : (h : Height) (w : Width) (mask : ℕ) → part_rows (levels h) (bits w) (length (members mask)) ≤ 8723
part_few h w mask = omega (arith, members_few mask, levels_most h, components_few w)
