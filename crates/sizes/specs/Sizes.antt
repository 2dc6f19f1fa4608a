-- The sizes that are offered, as numbers.
use Rattle.std.specs.Prelude.{ℕ, Bool, ◌||◌, ◌==◌}
use Rattle.sizes.specs.declared.height.Height.{Height}
use Rattle.sizes.specs.declared.height.Height.TheVariants.{Five, Ten}
use Rattle.sizes.specs.declared.width.Width.{Width}
use Rattle.sizes.specs.declared.width.Width.TheVariants.{One, Two, Four, Eight}

-- a height in levels
abbrev pub levels : Height → ℕ
levels Five = 5
levels Ten = 10

-- a width in bits
abbrev pub bits : Width → ℕ
bits One = 1
bits Two = 2
bits Four = 4
bits Eight = 8

-- which numbers are heights, and which are widths
abbrev pub is_height : ℕ → Bool
is_height h = h == 5 || h == 10

abbrev pub is_width : ℕ → Bool
is_width w = w == 1 || (w == 2 || (w == 4 || w == 8))
