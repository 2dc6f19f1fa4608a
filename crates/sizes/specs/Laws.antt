-- The heights and widths are just the numbers that are offered.
use Rattle.std.specs.Prelude.{◌≡◌, ℕ, true}
use Rattle.sizes.specs.declared.height.Height.{Height}
use Rattle.sizes.specs.declared.width.Width.{Width}
use Rattle.sizes.specs.Sizes.{levels, bits, is_height, is_width}

pub record Offered : Type 0 where
  -- the levels of a height are a number that is a height, and each such number is the levels of one
  -- height
  pub heights : (h : Height) → is_height (levels h) ≡ true
  pub height : (n : ℕ) → is_height n ≡ true → (h : Height) × (levels h ≡ n)
  pub one_height : (h k : Height) → levels h ≡ levels k → h ≡ k
  -- the bits of a width are a number that is a width, and each such number is the bits of one width
  pub widths : (w : Width) → is_width (bits w) ≡ true
  pub width : (n : ℕ) → is_width n ≡ true → (w : Width) × (bits w ≡ n)
  pub one_width : (w x : Width) → bits w ≡ bits x → w ≡ x
