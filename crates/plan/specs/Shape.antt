-- What a plan is: the number of trustees, the tree's height, the digits' width, and the mask of
-- each group.
use Rattle.std.specs.Prelude.{◌≡◌, ℕ, ◌+◌, ◌^◌, ◌<◌, ◌≤◌, Bool, true, ◌&&◌, List, length, nat_le, slice_index}
use Rattle.sizes.specs.Sizes.{is_height, is_width}

pub record Shape : Type 0 where
  pub trustees : ℕ
  pub height : ℕ
  pub width : ℕ
  pub masks : List ℕ

-- which numbers of trustees and of groups there may be
abbrev pub is_trustees : ℕ → Bool
is_trustees n = nat_le 1 n && nat_le n 8

abbrev pub is_groups : ℕ → Bool
is_groups m = nat_le 1 m && nat_le m 70

-- the first m masks are at least 1 and below a limit
abbrev pub Within : ℕ → ℕ → List ℕ → Type 0
Within limit m masks = (g : ℕ) → g < m → (1 ≤ slice_index masks g) × (slice_index masks g < limit)

-- and they rise
abbrev pub Rising : ℕ → List ℕ → Type 0
Rising m masks = (g : ℕ) → g + 1 < m → slice_index masks g < slice_index masks (g + 1)

-- every rule of a plan
pub record Valid (p : Shape) : Type 0 where
  pub trustees_in : is_trustees p.trustees ≡ true
  pub height_in : is_height p.height ≡ true
  pub width_in : is_width p.width ≡ true
  pub groups_in : is_groups (length p.masks) ≡ true
  pub keys_for_all : length p.masks ≤ 2 ^ p.height
  pub within : Within (2 ^ p.trustees) (length p.masks) p.masks
  pub rising : Rising (length p.masks) p.masks
