-- What holds of every plan's key ranges and of every group's members, in words of the subject.
use Rattle.std.specs.Prelude.{◌≡◌, ℕ, suc, ◌+◌, ◌/◌, ◌^◌, ◌<◌, ◌≤◌, true, ◌⊎◌, List, length, Some, None, slice_index}
use Rattle.plan.specs.Shape.{Shape}
use Rattle.plan.specs.Members.{members, has, place}
use Rattle.plan.specs.Keys.{first_key, key_count, Owns, owner, undealt}
use Rattle.plan.specs.Groups.{members_of}

-- the key ranges of the groups of a plan
pub record Ranges (p : Shape) : Type 0 where
  -- every group owns the same number of keys, and at least one
  pub equal : (g : ℕ) → g < length p.masks → key_count p g ≡ 2 ^ p.height / length p.masks
  pub some : (g : ℕ) → g < length p.masks → 1 ≤ key_count p g
  -- from key 0 on, range follows on range
  pub starts : first_key p 0 ≡ 0
  pub follows : (g : ℕ) → g < length p.masks → first_key p (suc g) ≡ first_key p g + key_count p g
  -- no key has two owners, and later groups own later keys
  pub disjoint : (g k key : ℕ) → Owns p g key → Owns p k key → g ≡ k
  pub rising : (g k a b : ℕ) → g < k → Owns p g a → Owns p k b → a < b
  -- each key of the tree is owned or one of the last ones, which are never dealt
  pub covered : (key : ℕ) → key < 2 ^ p.height →
      ((g : ℕ) × Owns p g key) ⊎ (first_key p (length p.masks) ≤ key)
  pub inside : (g key : ℕ) → Owns p g key → key < first_key p (length p.masks)
  pub rest : undealt p + first_key p (length p.masks) ≡ 2 ^ p.height
  -- the owner is whoever owns the key
  pub owner_owns : (g key : ℕ) → owner p key ≡ Some g → Owns p g key
  pub owns_owner : (g key : ℕ) → Owns p g key → owner p key ≡ Some g
  pub unowned : (key : ℕ) → first_key p (length p.masks) ≤ key → owner p key ≡ None

-- ten groups over 1,024 keys
abbrev pub ten_groups : List ℕ → Shape
ten_groups masks = record { trustees = 8; height = 10; width = 8; masks = masks }

pub record TenGroups : Type 0 where
  pub count : (masks : List ℕ) → length masks ≡ 10 → (g : ℕ) → g < 10 →
      key_count (ten_groups masks) g ≡ 102
  pub last : (masks : List ℕ) → length masks ≡ 10 → owner (ten_groups masks) 1019 ≡ Some 9
  pub past : (masks : List ℕ) → length masks ≡ 10 → owner (ten_groups masks) 1020 ≡ None

-- some of n trustees, rising
pub record AreTrustees (n : ℕ) (members : List ℕ) : Type 0 where
  -- at least one, no more than there are trustees, and eight at most
  pub some : 1 ≤ length members
  pub few : length members ≤ n
  pub eight : length members ≤ 8
  -- each is a number from 1 to n
  pub from_one : (i : ℕ) → i < length members → 1 ≤ slice_index members i
  pub to_n : (i : ℕ) → i < length members → slice_index members i ≤ n
  -- they rise, so each stands once
  pub rising : (i j : ℕ) → i < j → j < length members →
      slice_index members i < slice_index members j
  pub once : (i j : ℕ) → i < length members → j < length members →
      slice_index members i ≡ slice_index members j → i ≡ j

-- the members of each group of a plan are some of the plan's trustees
pub record Membership (p : Shape) : Type 0 where
  pub each : (g : ℕ) → g < length p.masks → AreTrustees p.trustees (members_of p g)

-- the places of a mask's members
pub record Seats (mask : ℕ) : Type 0 where
  pub rising : (i j : ℕ) → i < j → j < length (members mask) →
      slice_index (members mask) i < slice_index (members mask) j
  pub placed : (t i : ℕ) → place t (members mask) ≡ Some i →
      (i < length (members mask)) × (slice_index (members mask) i ≡ t) × (has mask t ≡ true)
  pub stands : (i : ℕ) → i < length (members mask) →
      place (slice_index (members mask) i) (members mask) ≡ Some i
  pub found : (t : ℕ) → has mask t ≡ true → (i : ℕ) × (place t (members mask) ≡ Some i)
