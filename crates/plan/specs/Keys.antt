-- Which keys each group owns: those from its first key on, as many as its count. All else about
-- ownership comes from these two.
use Rattle.std.specs.Prelude.{ℕ, zero, suc, ◌+◌, ◌-◌, ◌*◌, ◌/◌, ◌^◌, ◌<◌, ◌≤◌, Bool, if◌then◌else◌, ◌&&◌, length, Some, None, Option, nat_le, nat_lt}
use Rattle.plan.specs.Shape.{Shape}

-- equal shares: 2^h by m, rounded down
abbrev share : Shape → ℕ
share p = 2 ^ p.height / length p.masks

-- the first key of a group; that of group m, which the plan lacks, is the first key that is never
-- dealt
abbrev pub first_key : Shape → ℕ → ℕ
first_key p g = share p * g

-- how many keys a group owns
abbrev pub key_count : Shape → ℕ → ℕ
key_count p g = share p

-- a group of the plan owns a key
abbrev pub Owns : Shape → ℕ → ℕ → Type 0
Owns p g key = (g < length p.masks) × (first_key p g ≤ key) × (key < first_key p g + key_count p g)

-- the test for it, given a range
abbrev pub in_range : ℕ → ℕ → ℕ → Bool
in_range first count key = nat_le first key && nat_lt key (first + count)

-- of k groups from g on, the one that owns a key
unfoldable pub owner_from : Shape → ℕ → ℕ → ℕ → Option ℕ
owner_from p g zero key = None
owner_from p g (suc k) key =
    if in_range (first_key p g) (key_count p g) key then Some g else owner_from p (g + 1) k key

-- the group that owns a key, or none
abbrev pub owner : Shape → ℕ → Option ℕ
owner p key = owner_from p 0 (length p.masks) key

-- the keys behind the last group's are never dealt
abbrev pub undealt : Shape → ℕ
undealt p = 2 ^ p.height - first_key p (length p.masks)
