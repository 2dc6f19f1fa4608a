-- The members of a group: bit t - 1 of its mask stands for trustee t.
use Rattle.std.specs.Prelude.{ℕ, zero, suc, ◌+◌, ◌-◌, ◌/◌, ◌%◌, ◌^◌, Bool, if◌then◌else◌, ◌&&◌, List, [], ◌∷◌, Some, None, Option, ◌==◌, nat_le}
use Rattle.std.specs.Option.{option_map}

-- of k trustees from t on, those whom the low bits of a mask have
abbrev pub members_from : ℕ → ℕ → ℕ → List ℕ
members_from zero t mask = []
members_from (suc k) t mask =
    if mask % 2 == 1
    then t ∷ members_from k (t + 1) (mask / 2)
    else members_from k (t + 1) (mask / 2)

-- the members, rising
unfoldable pub members : ℕ → List ℕ
members mask = members_from 8 1 mask

-- whether a mask has a trustee
abbrev pub has : ℕ → ℕ → Bool
has mask t = nat_le 1 t && (nat_le t 8 && mask / 2 ^ (t - 1) % 2 == 1)

-- where a number stands in a list, from 0
abbrev pub place : ℕ → List ℕ → Option ℕ
place t [] = None
place t (x ∷ xs) = if x == t then Some 0 else option_map suc (place t xs)
