-- Bytes in hexadecimal, as vectors have it: two digits a byte, the letters small.
use Rattle.std.specs.Prelude.{ℕ, ◌+◌, ◌-◌, ◌*◌, cond, ◌&&◌, List, [], ◌∷◌, Some, None, Option, nat_le}
use Rattle.std.specs.Option.{option_map, option_and_then}

-- a digit's value, if it is one
abbrev pub digit : ℕ → Option ℕ
digit c = cond (nat_le 48 c && nat_le c 57) (Some (c - 48)) (cond (nat_le 97 c && nat_le c 102) (Some (c - 87)) None)

-- the byte of two digits
abbrev pub pair : ℕ → ℕ → Option ℕ
pair high low = option_and_then (λ h. option_map (λ l. h * 16 + l) (digit low)) (digit high)

-- the bytes that a text writes, if it is pairs of digits
unfoldable pub decoded : List ℕ → Option (List ℕ)
decoded [] = Some []
decoded (high ∷ []) = None
decoded (high ∷ low ∷ rest) = option_and_then (λ b. option_map (λ bs. b ∷ bs) (decoded rest)) (pair high low)
