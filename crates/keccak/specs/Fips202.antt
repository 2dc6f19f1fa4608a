-- Keccak-f[1600] as FIPS 202 has it. Lanes are numbers below 2 ^ 64, bit z of a lane counting 2 ^ z.
use Rattle.std.specs.Prelude.{ℕ, zero, suc, ◌+◌, ◌-◌, ◌*◌, ◌/◌, ◌%◌, ◌^◌, cond, ◌&&◌, List, [], ◌∷◌, map, drop, ◌==◌, bit_and, bit_or, bit_xor, nat_le, slice_index}
use Rattle.std.specs.List.{range_with_len}

-- ---- 3.1: the state array, as 25 lanes of 64 bits: lane (x, y) stands at 5 y + x
abbrev pub at : List ℕ → ℕ → ℕ → ℕ
at a x y = slice_index a (5 * y + x)

-- the array whose lane (x, y) is f x y
abbrev pub lanes : (ℕ → ℕ → ℕ) → List ℕ
lanes f =
    f 0 0 ∷ f 1 0 ∷ f 2 0 ∷ f 3 0 ∷ f 4 0 ∷
    f 0 1 ∷ f 1 1 ∷ f 2 1 ∷ f 3 1 ∷ f 4 1 ∷
    f 0 2 ∷ f 1 2 ∷ f 2 2 ∷ f 3 2 ∷ f 4 2 ∷
    f 0 3 ∷ f 1 3 ∷ f 2 3 ∷ f 3 3 ∷ f 4 3 ∷
    f 0 4 ∷ f 1 4 ∷ f 2 4 ∷ f 3 4 ∷ f 4 4 ∷ []

-- bit z moves to z + n, modulo 64, for 0 < n < 64
abbrev pub turned : ℕ → ℕ → ℕ
turned n x = bit_or ((x * 2 ^ n) % 2 ^ 64) (x / 2 ^ (64 - n))

-- the complement of each bit
abbrev pub complement : ℕ → ℕ
complement x = 2 ^ 64 - 1 - x

-- ---- 3.2.1: theta. The parity of each column C, and D, of the two columns beside it
abbrev pub column : List ℕ → ℕ → ℕ
column a x = bit_xor (bit_xor (bit_xor (bit_xor (at a x 0) (at a x 1)) (at a x 2)) (at a x 3)) (at a x 4)

abbrev pub parity : List ℕ → ℕ → ℕ
parity a x = bit_xor (column a ((x + 4) % 5)) (turned 1 (column a ((x + 1) % 5)))

unfoldable pub theta : List ℕ → List ℕ
theta a = lanes (λ x y. bit_xor (at a x y) (parity a x))

-- ---- 3.2.2: rho. From (1, 0), each step goes from (u, v) to (v, 2 u + 3 v), and the lane met at step t turns by (t + 1) (t + 2) / 2
abbrev pub walk : ℕ → ℕ → ℕ → ℕ → ℕ → ℕ → ℕ
walk zero t u v x y = 0
walk (suc n) t u v x y = cond (u == x && v == y) ((t + 1) * (t + 2) / 2 % 64) (walk n (t + 1) v ((2 * u + 3 * v) % 5) x y)

abbrev pub offset : ℕ → ℕ → ℕ
offset x y = walk 24 0 1 0 x y

unfoldable pub rho : List ℕ → List ℕ
rho a = at a 0 0 ∷ drop 1 (lanes (λ x y. turned (offset x y) (at a x y)))

-- ---- 3.2.3: pi
unfoldable pub pi : List ℕ → List ℕ
pi a = lanes (λ x y. at a ((x + 3 * y) % 5) x)

-- ---- 3.2.4: chi
unfoldable pub chi : List ℕ → List ℕ
chi a = lanes (λ x y. bit_xor (at a x y) (bit_and (complement (at a ((x + 1) % 5) y)) (at a ((x + 2) % 5) y)))

-- ---- 3.2.5: iota. The register R of Algorithm 5, of 8 bits, as a number whose bit i is R[i], after t steps
abbrev pub shifted : ℕ → ℕ
shifted r = cond (nat_le 128 r) (bit_xor (2 * r) 0x171) (2 * r)

abbrev pub register : ℕ → ℕ
register zero = 1
register (suc t) = shifted (register t)

-- Algorithm 5
abbrev pub rc : ℕ → ℕ
rc t = register t % 2

-- bit 2 ^ j - 1 of the constant of round t is rc (j + 7 t)
abbrev pub constant : ℕ → ℕ
constant t =
    rc (7 * t) + rc (1 + 7 * t) * 2 + rc (2 + 7 * t) * 2 ^ 3 + rc (3 + 7 * t) * 2 ^ 7 +
    rc (4 + 7 * t) * 2 ^ 15 + rc (5 + 7 * t) * 2 ^ 31 + rc (6 + 7 * t) * 2 ^ 63

-- the constants of the 24 rounds
abbrev pub constants : List ℕ
constants = map constant (range_with_len 0 24)

unfoldable pub iota : ℕ → List ℕ → List ℕ
iota t a = bit_xor (at a 0 0) (constant t) ∷ drop 1 a

-- ---- 3.3 and 3.4: Keccak-f[1600], which is Keccak-p[1600, 24]
abbrev pub round : ℕ → List ℕ → List ℕ
round t a = iota t (chi (pi (rho (theta a))))

-- the first n rounds
unfoldable pub rounds : ℕ → List ℕ → List ℕ
rounds zero a = a
rounds (suc n) a = round n (rounds n a)

unfoldable pub permuted : List ℕ → List ℕ
permuted a = rounds 24 a
