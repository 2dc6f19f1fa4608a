-- SHAKE256 as FIPS 202 has it, with d = 256 bits of output, over a whole message, which is a list of bytes of any length.
use Rattle.std.specs.Prelude.{ℕ, ◌+◌, ◌-◌, ◌*◌, ◌/◌, ◌%◌, cond, List, [], ◌∷◌, ◌++◌, length, replicate, ◌==◌, bit_xor, slice_index}
use Rattle.hash.specs.Chaining.{over}
use Rattle.keccak.specs.Fips202.{at, lanes, permuted}

-- ---- 3.1.2 and B.1: lane t of a row of bytes, the first byte lowest
abbrev pub word : List ℕ → ℕ → ℕ
word b t =
    slice_index b (8 * t) + slice_index b (8 * t + 1) * 256 + slice_index b (8 * t + 2) * 65536 + slice_index b (8 * t + 3) * 16777216 +
    slice_index b (8 * t + 4) * 4294967296 + slice_index b (8 * t + 5) * 1099511627776 + slice_index b (8 * t + 6) * 281474976710656 +
    slice_index b (8 * t + 7) * 72057594037927936

-- ---- 4 and 6.2: the sponge of Keccak[512], with a rate of 1088 bits, 136 bytes, and a capacity of 512 bits, 64 bytes
-- step 6: a block, and zeros for the capacity, are added to the state
unfoldable pub added : List ℕ → List ℕ → List ℕ
added a b = lanes (λ x y. bit_xor (at a x y) (word (b ++ replicate 64 0) (5 * y + x)))

-- and the permutation is applied
unfoldable pub absorbed : List ℕ → List ℕ → List ℕ
absorbed a b = permuted (added a b)

-- step 5: the first state
abbrev pub initial : List ℕ
initial = replicate 25 0

-- ---- 5.1 and 6.2, in bytes as B.2 has them: the bits 1111 of SHAKE, and pad10*1: a 1 bit, zeros, and a 1 bit that ends a block
abbrev pub padding : ℕ → List ℕ
padding n = cond (n % 136 == 135) (0x9f ∷ []) (0x1f ∷ (replicate (134 - n % 136) 0 ++ 0x80 ∷ []))

abbrev pub padded : List ℕ → List ℕ
padded m = m ++ padding (length m)

-- ---- steps 7 to 9: the first 32 bytes of the state, which are fewer than the rate
-- a lane as bytes, the lowest first
abbrev pub bytes8 : ℕ → List ℕ
bytes8 x =
    (x % 256) ∷ (x / 256 % 256) ∷ (x / 65536 % 256) ∷ (x / 16777216 % 256) ∷
    (x / 4294967296 % 256) ∷ (x / 1099511627776 % 256) ∷ (x / 281474976710656 % 256) ∷ (x / 72057594037927936 % 256) ∷ []

abbrev pub squeezed : List ℕ → List ℕ
squeezed a = bytes8 (slice_index a 0) ++ (bytes8 (slice_index a 1) ++ (bytes8 (slice_index a 2) ++ bytes8 (slice_index a 3)))

-- ---- 6.2: SHAKE256(M, 256)
unfoldable pub shake256 : List ℕ → List ℕ
shake256 m = squeezed (over 136 absorbed (length (padded m) / 136) initial (padded m))
