-- The block computation of SHA-256 as FIPS 180-4 has it. Words are numbers below 2 ^ 32, and a block is a list of 64 bytes.
use Rattle.std.specs.Prelude.{ℕ, zero, suc, ◌+◌, ◌-◌, ◌*◌, ◌/◌, ◌%◌, ◌^◌, List, [], ◌∷◌, ◌++◌, bit_and, bit_or, bit_xor, slice_index}

-- ---- 2.2.2 and 3.2: operations on words
-- addition modulo 2 ^ 32
abbrev pub add : ℕ → ℕ → ℕ
add x y = (x + y) % 2 ^ 32

-- ROTR, to the right by n bits, for 0 < n < 32
abbrev pub rotr : ℕ → ℕ → ℕ
rotr n x = bit_or (x / 2 ^ n) ((x * 2 ^ (32 - n)) % 2 ^ 32)

-- SHR, to the right by n bits
abbrev pub shr : ℕ → ℕ → ℕ
shr n x = x / 2 ^ n

-- the bitwise complement
abbrev pub complement : ℕ → ℕ
complement x = 2 ^ 32 - 1 - x

-- ---- 4.1.2: the functions
-- (4.2)
abbrev pub ch : ℕ → ℕ → ℕ → ℕ
ch x y z = bit_xor (bit_and x y) (bit_and (complement x) z)

-- (4.3)
abbrev pub maj : ℕ → ℕ → ℕ → ℕ
maj x y z = bit_xor (bit_xor (bit_and x y) (bit_and x z)) (bit_and y z)

-- (4.4)
abbrev pub big_sigma0 : ℕ → ℕ
big_sigma0 x = bit_xor (bit_xor (rotr 2 x) (rotr 13 x)) (rotr 22 x)

-- (4.5)
abbrev pub big_sigma1 : ℕ → ℕ
big_sigma1 x = bit_xor (bit_xor (rotr 6 x) (rotr 11 x)) (rotr 25 x)

-- (4.6)
abbrev pub sigma0 : ℕ → ℕ
sigma0 x = bit_xor (bit_xor (rotr 7 x) (rotr 18 x)) (shr 3 x)

-- (4.7)
abbrev pub sigma1 : ℕ → ℕ
sigma1 x = bit_xor (bit_xor (rotr 17 x) (rotr 19 x)) (shr 10 x)

-- ---- 4.2.2: the constants K, of which round t takes the one at t
abbrev pub constants : List ℕ
constants =
    0x428a2f98 ∷ 0x71374491 ∷ 0xb5c0fbcf ∷ 0xe9b5dba5 ∷ 0x3956c25b ∷ 0x59f111f1 ∷ 0x923f82a4 ∷ 0xab1c5ed5 ∷
    0xd807aa98 ∷ 0x12835b01 ∷ 0x243185be ∷ 0x550c7dc3 ∷ 0x72be5d74 ∷ 0x80deb1fe ∷ 0x9bdc06a7 ∷ 0xc19bf174 ∷
    0xe49b69c1 ∷ 0xefbe4786 ∷ 0x0fc19dc6 ∷ 0x240ca1cc ∷ 0x2de92c6f ∷ 0x4a7484aa ∷ 0x5cb0a9dc ∷ 0x76f988da ∷
    0x983e5152 ∷ 0xa831c66d ∷ 0xb00327c8 ∷ 0xbf597fc7 ∷ 0xc6e00bf3 ∷ 0xd5a79147 ∷ 0x06ca6351 ∷ 0x14292967 ∷
    0x27b70a85 ∷ 0x2e1b2138 ∷ 0x4d2c6dfc ∷ 0x53380d13 ∷ 0x650a7354 ∷ 0x766a0abb ∷ 0x81c2c92e ∷ 0x92722c85 ∷
    0xa2bfe8a1 ∷ 0xa81a664b ∷ 0xc24b8b70 ∷ 0xc76c51a3 ∷ 0xd192e819 ∷ 0xd6990624 ∷ 0xf40e3585 ∷ 0x106aa070 ∷
    0x19a4c116 ∷ 0x1e376c08 ∷ 0x2748774c ∷ 0x34b0bcb5 ∷ 0x391c0cb3 ∷ 0x4ed8aa4a ∷ 0x5b9cca4f ∷ 0x682e6ff3 ∷
    0x748f82ee ∷ 0x78a5636f ∷ 0x84c87814 ∷ 0x8cc70208 ∷ 0x90befffa ∷ 0xa4506ceb ∷ 0xbef9a3f7 ∷ 0xc67178f2 ∷ []

-- ---- 5.2.1: word t of a block, the first byte on top
abbrev pub word : List ℕ → ℕ → ℕ
word b t = slice_index b (4 * t) * 16777216 + slice_index b (4 * t + 1) * 65536 + slice_index b (4 * t + 2) * 256 + slice_index b (4 * t + 3)

-- the first n words of a block
unfoldable pub parsed : ℕ → List ℕ → List ℕ
parsed zero b = []
parsed (suc n) b = parsed n b ++ word b n ∷ []

-- ---- 6.2.2, step 1: the message schedule W
-- word t, for 16 ≤ t, from those before it
abbrev pub scheduled : List ℕ → ℕ → ℕ
scheduled ws t = add (add (add (sigma1 (slice_index ws (t - 2))) (slice_index ws (t - 7))) (sigma0 (slice_index ws (t - 15)))) (slice_index ws (t - 16))

-- the first 16 + n words
unfoldable pub schedule : ℕ → List ℕ → List ℕ
schedule zero b = parsed 16 b
schedule (suc n) b = schedule n b ++ scheduled (schedule n b) (16 + n) ∷ []

-- ---- 6.2.2, step 2: the eight working variables, and their first values from the hash value
pub record Vars : Type 0 where
  pub a : ℕ
  pub b : ℕ
  pub c : ℕ
  pub d : ℕ
  pub e : ℕ
  pub f : ℕ
  pub g : ℕ
  pub h : ℕ

abbrev pub vars : List ℕ → Vars
vars hs = record {
  a = slice_index hs 0;
  b = slice_index hs 1;
  c = slice_index hs 2;
  d = slice_index hs 3;
  e = slice_index hs 4;
  f = slice_index hs 5;
  g = slice_index hs 6;
  h = slice_index hs 7;
}

-- ---- 6.2.2, step 3: a round with the constant k and the word w
abbrev pub t1 : ℕ → ℕ → Vars → ℕ
t1 k w v = add (add (add (add v.h (big_sigma1 v.e)) (ch v.e v.f v.g)) k) w

abbrev pub t2 : Vars → ℕ
t2 v = add (big_sigma0 v.a) (maj v.a v.b v.c)

abbrev pub turn : ℕ → ℕ → Vars → Vars
turn k w v = record {
  a = add (t1 k w v) (t2 v);
  b = v.a;
  c = v.b;
  d = v.c;
  e = add v.d (t1 k w v);
  f = v.e;
  g = v.f;
  h = v.g;
}

-- the first n rounds
unfoldable pub turns : ℕ → List ℕ → Vars → Vars
turns zero ws v = v
turns (suc n) ws v = turn (slice_index constants n) (slice_index ws n) (turns n ws v)

-- ---- 6.2.2, step 4: the next hash value
abbrev pub summed : List ℕ → Vars → List ℕ
summed hs v =
    add v.a (slice_index hs 0) ∷ add v.b (slice_index hs 1) ∷ add v.c (slice_index hs 2) ∷ add v.d (slice_index hs 3) ∷
    add v.e (slice_index hs 4) ∷ add v.f (slice_index hs 5) ∷ add v.g (slice_index hs 6) ∷ add v.h (slice_index hs 7) ∷ []

-- the hash value after a block, from the one before it
unfoldable pub compressed : List ℕ → List ℕ → List ℕ
compressed hs b = summed hs (turns 64 (schedule 48 b) (vars hs))
