-- SHA-256 as FIPS 180-4 has it, over a whole message, which is a list of bytes.
-- The standard defines it for messages of fewer than 2 ^ 64 bits. Past that bound the last 64 bits of the padding hold the
-- length in bits modulo 2 ^ 64 here.
use Rattle.std.specs.Prelude.{ℕ, ◌-◌, ◌*◌, ◌/◌, ◌%◌, ◌^◌, List, [], ◌∷◌, ◌++◌, length, replicate, slice_index}
use Rattle.hash.specs.Chaining.{over}
use Rattle.sha256_block.specs.Fips180.{compressed}

-- ---- 5.1.1: the padding
-- a number of 64 bits as bytes, the highest first
abbrev pub length64 : ℕ → List ℕ
length64 n =
    (n / 2 ^ 56 % 256) ∷ (n / 2 ^ 48 % 256) ∷ (n / 2 ^ 40 % 256) ∷ (n / 2 ^ 32 % 256) ∷
    (n / 2 ^ 24 % 256) ∷ (n / 2 ^ 16 % 256) ∷ (n / 2 ^ 8 % 256) ∷ (n % 256) ∷ []

-- how many zero bytes follow the byte 10000000 of a message of n bytes, up to 56 modulo 64
abbrev pub zeros : ℕ → ℕ
zeros n = (119 - n % 64) % 64

-- the bit 1, zero bits, and the length in bits
abbrev pub padding : ℕ → List ℕ
padding n = 128 ∷ (replicate (zeros n) 0 ++ length64 (n * 8 % 2 ^ 64))

abbrev pub padded : List ℕ → List ℕ
padded m = m ++ padding (length m)

-- ---- 5.3.3: the initial hash value
abbrev pub initial : List ℕ
initial = 0x6a09e667 ∷ 0xbb67ae85 ∷ 0x3c6ef372 ∷ 0xa54ff53a ∷ 0x510e527f ∷ 0x9b05688c ∷ 0x1f83d9ab ∷ 0x5be0cd19 ∷ []

-- ---- 6.2.2: the digest, from the last hash value
-- a word as bytes, the highest first
abbrev pub bytes4 : ℕ → List ℕ
bytes4 x = (x / 16777216 % 256) ∷ (x / 65536 % 256) ∷ (x / 256 % 256) ∷ (x % 256) ∷ []

-- the eight words one after the other
abbrev pub bytes_of : List ℕ → List ℕ
bytes_of hs =
    bytes4 (slice_index hs 0) ++ (bytes4 (slice_index hs 1) ++ (bytes4 (slice_index hs 2) ++ (bytes4 (slice_index hs 3) ++
    (bytes4 (slice_index hs 4) ++ (bytes4 (slice_index hs 5) ++ (bytes4 (slice_index hs 6) ++ bytes4 (slice_index hs 7)))))))

-- the padded message is parsed into blocks of 64 bytes (5.2.1), which are taken in one after the other
unfoldable pub sha256 : List ℕ → List ℕ
sha256 m = bytes_of (over 64 compressed (length (padded m) / 64) initial (padded m))
