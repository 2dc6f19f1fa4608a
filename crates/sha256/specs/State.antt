-- SHA-256 piece by piece: the state after some bytes, and the digest from it.
use Rattle.std.specs.Prelude.{ℕ, ◌+◌, ◌%◌, ◌^◌, List, [], ◌∷◌, length}
use Rattle.hash.specs.Chaining.{Chain, link, chained}
use Rattle.sha256_block.specs.Fips180.{compressed}
use Rattle.sha256.specs.Fips180.{initial, padding, bytes_of}

-- the hash value and the bytes of the block that is not whole, and the number of bytes modulo 2 ^ 64
pub record State : Type 0 where
  pub chain : Chain
  pub count : ℕ

abbrev pub mk : Chain → ℕ → State
mk c n = record { chain = c; count = n }

-- nothing so far
abbrev pub first : State
first = mk (link initial []) 0

-- some bytes more
unfoldable pub fed : State → List ℕ → State
fed s [] = s
fed s (b ∷ bs) = mk (chained 64 compressed s.chain (b ∷ bs)) ((s.count + length (b ∷ bs)) % 2 ^ 64)

-- the padding of so many bytes taken in, and the digest
unfoldable pub closed : State → List ℕ
closed s = bytes_of (chained 64 compressed s.chain (padding s.count)).value
