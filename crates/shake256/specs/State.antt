-- SHAKE256 piece by piece: the state after some bytes, and the digest from it.
use Rattle.std.specs.Prelude.{ℕ, List, [], length}
use Rattle.hash.specs.Chaining.{Chain, link, chained}
use Rattle.shake256.specs.Fips202.{absorbed, initial, padding, squeezed}

-- nothing so far
abbrev pub first : Chain
first = link initial []

-- some bytes more
abbrev pub fed : Chain → List ℕ → Chain
fed s m = chained 136 absorbed s m

-- the padding taken in, and the digest
unfoldable pub closed : Chain → List ℕ
closed s = squeezed (chained 136 absorbed s (padding (length s.tail))).value
