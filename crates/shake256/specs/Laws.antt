-- The laws that an implementation of a hash owes, of SHAKE256.
use Rattle.std.proofs.Common.{◌≡◌, ℕ, ◌^◌, ◌<◌, ◌≤◌, List, [], ◌++◌, length, refl, arith, rules}
use Rattle.rows.specs.Bytes.{Bytes}
use Rattle.hash.specs.Chaining.{Chain}
use Rattle.hash.proofs.Chaining.{chained_none, chained_joined}
use Rattle.shake256.specs.Fips202.{absorbed, shake256}
use Rattle.shake256.specs.State.{first, fed, closed}
use Rattle.shake256.specs.Whole as Whole

pub none_law : (s : Chain) → fed s [] ≡ s
none_law s = chained_none 136 absorbed s

pub joined_law : (s : Chain) (a b : List ℕ) → fed (fed s a) b ≡ fed s (a ++ b)
joined_law s a b = chained_joined 136 absorbed s a b

pub whole_law : (m : List ℕ) → shake256 m ≡ closed (fed first m)
whole_law m = Whole.whole m

pub closed_long_law : (s : Chain) → length (closed s) ≡ 32
unfolding closed
closed_long_law s = refl

pub closed_bytes_law : (s : Chain) → Bytes (closed s)
unfolding closed
closed_bytes_law s = search rules

pub wide_law : 32 ≤ 136
wide_law = omega arith

pub ots_law : 9 < 2 ^ 16
ots_law = omega arith

pub tree_law : 15 < 2 ^ 16
tree_law = omega arith
