-- The laws that an implementation of a hash owes, of SHA-256.
use Rattle.std.proofs.Common.{◌≡◌, ℕ, ◌^◌, ◌<◌, ◌≤◌, List, [], ◌++◌, length, refl, arith, rules}
use Rattle.rows.specs.Bytes.{Bytes}
use Rattle.sha256.specs.Fips180.{sha256}
use Rattle.sha256.specs.State.{State, first, fed, closed}
use Rattle.sha256.specs.Feeding.{fed_none, fed_joined}
use Rattle.sha256.specs.Whole as Whole

pub none_law : (s : State) → fed s [] ≡ s
none_law s = fed_none s

pub joined_law : (s : State) (a b : List ℕ) → fed (fed s a) b ≡ fed s (a ++ b)
joined_law s a b = fed_joined s a b

pub whole_law : (m : List ℕ) → sha256 m ≡ closed (fed first m)
whole_law m = Whole.whole m

pub closed_long_law : (s : State) → length (closed s) ≡ 32
unfolding closed
closed_long_law s = refl

pub closed_bytes_law : (s : State) → Bytes (closed s)
unfolding closed
closed_bytes_law s = search rules

pub wide_law : 32 ≤ 64
wide_law = omega arith

pub ots_law : 1 < 2 ^ 16
ots_law = omega arith

pub tree_law : 5 < 2 ^ 16
tree_law = omega arith
