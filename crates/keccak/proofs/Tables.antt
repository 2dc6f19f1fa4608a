-- A round's constant in the list of all of them.
use Rattle.std.proofs.Common.{◌≡◌, ℕ, ◌<◌, get_or, arith}
use Rattle.std.proofs.lemmas.List.FromFn.{get_or-map-range_with_len}
use Rattle.keccak.specs.Fips202.{constant, constants}

pub constant_is : (t : ℕ) → t < 24 → get_or constants t 0 ≡ constant t
constant_is t h = get_or-map-range_with_len constant 0 24 t t 0 h (omega arith)
