use Rattle.std.proofs.Common.{◌≡◌, ℕ, ◌<◌, ◌≤◌, length, get_or}
use lib.Bits.{bit_xor}
use Rattle.shake256.specs.Fips202.{word}
use Rattle.shake256.proofs.state.add_block.Given as goal

abbrev pub invariant-loop-t : goal.invariant-loop-t
invariant-loop-t l =
    (length l.lanes ≡ 25)
    × ((k : ℕ) → k < l.t → get_or l.lanes k 0 ≡ bit_xor (get_or l.initial.lanes k 0) (word l.block k))
    × ((k : ℕ) → l.t ≤ k → get_or l.lanes k 0 ≡ get_or l.initial.lanes k 0)
