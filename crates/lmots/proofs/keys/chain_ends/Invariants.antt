use Rattle.std.proofs.Common.{◌≡◌, ℕ, ◌+◌, ◌%◌, ◌^◌, ◌<◌, [], get_or}
use Rattle.lmots.specs.LmOts.{X}
use Rattle.lmots.proofs.keys.chain_ends.Given as goal

abbrev pub invariant-loop-i : goal.invariant-loop-i
invariant-loop-i g l =
    (k n : ℕ) → k < l.i → n < 8 →
    get_or (get_or l.rows-items k []) n [] ≡ X g.H.Hash.hashed l.fn.origin.id.bytes l.fn.origin.seed.bytes ((l.first + n) % 2 ^ 32) k l.top
