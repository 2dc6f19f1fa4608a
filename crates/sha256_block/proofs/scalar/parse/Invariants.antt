use Rattle.std.proofs.Common.{◌≡◌, ℕ, ◌<◌, length, get_or}
use Rattle.sha256_block.specs.Fips180.{word}
use Rattle.sha256_block.proofs.scalar.parse.Given as goal

abbrev pub invariant-loop-t : goal.invariant-loop-t
invariant-loop-t l = (length l.word-items ≡ 16) × ((k : ℕ) → k < l.t → get_or l.word-items k 0 ≡ word l.block k)
