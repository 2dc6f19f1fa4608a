use Rattle.std.proofs.Common.{◌≡◌, ℕ, ◌<◌, [], length, get_or}
use Rattle.sha256_block.specs.Fips180.{word}
use Rattle.sha256_block.proofs.lanes.parse.Given as goal

abbrev pub invariant-loop-t : goal.invariant-loop-t
invariant-loop-t l = (length l.word-items ≡ 16) × ((k i : ℕ) → k < l.t → i < 8 → get_or (get_or l.word-items k []) i 0 ≡ word (get_or l.blocks i []) k)
