-- What a buffered message stands for.
use Rattle.std.specs.Prelude.{ℕ, List, take}
use Rattle.hash.specs.Chaining.{Chain, link}
use Rattle.hash.specs.declared.blocks.Buffered.{Buffered}

-- the value after the whole blocks, where v tells the numbers of a value, and the bytes of the block that is not whole
abbrev pub held : {C : Type 0} {n : ℕ} → (C → List ℕ) → Buffered C n → Chain
held v b = link (v b.chain) (take b.filled b.buffer)
