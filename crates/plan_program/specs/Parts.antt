-- What reading a front of the input does, and what a read or a write that fails half way has done.
use Rattle.std.specs.Prelude.{ℕ, ◌≤◌, List, length, take, ⊤, Some, None, Option}
use Rattle.std.specs.Io.KnownBytes.{Appends, Consumes}

-- known bytes grow by a front of some bytes: by none of them, by some or by all
abbrev pub AppendsFront : Option (List ℕ) → Option (List ℕ) → List ℕ → Type 0
AppendsFront old new bytes = (n : ℕ) × Appends old new (take n bytes)

-- known bytes lose some of their first, as many as a number at most
abbrev pub ConsumesAtMost : ℕ → Option (List ℕ) → Option (List ℕ) → Type 0
ConsumesAtMost most old new = (bytes : List ℕ) × (length bytes ≤ most) × Consumes old new bytes

-- known bytes lose their first, as many as a number, or all of them where there are fewer
abbrev pub ConsumesFront : ℕ → Option (List ℕ) → Option (List ℕ) → Type 0
ConsumesFront n None new = ⊤
ConsumesFront n (Some bytes) new = Consumes (Some bytes) new (take n bytes)
