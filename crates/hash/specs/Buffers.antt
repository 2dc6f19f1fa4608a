-- A buffer that is written to, and a block at the end of a message.
use Rattle.std.specs.Prelude.{ℕ, ◌+◌, ◌-◌, List, ◌∷◌, ◌++◌, length, take, drop, replicate}

-- the buffer b with x written at f
abbrev pub written : List ℕ → ℕ → List ℕ → List ℕ
written b f x = take f b ++ x ++ drop (f + length x) b

-- a block of n bytes with t at its start, then the byte m, and zeros
abbrev pub ended : ℕ → ℕ → List ℕ → List ℕ
ended n m t = t ++ (m ∷ replicate (n - 1 - length t) 0)
