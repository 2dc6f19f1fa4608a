-- Checks that are made one after the other: each is a test, and the refusal where the test fails.
use Rattle.std.specs.Prelude.{Bool, if◌then◌else◌, List, [], ◌∷◌, Some, None, Option}

-- the refusal of the first check that fails, or none where all pass
abbrev pub first_refusal : {R : Type 0} → List (Bool × R) → Option R
first_refusal [] = None
first_refusal (check ∷ rest) = if check.0 then first_refusal rest else Some check.1
