-- One lane of a row of vectors.
use Rattle.std.specs.Prelude.{ℕ, List, map, slice_index}

-- lane i of each vector
unfoldable pub lane : ℕ → List (List ℕ) → List ℕ
lane i vs = map (λ v. slice_index v i) vs
