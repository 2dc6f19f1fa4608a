-- A tree's nodes in a row, T[r] at place r.
use Rattle.std.specs.Prelude.{◌≡◌, ℕ, ◌+◌, ◌*◌, ◌^◌, ◌≤◌, List, [], length, slice_index_or}
use Rattle.lms.specs.Lms.{node}

-- r is the number of a node k levels above the leaves
abbrev pub Placed : ℕ → ℕ → ℕ → Type 0
Placed h k r = (2 ^ h ≤ r * 2 ^ k) × (r * 2 ^ k + 2 ^ k ≤ 2 ^ h * 2)

-- the nodes from number `from` on are there
abbrev pub Filled : (List ℕ → List ℕ) → List ℕ → List ℕ → ℕ → ℕ → ℕ → List (List ℕ) → Type 0
Filled hashed I seed h w from nodes =
    (k r : ℕ) → Placed h k r → from ≤ r → slice_index_or nodes r [] ≡ node hashed I seed h w k r

-- all nodes from the root on are there
pub record Whole (hashed : List ℕ → List ℕ) (I seed : List ℕ) (h w : ℕ)
    (nodes : List (List ℕ)) : Type 0 where
  pub room : length nodes ≡ 2 ^ h * 2
  pub filled : Filled hashed I seed h w 1 nodes
