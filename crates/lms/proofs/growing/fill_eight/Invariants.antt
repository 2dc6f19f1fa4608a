use Rattle.std.proofs.Common.{◌≡◌, ℕ, ◌+◌, ◌<◌, [], get_or}
use Rattle.lms.specs.Lms.{leaf_node}
use Rattle.lms.proofs.growing.fill_eight.Given as goal

abbrev pub invariant-loop-l : goal.invariant-loop-l
invariant-loop-l g l =
    ((k : ℕ) → k < l.l → get_or l.nodes (l.r + k) [] ≡ leaf_node g.H.Hash.hashed l.id.bytes (l.r + k) (get_or l.keys k []))
    × ((m : ℕ) → m < l.r → get_or l.nodes m [] ≡ get_or l.initial.nodes m [])
