use Rattle.std.proofs.Common.{◌≡◌, ℕ, ◌*◌, ◌^◌, List, length}
use Rattle.lms.specs.Nodes.{Filled}
use Rattle.lms.proofs.growing.fill_inner.Given as goal

abbrev pub invariant-loop-r : goal.invariant-loop-r
invariant-loop-r g l =
    (seed : List ℕ) (h w : ℕ) → length l.initial.nodes ≡ 2 ^ h * 2 →
    Filled g.H.Hash.hashed l.id.bytes seed h w (2 ^ h) l.initial.nodes → Filled g.H.Hash.hashed l.id.bytes seed h w l.r l.nodes
