use Rattle.std.proofs.Common.{◌≡◌, ℕ, ◌<◌}
use Rattle.rows.specs.Bytes.{row_at}
use Rattle.lms.specs.Grown.{grown_path}
use Rattle.lms.proofs.leaf.Leaf.write_siblings.Given as goal

abbrev pub invariant-loop-k : goal.invariant-loop-k
invariant-loop-k g l = (k : ℕ) → k < l.k → row_at k l.out ≡ grown_path g.H.Hash.hashed l.self.tree.now l.self.key k
