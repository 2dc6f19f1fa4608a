use Rattle.std.proofs.Common.{ap, ◌∙◌, arith}
use Rattle.rows.proofs.Rows.{rows_whole}
use Rattle.lms.specs.Grown.{grown_path, tall}
use Rattle.lms.proofs.leaf.Leaf.write_siblings.Goals as goal

pub returns : goal.returns
returns g c =
    let t = c.args.self.now.tree.now in
    let high = ap tall c.tree.view_is in
    rows_whole c.loop-k.out (tall t) (grown_path g.H.Hash.hashed t c.args.self.now.key) (c.loop-k.auto.out ∙ c.requires)
    (λ k h. c.loop-k.invariant k (omega arith))
