use Rattle.std.proofs.Common.{◌∙◌}
use Rattle.lms.specs.Lms.{leaf_node}
use Rattle.lms.proofs.nodes.leaf.Goals as goal

pub returns : goal.returns
unfolding leaf_node
returns g c =
    let m = g.met.H.Hash in
    c.close.ensures
    ∙ simp (c.feed.ensures, c.opened-h.ensures, m.joined, m.whole)
