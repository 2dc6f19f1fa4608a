use Rattle.std.proofs.Common.{◌∙◌}
use Rattle.lms.specs.Lms.{inner_node}
use Rattle.lms.proofs.nodes.inner.Goals as goal

pub returns : goal.returns
unfolding inner_node
returns g c =
    let m = g.met.H.Hash in
    c.close.ensures
    ∙ simp (c.feed-2.ensures, c.feed.ensures, c.opened-h.ensures, m.joined, m.whole)
