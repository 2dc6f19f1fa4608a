use Rattle.std.proofs.Common.{◌∙◌}
use Rattle.lmots.specs.LmOts.{digest}
use Rattle.lmots.proofs.single.digest_of.Goals as goal

pub returns-clause-value : goal.returns-clause-value
unfolding digest
returns-clause-value g c =
    let m = g.met.H.Hash in
    c.close.ensures ∙ simp (c.feed-2.ensures, c.feed.ensures, c.opened-h.ensures, m.joined, m.whole)
