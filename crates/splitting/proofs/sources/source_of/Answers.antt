use Rattle.splitting.proofs.Listed.{source_is}
use Rattle.splitting.proofs.sources.source_of.Goals as goal

pub returns-clause-means : goal.returns-clause-means
returns-clause-means g c =
    let from = c.in_ok-checked_sub.ensures in
    source_is g.P.Pads.source c.args.sources.now c.args.trustee c.in_ok-checked_sub.field-0 c.get.result from.0 from.1 c.get.ensures.lookup
