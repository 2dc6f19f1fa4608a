use Rattle.std.proofs.Common.{map, rules, tests}
use Rattle.std.proofs.lemmas.Iterator.Consumers.{YieldsList-from_first}
use Rattle.std.proofs.lemmas.Iterator.Search.{all_from_yields_List}
use Rattle.plan.specs.Members.{members}
use Rattle.splitting.specs.Sources.{source_of}
use Rattle.splitting.proofs.sources.all_hold.Goals as goal

pub returns : goal.returns
returns g c =
    all_from_yields_List (λ t. (source_of (map g.P.Pads.source c.args.sources.now) t).held c.args.key) _ _ c.all.result c.all.ensures.ran
    (YieldsList-from_first (λ t. t) (λ rest. rest) (members c.args.group.now.mask) c.members.ensures) (λ x b q k. search (rules, tests))
