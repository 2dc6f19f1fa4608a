use Rattle.std.proofs.Common.{◌∙◌, rules, tests}
use Rattle.std.proofs.lemmas.Iterator.{YieldsList-from_slice}
use Rattle.std.proofs.lemmas.Iterator.Search.{any_from_yields_List}
use Rattle.splitting.specs.Sources.{clash}
use Rattle.splitting.proofs.Listed.{any_mapped}
use Rattle.splitting.proofs.sources.clashes_any.Goals as goal

pub returns : goal.returns
returns g c =
    let f = g.P.Pads.source in
    let a = f c.args.a.now in
    any_from_yields_List (λ b. clash a (f b)) _ _ c.any.result c.any.ensures.ran (YieldsList-from_slice c.args.others.now cc) (λ x b q k. search (rules, tests))
    ∙ any_mapped (clash a) f c.args.others.now
