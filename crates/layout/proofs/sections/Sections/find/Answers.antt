use Rattle.std.proofs.Common.{◌∙◌, rules, tests}
use Rattle.std.proofs.lemmas.Iterator.{YieldsList-from_slice}
use Rattle.std.proofs.lemmas.Iterator.Search.{find_from_yields_List}
use Rattle.plan.specs.Keys.{in_range}
use Rattle.layout.specs.declared.section.Section.{Section}
use Rattle.layout.proofs.sections.Sections.find.Goals as goal

pub returns : goal.returns
returns c =
    c.copied.ensures
    ∙ find_from_yields_List (λ (s : Section). in_range s.first s.count c.args.key) _ _ c.find.result c.find.ensures.ran (YieldsList-from_slice c.args.self.now.all cc) (λ x b q k. search (rules, tests))
