use Rattle.std.proofs.Common.{eqb, get_or, ap, ◌∙◌, ◌/◌, length, rules, tests}
use Rattle.std.specs.List.{list_all}
use Rattle.std.proofs.lemmas.Iterator.Search.{all_from_yields_List}
use Rattle.plan_sheet.proofs.Cut.{lines, yields_lines, all_fed}
use Rattle.plan_sheet.proofs.reader.all_fed.Goals as goal

pub returns : goal.returns
returns c =
    let all = all_from_yields_List (λ line. eqb (get_or line 24 0) 10) _ _ c.all.result c.all.ensures.ran (yields_lines c.chunks_exact.result c.chunks_exact.ensures.size) (λ x b q k. search (rules, tests)) in
    all ∙ ap (λ s. list_all (λ line. eqb (get_or line 24 0) 10) (lines (length s / 25) s)) c.chunks_exact.ensures.rest ∙ all_fed c.args.sheet.now
