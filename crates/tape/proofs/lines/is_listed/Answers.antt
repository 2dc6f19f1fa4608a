use Rattle.std.proofs.Common.{eqb, sym, ap, ◌∙◌, rules}
use Rattle.std.specs.List.{list_any}
use Rattle.std.proofs.lemmas.Iterator.Consumers.{YieldsList-from_filter_map, YieldsList-at}
use Rattle.std.proofs.lemmas.Iterator.Search.{any_from_yields_List}
use Rattle.tape.specs.Lines.{line_key}
use Rattle.tape.proofs.Cutting.{cut, road}
use Rattle.tape.proofs.lines.is_listed.Goals as goal

pub returns : goal.returns
returns c =
    any_from_yields_List (eqb c.args.key) c.any.new.self _ c.any.result c.any.ensures.ran (YieldsList-from_filter_map _ line_key (YieldsList-at c.filter_map.ensures.source (road (λ s. s.0.now) (record { 0 = c.args.bytes }))) c.filter_map.ensures.closure (λ x r q k. search (rules, k.met))) (λ x b q k. search (rules, k.met))
    ∙ ap (list_any (eqb c.args.key)) (sym (cut c.args.bytes.now).keys)
