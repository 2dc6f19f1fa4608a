use Rattle.std.proofs.Common.{sym, ◌∙◌, rules}
use Rattle.std.proofs.lemmas.Iterator.Consumers.{count_from_yields_List, YieldsList-from_filter, YieldsList-at}
use Rattle.tape.specs.Lines.{unused}
use Rattle.tape.proofs.Cutting.{cut, road, blank_count, whole_ones}
use Rattle.tape.proofs.lines.unused_lines.Goals as goal

pub returns : goal.returns
returns c =
    count_from_yields_List c.filter.result c.count.result c.count.ensures.ran (YieldsList-from_filter _ unused (YieldsList-at c.filter.ensures.source (road (λ s. s.0.now) (record { 0 = c.args.bytes }))) c.filter.ensures.closure (λ x b q k. search (rules, k.called.met)))
    ∙ blank_count (whole_ones c.args.bytes.now)
    ∙ sym (cut c.args.bytes.now).unused_ones
