use Rattle.std.proofs.Common.{rules, ◌≡◌, ◌+◌, ◌++◌, ap, ◌∙◌}
use Rattle.std.specs.Prelude.{option_to_list}
use Rattle.std.specs.Str.Iter.{lines_rest}
use Rattle.std.proofs.lemmas.Iterator.Consumers.{YieldsList-end}
use Rattle.std.proofs.lemmas.Iterator.Splits.{YieldsList-from_lines}
use Rattle.vector_files.specs.Texts.{IsTaken}
use Rattle.vector_files.proofs.Cutting.{cut_begin, cut_more, cut_end}
use Rattle.vector_files.proofs.text.blocks_of.Goals as goal

pub loop-line-init : goal.loop-line-init
loop-line-init c = rw c.new-blocks.ensures.items (cut_begin _ _ c.new-cut.ensures.number c.new-cut.ensures.block)

pub loop-line-preserved : goal.loop-line-preserved
loop-line-preserved c =
    let block = c.in_ok-take.field-0 in
    let number : c.take.new.self.number ≡ c.loop-line.cut.number + 1 = search rules in
    let taken : IsTaken c.loop-line.cut.block (c.loop-line.cut.number + 1, c.in-Some.line.now) c.take.new.self.block block = search rules in
    let pushed : c.push_ended.new.blocks.items ≡ c.loop-line.blocks.items ++ option_to_list block = search rules in
    rw pushed (cut_more c.loop-line.yielded c.in-Some.line c.loop-line.blocks.items _ _ _ _ block c.loop-line.invariant number taken)

pub returns : goal.returns
returns c =
    let block = c.end.result in
    let road = YieldsList-from_lines c.args.text.now (ap lines_rest c.into_iter-line-iterator.ensures.into_iter_gives ∙ c.lines-line-items.ensures.rest) in
    let all_read = (YieldsList-end road c.loop-line.yielded c.loop-line.line-iterator c.loop-line.yielded_by c.next.result c.next.new.self c.in-None.is c.next.ensures.steps).0 in
    let all = cut_end c.args.text.now c.loop-line.yielded c.loop-line.blocks.items _ _ block c.loop-line.invariant all_read c.end.ensures.ended in
    let pushed : c.push_ended-2.new.blocks.items ≡ c.loop-line.blocks.items ++ option_to_list block = search rules in
    record { cut = pushed ∙ all.0; sound = all.1 }
