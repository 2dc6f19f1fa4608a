use Rattle.std.proofs.Common.{rules, ◌≡◌, ◌+◌, [], ◌++◌, length, length-append, ap, sym, ◌∙◌}
use Rattle.std.specs.Prelude.{option_to_list, IfOk}
use Rattle.std.specs.Str.Iter.{lines_rest}
use Rattle.std.proofs.lemmas.Iterator.Consumers.{YieldsList-end}
use Rattle.std.proofs.lemmas.Iterator.Splits.{YieldsList-from_lines}
use Rattle.std.proofs.lemmas.Result.{IfOk-weaker}
use Rattle.vector_files.specs.Texts.{blocks_of, IsVectorText, IsTaken}
use Rattle.vector_files.proofs.Cutting.{cut_begin, cut_more, cut_end}
use Rattle.vector_files.proofs.text.count_blocks.Goals as goal

pub loop-line-init : goal.loop-line-init
loop-line-init c = ([], search rules, cut_begin _ _ c.new-cut.ensures.number c.new-cut.ensures.block)

pub loop-line-preserved : goal.loop-line-preserved
loop-line-preserved c =
    let before = c.loop-line.invariant in
    let block = c.in_ok-take.field-0 in
    let counted : c.in_ok-count.count ≡ c.loop-line.count + length (option_to_list block) = search rules in
    let number : c.take.new.self.number ≡ c.loop-line.cut.number + 1 = search rules in
    let taken : IsTaken c.loop-line.cut.block (c.loop-line.cut.number + 1, c.in-Some.line.now) c.take.new.self.block block = search rules in (
      before.0 ++ option_to_list block,
      counted ∙ ap (λ n. n + length (option_to_list block)) before.1 ∙ sym (length-append before.0 (option_to_list block)),
      cut_more c.loop-line.yielded c.in-Some.line before.0 _ _ _ _ block before.2 number taken,
    )

pub returns : goal.returns
returns c =
    let before = c.loop-line.invariant in
    let block = c.end.result in
    let road = YieldsList-from_lines c.args.text.now (ap lines_rest c.into_iter-line-iterator.ensures.into_iter_gives ∙ c.lines-line-items.ensures.rest) in
    let all_read = (YieldsList-end road c.loop-line.yielded c.loop-line.line-iterator c.loop-line.yielded_by c.next.result c.next.new.self c.in-None.is c.next.ensures.steps).0 in
    let all = cut_end c.args.text.now c.loop-line.yielded before.0 _ _ block before.2 all_read c.end.ensures.ended in
    let counted : IfOk c.with_ended-2.result (λ n. n ≡ c.loop-line.count + length (option_to_list block)) = search rules in
    let whole = ap (λ n. n + length (option_to_list block)) before.1 ∙ sym (length-append before.0 (option_to_list block)) ∙ ap length all.0 in
    record {
      counted = IfOk-weaker c.with_ended-2.result _ (λ n. n ≡ length (blocks_of c.args.text.now)) (λ n so. so ∙ whole) counted;
      sound = IfOk-weaker c.with_ended-2.result _ (λ _. IsVectorText c.args.text.now) (λ n so. all.1) counted;
    }
