use Rattle.std.proofs.Common.{rules, ◌≡◌, ◌+◌, ◌++◌, [], All, ap, ◌∙◌, subst, refl}
use Rattle.std.specs.Prelude.{option_to_list}
use Rattle.std.specs.List.{flat_map}
use Rattle.std.specs.Str.Iter.{lines_rest}
use Rattle.std.proofs.lemmas.Iterator.Consumers.{YieldsList-end}
use Rattle.std.proofs.lemmas.Iterator.Splits.{YieldsList-from_lines}
use Rattle.vector_files.specs.Cases.{IsAsked, IsKnown, questions}
use Rattle.vector_files.specs.Texts.{IsTaken}
use Rattle.vector_files.proofs.Asking.{asked_none, asked_ended, known_ended}
use Rattle.vector_files.proofs.Cutting.{cut_begin, cut_more, cut_end}
use Rattle.vector_files.proofs.run.Run.text.Goals as goal

pub loop-line-init : goal.loop-line-init
loop-line-init g c =
    let S = g.S.Suite in
    (refl, [], cut_begin _ _ c.new-cut.ensures.number c.new-cut.ensures.block, search rules, asked_none S.answers S.line_answers S.cases _ _ _)

pub loop-line-preserved : goal.loop-line-preserved
loop-line-preserved g c =
    let S = g.S.Suite in
    let before = c.loop-line.invariant in
    let block = c.in_ok-block.block in
    let number : c.take.new.self.number ≡ c.loop-line.cut.number + 1 = search rules in
    let taken : IsTaken c.loop-line.cut.block (c.loop-line.cut.number + 1, c.in-Some.line.now) c.take.new.self.block block = search rules in
    let same : c.ended.new.self.waiting ≡ c.loop-line.self.waiting = search rules in
    let known : All (IsKnown S.values S.cases c.loop-line.self.waiting) (option_to_list block) = search rules in
    let asked : IsAsked S.answers S.line_answers S.cases c.loop-line.self.waiting (flat_map (questions c.loop-line.self.waiting) (option_to_list block)) c.loop-line.self.suite c.loop-line.self.count c.ended.new.self.suite c.ended.new.self.count = search rules in (
      same ∙ before.0,
      before.1 ++ option_to_list block,
      cut_more c.loop-line.yielded c.in-Some.line before.1 _ _ _ _ block before.2 number taken,
      known_ended S.values S.cases _ _ before.1 block before.0 before.3 known,
      asked_ended S.answers S.line_answers S.cases _ _ before.1 block _ _ _ _ _ _ before.0 before.4 asked,
    )

pub returns : goal.returns
returns g c =
    let S = g.S.Suite in
    let before = c.loop-line.invariant in
    let block = c.end.result in
    let road = YieldsList-from_lines c.args.text.now (ap lines_rest c.into_iter-line-iterator.ensures.into_iter_gives ∙ c.lines-line-items.ensures.rest) in
    let all_read = (YieldsList-end road c.loop-line.yielded c.loop-line.line-iterator c.loop-line.yielded_by c.next.result c.next.new.self c.in-None.is c.next.ensures.steps).0 in
    let all = cut_end c.args.text.now c.loop-line.yielded before.1 _ _ block before.2 all_read c.end.ensures.ended in
    let known : All (IsKnown S.values S.cases c.loop-line.self.waiting) (option_to_list block) = search rules in
    let asked : IsAsked S.answers S.line_answers S.cases c.loop-line.self.waiting (flat_map (questions c.loop-line.self.waiting) (option_to_list block)) c.loop-line.self.suite c.loop-line.self.count c.ended-2.new.self.suite c.ended-2.new.self.count = search rules in
    let all_known = known_ended S.values S.cases _ _ before.1 block before.0 before.3 known in
    let all_asked = asked_ended S.answers S.line_answers S.cases _ _ before.1 block _ _ _ _ _ _ before.0 before.4 asked in
    record {
      known = subst (All (IsKnown S.values S.cases c.args.self.waiting)) all.0 all_known;
      sound = all.1;
      counted = (c.ended-2.new.self.suite, subst (λ blocks. IsAsked S.answers S.line_answers S.cases c.args.self.waiting (flat_map (questions c.args.self.waiting) blocks) c.args.self.suite c.args.self.count c.ended-2.new.self.suite c.ended-2.new.self.count) all.0 all_asked);
    }
