use Rattle.std.proofs.Common.{rules, ◌≡◌, ◌+◌, ◌<◌, ◌∷◌, ◌++◌, [], List, length, map, take, true, false, ap, sym, ◌∙◌, subst, refl}
use Rattle.std.proofs.lemmas.Result.{on_ok_weaker}
use Rattle.vector_files.specs.Field.{NamedValue, Lines}
use Rattle.vector_files.specs.Cases.{Question, Comes, outcome_of, IsAsked, counted, plus}
use Rattle.vector_files.specs.Cases.Question.{Whole, Line}
use Rattle.vector_files.specs.declared.count.Outcome.TheVariants.{Waits}
use Rattle.vector_files.specs.Waits.{block_waits}
use Rattle.vector_files.proofs.Asking.{line_more, asked_one, asked_on, asked_waits, asked_whole}
use Rattle.vector_files.proofs.run.Run.block.Goals as goal

pub returns-then-has_block-clause-asked : goal.returns-then-has_block-clause-asked
returns-then-has_block-clause-asked g c =
    let S = g.S.Suite in
    let waits : block_waits c.args.self.now.waiting c.args.block.now ≡ true = search rules in
    on_ok_weaker _ (λ (grown : c.add.new.self.count ≡ plus c.args.self.now.count (counted (Waits ∷ []))). asked_waits S.answers S.line_answers S.cases _ c.args.block.now _ _ _ _ waits c.add.ensures.suite grown) c.add.ensures.count

pub loop-field-init : goal.loop-field-init
loop-field-init g c =
    let S = g.S.Suite in
    let plain : block_waits c.args.self.now.waiting c.args.block.now ≡ false = search rules in
    let answered : S.answers c.args.self.now.suite c.args.block.now c.in_ok-answer.answer c.add-2.new.self.suite = rw c.add-2.ensures.suite c.in_ok-answer.ensures in
    let grown = c.in_ok-add.ensures.count ∙ ap (λ outcome. plus c.args.self.now.count (counted (outcome ∷ []))) c.of.ensures in
    (c.add-2.ensures.waiting, asked_whole S.answers S.line_answers S.cases _ c.args.block.now c.in_ok-answer.answer _ _ _ _ plain answered grown)

pub loop-field-preserved : goal.loop-field-preserved
loop-field-preserved g c =
    let S = g.S.Suite in
    let block = c.args.block.now in
    let items = c.fields-field-items.result.now in
    let i = c.loop-field.field-index in
    let waiting = c.args.self.now.waiting in
    let inside : i < length items = search rules in
    let same : c.add-in-loop-field.new.self.waiting ≡ waiting = c.add-in-loop-field.ensures.waiting ∙ c.line-in-loop-field.ensures.waiting ∙ c.loop-field.invariant.0 in
    let comes : Comes S.answers S.line_answers S.cases waiting c.loop-field.self.suite (Line block c.field-item.result) c.in_ok-outcome.outcome c.add-in-loop-field.new.self.suite =
    rw c.add-in-loop-field.ensures.suite (subst (λ w. Comes S.answers S.line_answers S.cases w c.loop-field.self.suite (Line block c.field-item.result) c.in_ok-outcome.outcome c.line-in-loop-field.new.self.suite) c.loop-field.invariant.0 c.in_ok-outcome.ensures.comes) in
    let grown : c.add-in-loop-field.new.self.count ≡ plus c.loop-field.self.count (counted (c.in_ok-outcome.outcome ∷ [])) = c.in_ok-add-2.ensures.count ∙ ap (λ count. plus count (counted (c.in_ok-outcome.outcome ∷ []))) c.line-in-loop-field.ensures.count in
    let one = asked_one S.answers S.line_answers S.cases waiting (Line block c.field-item.result) c.in_ok-outcome.outcome _ _ _ _ comes grown in
    rw (line_more block items i c.field-item.result inside c.field-item.is) (same, asked_on S.answers S.line_answers S.cases waiting _ _ _ _ _ _ _ _ c.loop-field.invariant.1 one)
