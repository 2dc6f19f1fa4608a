use Rattle.std.proofs.Common.{rules, ◌<◌, All, IsTrue, length, subst, ◌≤◌, ◌∙◌}
use Rattle.std.proofs.lemmas.List.{take_more, take_all}
use Rattle.std.proofs.lemmas.List.Elements.{All-push}
use Rattle.vector_files.specs.Field.{NamedValue}
use Rattle.vector_files.specs.Cases.{is_known}
use Rattle.vector_files.proofs.run.Run.check_names.Goals as goal

pub loop-field-preserved : goal.loop-field-preserved
loop-field-preserved g c =
    let known = λ (line : NamedValue). IsTrue (is_known g.S.Suite.values g.S.Suite.cases c.args.self.now.waiting line.name) in
    let items = c.fields-field-items.result.now in
    let i = c.loop-field.field-index in
    let inside : i < length items = search rules in
    let last : known c.field-item.result = search rules in
    rw (take_more items i c.field-item.result inside) (All-push known _ _ c.loop-field.invariant (subst known c.field-item.is last))

pub returns : goal.returns
returns g c =
    let known = λ (line : NamedValue). IsTrue (is_known g.S.Suite.values g.S.Suite.cases c.args.self.now.waiting line.name) in
    let whole : length c.fields-field-items.result.now ≤ c.loop-field.field-index = search rules in
    subst (All known) (take_all c.loop-field.field-index c.fields-field-items.result.now whole ∙ c.fields-field-items.ensures) c.loop-field.invariant
