use Rattle.std.proofs.Common.{ℕ, ◌*◌, length, ◌∙◌, arith, rules, tests}
use Rattle.std.specs.Iterator.Adapters.{map_source}
use Rattle.std.proofs.lemmas.Iterator.{YieldsList-from_map}
use Rattle.std.proofs.lemmas.Iterator.Consumers.{YieldsList-from_first, sum_by_from_yields_List, fits_by_from_yields_list}
use Rattle.plan.specs.declared.group.Group.{Group}
use Rattle.plan.specs.Groups.{groups}
use Rattle.plan.specs.Members.{members}
use Rattle.plan.specs.View.{view}
use Rattle.layout.specs.Part.{part_rows}
use Rattle.layout.proofs.Lying.{rows_sum, start_within}
use Rattle.layout.proofs.part.table_rows.Goals as goal

pub sum-requires-clause-fits : goal.sum-requires-clause-fits
sum-requires-clause-fits c =
    let plan = c.args.plan.now in
    let p = view plan in
    let rows : Group → ℕ = λ g. g.count * part_rows p.height p.width (length (members g.mask)) in
    fits_by_from_yields_list rows (groups p) c.map.result _
    (YieldsList-from_map _ rows (YieldsList-from_first (λ (g : Group). g) (λ rest. rest) {s = map_source c.map.result} (groups p) (c.map.ensures.source ∙ c.iter.ensures)) c.map.ensures.closure (λ x r q k. search (rules, tests)))
    (omega (arith, rows_sum p (length p.masks), start_within plan (length p.masks) (omega arith)))

pub returns-clause-value : goal.returns-clause-value
returns-clause-value c =
    let plan = c.args.plan.now in
    let p = view plan in
    let rows : Group → ℕ = λ g. g.count * part_rows p.height p.width (length (members g.mask)) in
    sum_by_from_yields_List rows (groups p) c.map.result c.sum.result c.sum.ensures.ran
    (YieldsList-from_map _ rows (YieldsList-from_first (λ (g : Group). g) (λ rest. rest) {s = map_source c.map.result} (groups p) (c.map.ensures.source ∙ c.iter.ensures)) c.map.ensures.closure (λ x r q k. search (rules, tests)))
    ∙ rows_sum p (length p.masks)

pub returns-clause-few : goal.returns-clause-few
returns-clause-few c =
    let plan = c.args.plan.now in
    omega (arith, returns-clause-value c, start_within plan (length (view plan).masks) (omega arith))
