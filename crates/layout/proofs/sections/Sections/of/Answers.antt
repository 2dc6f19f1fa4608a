use Rattle.std.proofs.Common.{◌≡◌, ℕ, ◌+◌, ◌*◌, ◌<◌, ◌≤◌, leb, [], ◌∷◌, length, sym, ap, ◌∙◌, arith, length-append}
use Rattle.std.proofs.lemmas.Bool.{and_parts, leb-true}
use Rattle.plan.specs.declared.group.Group.{Group}
use Rattle.plan.specs.declared.plans.Plan.{Plan}
use Rattle.plan.specs.Groups.{group_of}
use Rattle.plan.specs.View.{view}
use Rattle.plan.proofs.Found.{view_groups, plan_ranges}
use Rattle.layout.specs.declared.section.Section.{Section}
use Rattle.layout.specs.Table.{section_of, start_of, rows_of_group}
use Rattle.layout.proofs.Joined.{start_next, places}
use Rattle.layout.proofs.Lying.{laid_none, laid_more, group_turn, groups_end, start_within, find_owner, group_rows}
use Rattle.layout.proofs.sections.Sections.of.Goals as goal

groups_few : (plan : Plan) → length (view plan).masks ≤ 70
groups_few plan = omega (arith, view_groups plan, leb-true _ _ (and_parts (leb 1 plan.groups) (leb plan.groups 70) plan.groups_in).1)

-- how far the table reaches with one group more
far : (plan : Plan) (n start rows : ℕ) (g : Group) → start ≡ start_of (view plan) n → rows ≡ rows_of_group (view plan) n → (n < length (view plan).masks) × (g ≡ group_of (view plan) n) → start + g.count * rows ≤ 1024 * 8723
far plan n start rows g at er turn =
    let reached : start + g.count * rows ≡ start_of (view plan) (n + 1) = (λ i. at i + (turn.1 i).count * er i) ∙ sym (start_next (view plan) n) in
    omega (arith, reached, start_within plan (n + 1) (omega (arith, turn.0)))

pub loop-group-init : goal.loop-group-init
loop-group-init c =
    let none = c.default-all.ensures in
    laid_none (view c.args.plan.now) c.default-all.result (λ i. record { first = none.0 i; count = none.1.0 i; rows = none.1.1.0 i; start = none.1.1.1 i })

pub offset_bounds-all-group : goal.offset_bounds-all-group
offset_bounds-all-group c =
    let plan = c.args.plan.now in
    let turn = group_turn (view plan) _ (c.into_iter-group-iterator.ensures.into_iter_gives ∙ c.iter-group-items.ensures) c.loop-group.yielded c.loop-group.group-iterator c.loop-group.yielded_by c.next.result c.next.new.self c.in-Some.group c.in-Some.is c.next.ensures.steps in
    omega (arith, turn.0, ap (λ (x : Group). x.number) turn.1, groups_few plan)

pub bounds-all-group : goal.bounds-all-group
bounds-all-group c =
    let plan = c.args.plan.now in
    let turn = group_turn (view plan) _ (c.into_iter-group-iterator.ensures.into_iter_gives ∙ c.iter-group-items.ensures) c.loop-group.yielded c.loop-group.group-iterator c.loop-group.yielded_by c.next.result c.next.new.self c.in-Some.group c.in-Some.is c.next.ensures.steps in
    omega (arith, turn.0, ap (λ (x : Group). x.number) turn.1, groups_few plan)

pub overflow_mul-start : goal.overflow_mul-start
overflow_mul-start c =
    let plan = c.args.plan.now in
    let turn = group_turn (view plan) _ (c.into_iter-group-iterator.ensures.into_iter_gives ∙ c.iter-group-items.ensures) c.loop-group.yielded c.loop-group.group-iterator c.loop-group.yielded_by c.next.result c.next.new.self c.in-Some.group c.in-Some.is c.next.ensures.steps in
    let n = length c.loop-group.yielded in
    let rows = group_rows plan n c.in-Some.group c.height.result c.width.result c.part_rows-rows.result c.height.ensures c.width.ensures turn.1 c.part_rows-rows.ensures.value in
    omega (arith, far plan n c.loop-group.start c.part_rows-rows.result c.in-Some.group c.loop-group.invariant.at rows turn)

pub overflow_add-start : goal.overflow_add-start
overflow_add-start c =
    let plan = c.args.plan.now in
    let turn = group_turn (view plan) _ (c.into_iter-group-iterator.ensures.into_iter_gives ∙ c.iter-group-items.ensures) c.loop-group.yielded c.loop-group.group-iterator c.loop-group.yielded_by c.next.result c.next.new.self c.in-Some.group c.in-Some.is c.next.ensures.steps in
    let n = length c.loop-group.yielded in
    let rows = group_rows plan n c.in-Some.group c.height.result c.width.result c.part_rows-rows.result c.height.ensures c.width.ensures turn.1 c.part_rows-rows.ensures.value in
    omega (arith, far plan n c.loop-group.start c.part_rows-rows.result c.in-Some.group c.loop-group.invariant.at rows turn)

pub loop-group-preserved : goal.loop-group-preserved
loop-group-preserved c =
    let plan = c.args.plan.now in
    let p = view plan in
    let gs = c.loop-group.yielded in
    let g = c.in-Some.group in
    let turn = group_turn p _ (c.into_iter-group-iterator.ensures.into_iter_gives ∙ c.iter-group-items.ensures) gs c.loop-group.group-iterator c.loop-group.yielded_by c.next.result c.next.new.self g c.in-Some.is c.next.ensures.steps in
    let n = length gs in
    let rows = group_rows plan n g c.height.result c.width.result c.part_rows-rows.result c.height.ensures c.width.ensures turn.1 c.part_rows-rows.ensures.value in
    let section : Section = record { first = g.first; count = g.count; rows = c.part_rows-rows.result; start = c.loop-group.start } in
    let same : section ≡ section_of p n = λ i. record { first = (turn.1 i).first; count = (turn.1 i).count; rows = rows i; start = c.loop-group.invariant.at i } in
    laid_more p n g.number _ c.loop-group.all c.loop-group.start section c.loop-group.invariant (ap (λ (x : Group). x.number) turn.1) (length-append gs (g ∷ [])) (omega (arith, turn.0, groups_few plan)) same

pub returns-clause-groups : goal.returns-clause-groups
returns-clause-groups c = λ g none l.
    let all = groups_end (view c.args.plan.now) _ (c.into_iter-group-iterator.ensures.into_iter_gives ∙ c.iter-group-items.ensures) c.loop-group.yielded c.loop-group.group-iterator c.loop-group.yielded_by c.next.result c.next.new.self c.in-None.is c.next.ensures.steps in
    c.loop-group.invariant.front g none (omega (arith, all, l))

pub returns-clause-others : goal.returns-clause-others
returns-clause-others c = λ g none low high.
    let all = groups_end (view c.args.plan.now) _ (c.into_iter-group-iterator.ensures.into_iter_gives ∙ c.iter-group-items.ensures) c.loop-group.yielded c.loop-group.group-iterator c.loop-group.yielded_by c.next.result c.next.new.self c.in-None.is c.next.ensures.steps in
    c.loop-group.invariant.behind g none (omega (arith, all, low)) (omega (arith, high, c.loop-group.invariant.long))

pub returns-clause-owners : goal.returns-clause-owners
returns-clause-owners c = λ key.
    let plan = c.args.plan.now in
    let p = view plan in
    let n = length c.loop-group.yielded in
    let all : n ≡ length p.masks = groups_end p _ (c.into_iter-group-iterator.ensures.into_iter_gives ∙ c.iter-group-items.ensures) c.loop-group.yielded c.loop-group.group-iterator c.loop-group.yielded_by c.next.result c.next.new.self c.in-None.is c.next.ensures.steps in
    let laid = c.loop-group.invariant in
    find_owner p c.loop-group.all 0 (length p.masks)
    (λ j d l. laid.front j d (omega (arith, all)) ∙ ap (section_of p) (omega arith))
    (λ j d l m. laid.behind j d (omega (arith, all)) m)
    (omega (arith, laid.long, groups_few plan)) key

pub returns-clause-places : goal.returns-clause-places
returns-clause-places c = places (view c.args.plan.now) (plan_ranges c.args.plan.now)
