use Rattle.std.proofs.Common.{◌≡◌, ◌++◌, [], ◌∷◌, length, sym, ap, ◌∙◌, append-nil}
use Rattle.std.proofs.lemmas.Iterator.Consumers.{YieldsList-from_first, YieldsList-turn, YieldsList-end}
use Rattle.std.proofs.lemmas.List.{map-id}
use Rattle.std.specs.Fmt.{styled_decimal}
use Rattle.std.specs.List.{flat_map, range_with_len}
use Rattle.plan.specs.Groups.{group_of, groups}
use Rattle.plan.specs.Keys.{undealt}
use Rattle.plan.specs.View.{view}
use Rattle.columns.specs.Number.{right}
use Rattle.plan_sheet.specs.Prints.{group_row, printed}
use Rattle.plan_sheet.proofs.Pushes.{six, rows_of, group_in}
use Rattle.plan_sheet.proofs.prints.ranges.Goals as goal

pub put_group-requires : goal.put_group-requires
put_group-requires c =
    let road = YieldsList-from_first (λ g. g) (λ rest. rest) (groups (view c.args.plan.now)) (c.into_iter-group-iterator.ensures.into_iter_gives ∙ c.iter-group-items.ensures) in
    let turn = YieldsList-turn road c.loop-group.yielded c.loop-group.group-iterator c.loop-group.yielded_by c.next.result c.next.new.self c.in-Some.group c.in-Some.is c.next.ensures.steps in
    group_in c.args.plan.now (length c.loop-group.yielded) c.in-Some.group turn.0 turn.1

pub returns : goal.returns
unfolding printed
returns c =
    let p = view c.args.plan.now in
    let road = YieldsList-from_first (λ g. g) (λ rest. rest) (groups p) (c.into_iter-group-iterator.ensures.into_iter_gives ∙ c.iter-group-items.ensures) in
    let all = YieldsList-end road c.loop-group.yielded c.loop-group.group-iterator c.loop-group.yielded_by c.next.result c.next.new.self c.in-None.is c.next.ensures.steps in
    let rows = flat_map (λ g. group_row (group_of p g)) (range_with_len 0 (length p.masks)) in
    let end = styled_decimal c.laid_out.result c.undealt.result in
    let grown = c.loop-group.invariant ∙ ap (flat_map group_row) (sym (map-id c.loop-group.yielded) ∙ all.0) ∙ rows_of group_row (group_of p) (range_with_len 0 (length p.masks)) in
    let last : end ≡ right 6 (undealt p) ++ [] = ap (λ s. styled_decimal s c.undealt.result) c.laid_out.ensures ∙ six c.undealt.result ∙ ap (right 6) c.undealt.ensures ∙ sym (append-nil (right 6 (undealt p))) in
    c.in_ok-writeln.ensures.bytes ∙ ap (λ t. t ++ (end ++ 10 ∷ [])) grown ∙ ap (λ r. rows ++ (r ++ 10 ∷ [])) last
