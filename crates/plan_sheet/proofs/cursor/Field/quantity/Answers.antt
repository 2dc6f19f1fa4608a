use Rattle.std.proofs.Common.{Some, sym, ap, ◌∙◌}
use Rattle.std.proofs.lemmas.Result.{err_from_is_err_and}
use Rattle.plan_sheet.specs.Checks.{quantity_checks}
use Rattle.plan_sheet.proofs.Chosen.{ok_or_is}
use Rattle.plan_sheet.proofs.Headings.{quantity_in, quantity_out, worth_is}
use Rattle.plan_sheet.proofs.cursor.Field.quantity.Goals as goal

pub returns : goal.returns
returns g c =
    let is = c.in_ok-number.ensures in
    ok_or_is c.of.result c.out_of_range.result c.ok_or.result _ _ c.ok_or.ensures.value
    (λ n. quantity_out g.Q.Quantity.allowed _ _ _ _ is (rw n at c.of.ensures) ∙ ap (λ e. Some e) (sym c.out_of_range.ensures))
    (λ x s. let q = rw s at c.of.ensures in (quantity_in g.Q.Quantity.allowed _ _ _ _ is q.0, (q.1 ∙ sym (worth_is c.args.self.now.bytes.now _ is), ap g.Q.Quantity.allowed q.1 ∙ q.0)))

pub returns-in_err-number : goal.returns-in_err-number
unfolding quantity_checks
returns-in_err-number g c =
    let p = err_from_is_err_and c.from_residual.result c.from_residual.ensures.1 in
    let w = c.in_err-number.ensures in
    rw (p.1, p.2) (rw (w.0, w.1))
