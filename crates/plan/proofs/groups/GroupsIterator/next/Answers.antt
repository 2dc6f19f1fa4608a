use Rattle.std.proofs.Common.{length, sym, ap, ◌∙◌, arith}
use Rattle.plan.specs.View.{view}
use Rattle.plan.proofs.Found.{first_group, no_group}
use Rattle.plan.proofs.groups.GroupsIterator.next.Goals as goal

pub returns-in_err-group-clause-steps : goal.returns-in_err-group-clause-steps
returns-in_err-group-clause-steps c =
    let e = sym c.self.view_is ∙ no_group (view c.self.inside.plan.now) c.self.inside.number (sym c.in_err-group.was ∙ c.group.ensures) in
    rw c.from_residual.ensures (e, e)

pub returns-clause-steps : goal.returns-clause-steps
returns-clause-steps c = sym c.self.view_is ∙ first_group (view c.self.inside.plan.now) c.self.inside.number c.in_ok-group.group (sym c.in_ok-group.was ∙ c.group.ensures)

pub returns-clause-goes : goal.returns-clause-goes
returns-clause-goes c = let e = returns-clause-steps c in record { on = λ _. (tt, tt, omega (arith, ap length e)); keeps = tt; rests = λ _. tt }
