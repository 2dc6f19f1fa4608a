use Rattle.std.proofs.Common.{length, sym, ap, ◌∙◌, arith}
use Rattle.plan.specs.Members.{members}
use Rattle.plan.proofs.Seats.{nobody, peeled}
use Rattle.plan.proofs.members.MembersIterator.next.Goals as goal

pub returns-then-self-eq0-clause-steps : goal.returns-then-self-eq0-clause-steps
returns-then-self-eq0-clause-steps c = let e = sym c.self.view_is ∙ ap members c.if-self-eq0.true ∙ nobody in (e, e)

pub returns-clause-steps : goal.returns-clause-steps
returns-clause-steps c = sym c.self.view_is ∙ peeled c.self.inside.left (omega arith) (omega arith)

pub returns-clause-goes : goal.returns-clause-goes
returns-clause-goes c = let e = returns-clause-steps c in record { on = λ _. (tt, tt, omega (arith, ap length e)); keeps = tt; rests = λ _. tt }
