use Rattle.std.proofs.Common.{map, sym, arith}
use Rattle.std.proofs.lemmas.Result.{err_from_is_err_and}
use Rattle.plan.specs.View.{view}
use Rattle.plan.proofs.Found.{plan_ranges}
use Rattle.dealer.proofs.Checking.{refused, accepted, some_keys}
use Rattle.dealer.proofs.dealers.Dealer.check_table.Goals as goal

pub returns-in_err-check_part-clause-answer : goal.returns-in_err-check_part-clause-answer
returns-in_err-check_part-clause-answer g c =
    let plan = c.args.self.now.plan in
    let sources = map g.P.Pads.source c.args.sources.now in
    let q = err_from_is_err_and c.from_residual.result c.from_residual.ensures.1 in
    rw (q.1, q.2) (sym (refused (view plan) (plan_ranges plan) sources c.args.length c.loop-key.key _ (omega (arith, c.dealt_keys-key-end.ensures)) (sym c.in_err-check_part.ensures)))

pub returns-clause-answer : goal.returns-clause-answer
returns-clause-answer g c =
    let plan = c.args.self.now.plan in
    let sources = map g.P.Pads.source c.args.sources.now in
    sym (accepted (view plan) (plan_ranges plan) sources c.args.length (some_keys plan) (λ key l. c.loop-key.invariant key (omega (arith, c.dealt_keys-key-end.ensures))))
