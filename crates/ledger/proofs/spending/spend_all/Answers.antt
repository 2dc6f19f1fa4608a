use Rattle.std.proofs.Common.{sym}
use Rattle.ledger.proofs.Running.{longer}
use Rattle.ledger.proofs.spending.spend_all.Goals as goal

pub loop-done-preserved : goal.loop-done-preserved
loop-done-preserved g c =
    longer g.L.Ledger.standing g.L.Ledger.after_spend _ _ _ c.args.keys.now c.loop-done.done c.loop-done-test.true c.spend.result (sym c.if-is_err.ensures.value) c.spend.ensures.spends c.spend.ensures.value c.loop-done.invariant
