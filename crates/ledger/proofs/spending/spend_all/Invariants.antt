use Rattle.std.proofs.Common.{◌≡◌, take, fold}
use Rattle.ledger.specs.Runs.{Run}
use Rattle.ledger.proofs.spending.spend_all.Given as goal

abbrev pub invariant-loop-done : goal.invariant-loop-done
invariant-loop-done g l =
    let done = take l.done l.keys in
    Run (g.L.Ledger.standing l.initial.ledger) done (g.L.Ledger.standing l.ledger) × (l.ledger ≡ fold g.L.Ledger.after_spend l.initial.ledger done)
