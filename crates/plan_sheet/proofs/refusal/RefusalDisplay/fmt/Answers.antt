use Rattle.std.proofs.Common.{append-nil}
use Rattle.plan_sheet.proofs.Pushes.{six}
use Rattle.plan_sheet.proofs.refusal.RefusalDisplay.fmt.Goals as goal

pub returns-clause-writes : goal.returns-clause-writes
returns-clause-writes g c = λ plain ok.
    let held = simp (c.laid_out.ensures, c.laid_out-2.ensures, c.laid_out-3.ensures, six, c.number.ensures, c.line.ensures, c.field.ensures) at (c.write.ensures.writes plain ok) in
    simp append-nil held
