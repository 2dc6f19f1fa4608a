use Rattle.std.proofs.Common.{append_assoc, append-nil}
use Rattle.plan_sheet.specs.Prints.{group_row}
use Rattle.plan_sheet.proofs.Pushes.{six, made}
use Rattle.plan_sheet.proofs.prints.put_group.Goals as goal

pub returns : goal.returns
unfolding group_row
returns c =
    made _ c.writeln.result _ _ c.writeln.ensures.bytes
    (simp (c.laid_out.ensures, c.laid_out-2.ensures, c.laid_out-3.ensures, c.laid_out-4.ensures, six, c.size-members.ensures.value, append_assoc, append-nil))
