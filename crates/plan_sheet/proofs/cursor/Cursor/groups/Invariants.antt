use Rattle.std.proofs.Common.{◌≡◌}
use Rattle.plan_sheet.proofs.Lines.{Lining}
use Rattle.plan_sheet.proofs.cursor.Cursor.groups.Given as goal

abbrev pub invariant-loop-mask : goal.invariant-loop-mask
invariant-loop-mask l =
    (l.self.sheet.now ≡ l.initial.self.sheet.now)
    × Lining l.initial.self.sheet.now l.trustees l.groups l.mask-index l.self.line l.above l.mask-items
