use Rattle.std.proofs.Common.{◌≡◌, ◌+◌, is_some, unwrap_or}
use Rattle.plan_sheet.proofs.Groups.{Going}
use Rattle.plan_sheet.proofs.cursor.Cursor.group.Given as goal

abbrev pub invariant-loop : goal.invariant-loop
invariant-loop l =
    (l.self.sheet.now ≡ l.initial.self.sheet.now)
    × (l.self.line ≡ l.initial.self.line)
    × Going l.initial.self.sheet.now l.initial.self.line l.trustees l.self.field l.tally.floor (unwrap_or l.tally.mask 0) (is_some l.tally.mask)
    × (l.self.field ≡ l.counter + 1)
