use Rattle.std.proofs.Common.{◌≡◌, string_bytes}
use Rattle.std.specs.List.{flat_map}
use Rattle.plan_sheet.specs.Prints.{group_row}
use Rattle.plan_sheet.proofs.prints.ranges.Given as goal

abbrev pub invariant-loop-group : goal.invariant-loop-group
invariant-loop-group l = string_bytes l.text ≡ flat_map group_row l.yielded
