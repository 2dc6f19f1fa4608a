use Rattle.std.proofs.Common.{◌≡◌, length}
use Rattle.tape.specs.Lines.{lines, all_unused}
use Rattle.tape.proofs.lines.are_unused.Given as goal

abbrev pub invariant-loop-line : goal.invariant-loop-line
invariant-loop-line l = all_unused (lines l.bytes) ≡ all_unused (lines l.lines.0.now)

abbrev pub decreases-loop-line : goal.decreases-loop-line
decreases-loop-line l = length l.lines.0.now
