use Rattle.std.proofs.Common.{◌≡◌, length}
use Rattle.tape.specs.Lines.{lines, sound}
use Rattle.tape.proofs.lines.are_sound.Given as goal

abbrev pub invariant-loop-line : goal.invariant-loop-line
invariant-loop-line l = sound l.limit (lines l.bytes) ≡ sound l.limit (lines l.left.0.now)

abbrev pub decreases-loop-line : goal.decreases-loop-line
decreases-loop-line l = length l.left.0.now
