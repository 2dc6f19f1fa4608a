use Rattle.std.proofs.Common.{length}
use Rattle.plan.specs.View.{view}
use Rattle.layout.proofs.Lying.{Laid}
use Rattle.layout.proofs.sections.Sections.of.Given as goal

abbrev pub invariant-loop-group : goal.invariant-loop-group
invariant-loop-group l = Laid (view l.plan) (length l.yielded) l.all l.start
