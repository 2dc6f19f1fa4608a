use Rattle.std.proofs.Common.{sym, ◌∙◌}
use Rattle.tape.proofs.Cutting.{rest_unused, all_unused_from}
use Rattle.tape.proofs.lines.are_unused.Goals as goal

pub returns-then-not-is_unused : goal.returns-then-not-is_unused
returns-then-not-is_unused c = sym (c.loop-line.invariant ∙ all_unused_from _ _ _ c.in-Some.ensures.steps _ c.if-not-is_unused.ensures)

pub loop-line-preserved : goal.loop-line-preserved
loop-line-preserved c = c.loop-line.invariant ∙ all_unused_from _ _ _ c.in-Some.ensures.steps _ c.if-not-is_unused.ensures

pub returns : goal.returns
returns c = c.is_empty.ensures ∙ rest_unused _ _ c.in_default.ensures.steps ∙ sym c.loop-line.invariant
