use Rattle.std.proofs.Common.{sym, ◌∙◌}
use Rattle.tape.proofs.Cutting.{rest_sound, sound_unused, sound_used}
use Rattle.tape.proofs.lines.are_sound.Goals as goal

pub returns-then-is_unused : goal.returns-then-is_unused
returns-then-is_unused c = c.are_unused.ensures ∙ sym (c.loop-line.invariant ∙ sound_unused _ _ _ _ c.in-Some.ensures.steps c.if-is_unused.ensures)

pub returns-then-not-is_fresh : goal.returns-then-not-is_fresh
returns-then-not-is_fresh c = sym (c.loop-line.invariant ∙ sound_used _ _ _ _ c.in-Some.ensures.steps _ c.if-is_unused.ensures c.if-not-is_fresh.ensures)

pub loop-line-preserved : goal.loop-line-preserved
loop-line-preserved c = c.loop-line.invariant ∙ sound_used _ _ _ _ c.in-Some.ensures.steps _ c.if-is_unused.ensures c.if-not-is_fresh.ensures

pub returns : goal.returns
returns c = c.is_empty.ensures ∙ rest_sound _ _ c.in_default.ensures.steps c.args.limit ∙ sym c.loop-line.invariant
