use Rattle.std.proofs.Common.{◌∙◌}
use Rattle.lmots.specs.LmOts.{start}
use Rattle.lmots.proofs.single.chain_start.Goals as goal

pub returns : goal.returns
unfolding start
returns g c = c.step.ensures ∙ simp c.bytes.ensures
