use Rattle.lmots.proofs.Figures.{figures}
use Rattle.lmots.proofs.laws.figures_hold.Goals as goal

pub returns : goal.returns
returns c = figures
