use Rattle.lms.proofs.Sound.{lengths_hold}
use Rattle.lms.proofs.laws.lengths_hold.Goals as goal

pub returns : goal.returns
returns c = lengths_hold
