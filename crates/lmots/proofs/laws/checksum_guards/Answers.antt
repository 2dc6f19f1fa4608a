use Rattle.lmots.proofs.Guards.{checksum_guards}
use Rattle.lmots.proofs.laws.checksum_guards.Goals as goal

pub returns : goal.returns
returns c = checksum_guards
