use Rattle.lms.proofs.Sound.{signing_sound}
use Rattle.lms.proofs.laws.signing_sound.Goals as goal

pub returns : goal.returns
returns c = signing_sound
