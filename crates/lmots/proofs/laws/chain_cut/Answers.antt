use Rattle.lmots.proofs.Chains.{chain_cut}
use Rattle.lmots.proofs.laws.chain_cut.Goals as goal

pub returns : goal.returns
returns c = chain_cut
