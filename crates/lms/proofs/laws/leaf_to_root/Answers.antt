use Rattle.lms.proofs.Trees.{leaf_to_root}
use Rattle.lms.proofs.laws.leaf_to_root.Goals as goal

pub returns : goal.returns
returns c = leaf_to_root
