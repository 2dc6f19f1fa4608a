use Rattle.lms.proofs.Holding.{holds}
use Rattle.lms.proofs.scheme.laws_hold.Goals as goal

pub returns : goal.returns
returns g c = let m = g.met.H.Hash in holds g.H.Hash.hashed m.long g.H.Hash.ots g.H.Hash.tree m.ots_low m.tree_low
