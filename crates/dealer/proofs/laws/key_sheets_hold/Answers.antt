use Rattle.std.proofs.Common.{List, ℕ, sym, subst}
use Rattle.lms.specs.Scheme.{Holds}
use Rattle.lms.proofs.Holding.{holds}
use Rattle.dealer.proofs.Contents.{key_sheets}
use Rattle.dealer.proofs.laws.key_sheets_hold.Goals as goal

pub returns : goal.returns
returns g c d same are =
    let H = g.H.Hash in
    let m = g.met.H.Hash in
    let own : Holds d.hashed H.ots H.tree = subst (λ (f : List ℕ → List ℕ). Holds f H.ots H.tree) (sym same) (holds H.hashed m.long H.ots H.tree m.ots_low m.tree_low) in
    key_sheets d H.ots H.tree own are
