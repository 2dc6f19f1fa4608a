use Rattle.std.proofs.Common.{◌-◌, ◌++◌, refl, ◌∙◌, rules}
use Rattle.std.proofs.lemmas.Iterator.{YieldsList-from_range}
use Rattle.std.proofs.lemmas.Iterator.Consumers.{fold_from_yields_List}
use Rattle.rows.specs.Bytes.{u8str, u16str, u32str}
use Rattle.lmots.proofs.Chains.{chain_folded}
use Rattle.lmots.proofs.single.walk.Goals as goal

pub returns : goal.returns
returns g c =
    let a = c.args in
    fold_from_yields_List _ (λ y j. g.H.Hash.hashed (a.id.bytes ++ u32str a.chain.q ++ u16str a.chain.i ++ u8str j ++ y)) _ _ c.fold.ensures.ran
    (YieldsList-from_range a.from a.to (a.to - a.from) refl refl) (λ y j b q k. search rules)
    ∙ chain_folded g.H.Hash.hashed a.id.bytes a.chain.q a.chain.i a.x.now a.from (a.to - a.from)
