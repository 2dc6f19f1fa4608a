use Rattle.std.proofs.Common.{[], ◌++◌, ap, ◌∙◌}
use Rattle.std.proofs.lemmas.List.{get_or-replicate}
use Rattle.rows.specs.Bytes.{u8str, u16str, u32str}
use Rattle.lmots.specs.LmOts.{start}
use Rattle.lmots.specs.Lanes.{chain_at}
use Rattle.lmots.proofs.lanes.Lanes.starts.Goals as goal

pub returns : goal.returns
unfolding start
returns g c l h =
    let s = c.args.self.now in
    c.step.ensures l h
    ∙ ap (λ t. g.H.Hash.hashed (s.id.bytes ++ u32str (chain_at l s.chains).q ++ u16str (chain_at l s.chains).i ++ u8str 0xff ++ t))
    (get_or-replicate 8 l c.bytes.result [] h ∙ c.bytes.ensures)
