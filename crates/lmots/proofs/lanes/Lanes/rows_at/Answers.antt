use Rattle.std.proofs.Common.{◌++◌, ap, ◌∙◌}
use Rattle.rows.specs.Bytes.{u8str, u16str, u32str}
use Rattle.lmots.specs.LmOts.{start}
use Rattle.lmots.specs.Lanes.{chain_at}
use Rattle.lmots.proofs.Eight.{walk_none, walk_more}
use Rattle.lmots.proofs.lanes.Lanes.rows_at.Goals as goal

pub loop-j-init : goal.loop-j-init
loop-j-init g c l h =
    let s = c.args.self.now in
    c.starts-rows.ensures l h ∙ walk_none g.H.Hash.hashed s.id.bytes (chain_at l s.chains).q (chain_at l s.chains).i _

pub loop-j-preserved : goal.loop-j-preserved
loop-j-preserved g c l h =
    let s = c.args.self.now in
    let H = g.H.Hash.hashed in
    let q = (chain_at l s.chains).q in
    let i = (chain_at l s.chains).i in
    let j = c.loop-j.j in
    c.step-rows.ensures l h
    ∙ ap (λ t. H (s.id.bytes ++ u32str q ++ u16str i ++ u8str j ++ t)) (c.loop-j.invariant l h)
    ∙ walk_more H s.id.bytes q i (start H s.id.bytes c.args.seed.bytes q i) j
