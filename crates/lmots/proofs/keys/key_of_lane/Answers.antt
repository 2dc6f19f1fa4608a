use Rattle.std.proofs.Common.{◌≡◌, ℕ, [], ◌++◌, length, get_or, sym, refl, ap, ◌∙◌, arith}
use Rattle.rows.specs.Bytes.{u16str, u32str, rows}
use Rattle.lmots.specs.LmOts.{one_time_key}
use Rattle.lmots.proofs.Feeding.{fed_none, fed_more}
use Rattle.lmots.proofs.keys.key_of_lane.Goals as goal

pub loop-rows-init : goal.loop-rows-init
loop-rows-init g c = fed_none g.H.Hash.first g.H.Hash.fed g.met.H.Hash.joined _ _ c.opened-key.ensures

pub loop-rows-preserved : goal.loop-rows-preserved
loop-rows-preserved g c =
    let a = c.args in
    fed_more g.H.Hash.first g.H.Hash.fed g.met.H.Hash.joined (a.id.bytes ++ u32str a.q ++ u16str 0x8080)
    (λ i. get_or (get_or a.ends.now i []) a.l []) c.loop-rows.rows-index c.feed.ensures c.loop-rows.invariant refl

pub returns : goal.returns
unfolding one_time_key
returns g c =
    let a = c.args in
    let k = a.id.bytes ++ u32str a.q ++ u16str 0x8080 in
    let f = λ (i : ℕ). get_or (get_or a.ends.now i []) a.l [] in
    let e : c.loop-rows.rows-index ≡ length a.ends.now = omega arith in
    c.close.ensures ∙ ap g.H.Hash.closed c.loop-rows.invariant
    ∙ sym (g.met.H.Hash.whole (k ++ rows c.loop-rows.rows-index f)) ∙ ap (λ n. g.H.Hash.hashed (k ++ rows n f)) e
