use Rattle.std.proofs.Common.{◌≡◌, ℕ, ◌-◌, ◌/◌, ◌^◌, [], ◌++◌, length, get_or, sym, ap, ◌∙◌, arith}
use Rattle.rows.specs.Bytes.{u16str, u32str, rows, row_at}
use Rattle.rows.proofs.Rows.{row_of_chunks}
use Rattle.sizes.specs.Sizes.{bits}
use Rattle.lmots.specs.LmOts.{p, chain, digit, one_time_key}
use Rattle.lmots.proofs.Feeding.{fed_none, fed_more}
use Rattle.lmots.proofs.keys.candidate_key.Goals as goal

pub loop-i-init : goal.loop-i-init
loop-i-init g c = fed_none g.H.Hash.first g.H.Hash.fed g.met.H.Hash.joined _ _ c.opened-key.ensures

pub loop-i-preserved : goal.loop-i-preserved
loop-i-preserved g c =
    let a = c.args in
    let w = bits a.width in
    let D = a.digest.now in
    let i = c.loop-i.i in
    let f = λ (i : ℕ). chain g.H.Hash.hashed a.id.bytes a.q i (digit w D i) (2 ^ w - 1 - digit w D i) (row_at i a.rows.now) in
    let d : get_or c.selection-positions.result i 0 ≡ digit w D i = c.selection-positions.ensures.value i (omega arith) in
    let y : get_or c.as_chunks.result.0.now i [] ≡ row_at i a.rows.now = ap (λ s. get_or s i []) c.as_chunks.ensures.front ∙ row_of_chunks a.rows.now (length a.rows.now / 32) i (omega arith) in
    let z : c.walk-end.result ≡ f i =
    c.walk-end.ensures
    ∙ (λ j. chain g.H.Hash.hashed a.id.bytes a.q i (d j) (c.last_position-top.ensures j - d j) (y j)) in
    fed_more g.H.Hash.first g.H.Hash.fed g.met.H.Hash.joined (a.id.bytes ++ u32str a.q ++ u16str 0x8080) f i c.feed.ensures c.loop-i.invariant z

pub returns-clause-value : goal.returns-clause-value
unfolding one_time_key
returns-clause-value g c =
    let a = c.args in
    let w = bits a.width in
    let D = a.digest.now in
    let k = a.id.bytes ++ u32str a.q ++ u16str 0x8080 in
    let f = λ (i : ℕ). chain g.H.Hash.hashed a.id.bytes a.q i (digit w D i) (2 ^ w - 1 - digit w D i) (row_at i a.rows.now) in
    let e : c.loop-i.i ≡ p w = omega arith in
    c.close.ensures ∙ ap g.H.Hash.closed c.loop-i.invariant ∙ sym (g.met.H.Hash.whole (k ++ rows c.loop-i.i f)) ∙ ap (λ n. g.H.Hash.hashed (k ++ rows n f)) e
