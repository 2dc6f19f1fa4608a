use Rattle.std.proofs.Common.{◌≡◌, ℕ, ◌*◌, get_or, length, ◌∙◌, arith, below_more}
use native.Mathlib.Nat.{sub-zero}
use Rattle.rows.specs.Bytes.{row_at}
use Rattle.rows.proofs.Rows.{rows_whole}
use Rattle.sizes.specs.Sizes.{bits}
use Rattle.lmots.specs.LmOts.{X, chain, digit, p}
use Rattle.lmots.proofs.selected.write_selected.Goals as goal

pub loop-i-preserved : goal.loop-i-preserved
loop-i-preserved g c =
    let a = c.args in
    let w = bits a.width in
    let D = a.digest.now in
    let i = c.loop-i.i in
    let f = λ (k : ℕ). X g.H.Hash.hashed a.origin.id.bytes a.origin.seed.bytes a.q k (digit w D k) in
    let d : get_or c.selection-positions.result i 0 ≡ digit w D i = c.selection-positions.ensures.value i (omega arith) in
    let y : c.walk-y.result ≡ f i =
    c.walk-y.ensures ∙ (λ j. chain g.H.Hash.hashed a.origin.id.bytes a.q i 0 (sub-zero (d j) j) (c.chain_start-x.ensures j)) in
    below_more (λ k. row_at k c.put_row.new.out ≡ f k) i (λ k h. c.put_row.ensures.old k (λ e. omega arith) ∙ c.loop-i.invariant k h) (c.put_row.ensures.new (omega arith) ∙ y)

pub returns-clause-written : goal.returns-clause-written
returns-clause-written g c =
    let a = c.args in
    let w = bits a.width in
    let l : length a.out.now ≡ 32 * p w = omega arith in
    rows_whole c.loop-i.out (p w) (λ k. X g.H.Hash.hashed a.origin.id.bytes a.origin.seed.bytes a.q k (digit w a.digest.now k)) (c.loop-i.auto.out ∙ l)
    (λ k h. c.loop-i.invariant k (omega arith))
