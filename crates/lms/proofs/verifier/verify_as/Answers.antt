use Rattle.std.proofs.Common.{◌≡◌, ℕ, ◌+◌, ◌*◌, ◌^◌, ◌<◌, ◌&&◌, eqb, List, Decides, sym, ap, ◌∙◌, subst, subst₂, arith}
use Rattle.std.proofs.lemmas.Slice.Eq.{bytes_eq-Decides}
use Rattle.rows.specs.Bytes.{str_to_u32, part, row_at}
use Rattle.sizes.specs.Sizes.{levels, bits}
use Rattle.lmots.specs.LmOts.{p}
use Rattle.lms.specs.Lms.{candidate_root}
use Rattle.lms.proofs.Checks.{wrong_length, wrong_codes, wrong_number, last_test}
use Rattle.lms.proofs.verifier.verify_as.Goals as goal

-- the two tests of codes, with the tree code at the place that p tells
codes : (root s : List ℕ) (w n : ℕ) → n ≡ p w →
    (eqb (str_to_u32 (part 4 4 s)) (str_to_u32 (part 4 4 root)) && eqb (str_to_u32 (part (40 + 32 * n) 4 s)) (str_to_u32 (part 0 4 root)))
    ≡ (eqb (str_to_u32 (part 4 4 s)) (str_to_u32 (part 4 4 root)) && eqb (str_to_u32 (part (40 + 32 * p w) 4 s)) (str_to_u32 (part 0 4 root)))
codes root s w n e = ap (λ k. eqb (str_to_u32 (part 4 4 s)) (str_to_u32 (part 4 4 root)) && eqb (str_to_u32 (part (40 + 32 * k) 4 s)) (str_to_u32 (part 0 4 root))) e

pub returns-then-sig-signature_length : goal.returns-then-sig-signature_length
returns-then-sig-signature_length g c =
    let a = c.args in
    wrong_length g.H.Hash.hashed a.root.now a.message.now a.sig.now (levels a.height) (bits a.width) (λ e. c.if-sig-signature_length.true (omega arith))

pub returns-then-not-codes_agree : goal.returns-then-not-codes_agree
returns-then-not-codes_agree g c =
    let a = c.args in
    wrong_codes g.H.Hash.hashed a.root.now a.message.now a.sig.now (levels a.height) (bits a.width) (omega arith)
    (sym (codes a.root.now a.sig.now (bits a.width) c.chain_count.result c.chain_count.ensures.value) ∙ sym c.codes_agree.ensures ∙ c.if-not-codes_agree.true)

pub returns-in_default : goal.returns-in_default
returns-in_default g c =
    let a = c.args in
    wrong_number g.H.Hash.hashed a.root.now a.message.now a.sig.now (levels a.height) (bits a.width) (omega arith)
    (sym (codes a.root.now a.sig.now (bits a.width) c.chain_count.result c.chain_count.ensures.value) ∙ sym c.codes_agree.ensures ∙ c.if-not-codes_agree.false)
    c.in_default.ensures

pub returns : goal.returns
returns g c =
    let a = c.args in
    let s = a.sig.now in
    let h = levels a.height in
    let w = bits a.width in
    let q = c.in-Some.ensures in
    last_test g.H.Hash.hashed a.root.now a.message.now s h w (omega arith)
    (sym (codes a.root.now s w c.chain_count.result c.chain_count.ensures.value) ∙ sym c.codes_agree.ensures ∙ c.if-not-codes_agree.false)
    (subst (λ n. n < 2 ^ h) q.0 q.1)
    c.eq.result
    (subst₂ (λ x y. Decides c.eq.result (x ≡ y))
    (c.row_at.ensures.inside (omega arith))
    (c.candidate_root.ensures
    ∙ (λ j. candidate_root g.H.Hash.hashed (c.identifier_of.ensures j) h w (q.0 j) (part 8 32 s) a.message.now
    (λ i. row_at i (part 40 (32 * p w) s)) (λ k. row_at k (part (44 + 32 * p w) (32 * h) s))))
    (subst (λ r. Decides r (c.row_at.result ≡ c.candidate_root.result)) (sym c.eq.ensures) (bytes_eq-Decides c.row_at.result c.candidate_root.result)))
