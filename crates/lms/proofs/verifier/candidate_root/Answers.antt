use Rattle.std.proofs.Common.{◌≡◌, ℕ, ◌+◌, ◌-◌, ◌*◌, ◌/◌, ◌^◌, ◌<◌, [], length, get_or, ap, ◌∙◌, arith}
use Rattle.rows.specs.Bytes.{part, row_at}
use Rattle.rows.proofs.Rows.{length_part, row_of_chunks}
use Rattle.sizes.specs.Sizes.{levels, bits}
use Rattle.lmots.specs.LmOts.{p, digest, candidate_key}
use Rattle.lms.specs.Lms.{climbed, leaf_node}
use Rattle.lms.proofs.Trees.{climbed_same}
use Rattle.lms.proofs.verifier.candidate_root.Goals as goal

pub returns : goal.returns
returns g c =
    let a = c.args in
    let H = g.H.Hash.hashed in
    let I = a.id.bytes in
    let s = a.sig.now in
    let h = levels a.height in
    let w = bits a.width in
    let n : ℕ = 32 * p w in
    let end : ℕ = 40 + 32 * c.chain_count.result in
    let e : c.chain_count.result ≡ p w = c.chain_count.ensures.value in
    let m : end - 40 ≡ n = omega arith in
    let b : end + 4 ≡ 44 + n = omega arith in
    let l : length s - (end + 4) ≡ 32 * h = omega arith in
    let C = c.row_at.ensures.inside (omega arith) in
    let Q : c.digest_of-digest.result ≡ digest H I a.q (part 8 32 s) a.message.now = c.digest_of-digest.ensures.value ∙ ap (λ t. digest H I a.q t a.message.now) C in
    let r : c.keys.result + a.q ≡ 2 ^ h + a.q = ap (λ k. k + a.q) c.keys.ensures in
    let key : c.unwrap-key.result ≡ candidate_key H I w a.q (digest H I a.q (part 8 32 s) a.message.now) (λ i. row_at i (part 40 n s)) =
    (rw c.unwrap-key.ensures at c.candidate_key.ensures).value ∙ (λ j. candidate_key H I w a.q (Q j) (λ i. row_at i (part 40 (m j) s))) in
    let t = part (end + 4) (length s - (end + 4)) s in
    let lt : length t ≡ 32 * h = length_part s (end + 4) (length s - (end + 4)) (omega arith) ∙ l in
    let lc : length c.as_chunks.result.0.now ≡ h = c.as_chunks.ensures.front_len ∙ omega arith in
    let path : (k : ℕ) → k < h → get_or c.as_chunks.result.0.now k [] ≡ row_at k t =
    λ k o. ap (λ x. get_or x k []) c.as_chunks.ensures.front ∙ row_of_chunks t (length t / 32) k (omega arith) in
    c.climb.ensures
    ∙ ap (climbed H I (λ k. get_or c.as_chunks.result.0.now k []) (c.keys.result + a.q) c.leaf.result) lc
    ∙ climbed_same H I (λ k. get_or c.as_chunks.result.0.now k []) (λ k. row_at k t) (c.keys.result + a.q) c.leaf.result h path
    ∙ (λ j. climbed H I (λ k. row_at k (part (b j) (l j) s)) (r j) ((c.leaf.ensures ∙ (λ i. leaf_node H I (r i) (key i))) j) h)
