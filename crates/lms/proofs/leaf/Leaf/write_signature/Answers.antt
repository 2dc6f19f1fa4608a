use Rattle.std.proofs.Common.{◌≡◌, ℕ, ◌+◌, ◌-◌, ◌*◌, ◌++◌, length, sym, ap, ◌∙◌, arith, rules}
use borrow.Rule.Slice.PartMut.{put_mid}
use Rattle.std.proofs.lemmas.Slice.{take-put_mid}
use Rattle.rows.specs.Bytes.{u32str, rows}
use Rattle.lmots.specs.LmOts.{X, digest, digit, p, prefix}
use Rattle.sizes.specs.Sizes.{levels, bits}
use Rattle.lms.specs.Grown.{grown_path, grown_signature, tall, wide}
use Rattle.lms.specs.Lms.{ots_code, path_of, signature_length, signature_with}
use Rattle.lms.proofs.Joints.{written_rest, put_behind}
use Rattle.lms.proofs.leaf.Leaf.write_signature.Goals as goal

pub returns : goal.returns
unfolding signature_with
returns g c =
    let a = c.args in
    let t = c.tree.inside in
    let H = g.H.Hash.hashed in
    let I = t.origin.id.bytes in
    let q = a.self.now.key in
    let h = levels t.height in
    let w = bits t.width in
    let e = c.tree.view_is in
    let room : length a.out.now ≡ signature_length h w = c.requires ∙ sym (ap (λ t. signature_length (tall t) (wide t)) e) in
    let n : ℕ = 32 * c.chain_count.result in
    let Y = rows (p w) (λ i. X H I t.origin.seed.bytes q i (digit w c.digest_of-digest.result i)) in
    let Z = rows h (path_of H I t.origin.seed.bytes h w q) in
    let C = prefix H I t.origin.seed.bytes q in
    let head = u32str q ++ u32str (ots_code g.H.Hash.ots w) in
    let o₃ = c.write_head.new.out in
    let y = c.write_selected.new.out in
    let o₄ = put_mid 40 (40 + n - 40) o₃ y in
    let o₅ = c.put.new.out in
    let z = c.write_siblings.new.out in
    let o₆ = put_mid (40 + n + 4) (length o₅ - (40 + n + 4)) o₅ z in
    let d = c.to_be_bytes.result in
    let ld : length d ≡ 4 = ap length c.to_be_bytes.ensures in
    let l₃ : length o₃ ≡ length a.out.now = search rules in
    let ly : length y ≡ n = search rules in
    let l₄ : length o₄ ≡ length a.out.now = search rules in
    let l₅ : length o₅ ≡ length a.out.now = search rules in
    let lz : length z ≡ 32 * h = search rules in
    let l₆ : length o₆ ≡ length a.out.now = search rules in
    let ey : y ≡ Y = (rw c.unwrap.ensures at c.write_selected.ensures).written in
    let Q = c.digest_of-digest.ensures.value ∙ ap (λ x. digest H I q x a.message.now) c.prefix_of-prefix.ensures in
    record {
      laid =
          written_rest n (32 * h) o₃ o₄ o₅ o₆ (head ++ c.prefix_of-prefix.result) y d z (omega arith) c.write_head.ensures
          (take-put_mid 40 (40 + n - 40) o₃ y (40 + n) (omega arith) (omega arith))
          (put_behind o₄ o₅ d (40 + n) (40 + n + 4) c.put.ensures.inside (omega arith) (omega arith))
          (take-put_mid (40 + n + 4) (length o₅ - (40 + n + 4)) o₅ z (40 + n + 4 + 32 * h) (omega arith) (omega arith))
          ∙ (λ j. head ++ c.prefix_of-prefix.ensures j ++ (ey ∙ (λ i. rows (p w) (λ k. X H I t.origin.seed.bytes q k (digit w (Q i) k)))) j
          ++ (c.to_be_bytes.ensures ∙ ap u32str c.tree_code.ensures) j ++ (c.write_siblings.ensures ∙ sym (ap (λ t. rows (tall t) (grown_path H t q)) e)) j)
          ∙ ap (λ t. grown_signature H g.H.Hash.ots g.H.Hash.tree t q a.message.now) e;
      named = ap (λ t. length t.origin.id.bytes) (sym e) ∙ c.digest_of-digest.ensures.named;
    }
