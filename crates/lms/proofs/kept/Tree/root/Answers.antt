use Rattle.std.proofs.Common.{◌≡◌, ◌<◌, [], ◌++◌, length, get_or, vec_items, vec_len, refl, ap, ◌∙◌, arith, rules}
use Rattle.std.proofs.lemmas.Nat.{pow_pos}
use Rattle.std.proofs.lemmas.List.{get_or_read_under}
use Rattle.rows.specs.Bytes.{u32str}
use Rattle.sizes.specs.Sizes.{levels, bits}
use Rattle.lms.specs.Grown.{grown_root}
use Rattle.lms.specs.Lms.{root, root_layout}
use Rattle.lms.proofs.Joints.{written_key}
use Rattle.lms.proofs.Trees.{top_is_root}
use Rattle.lms.proofs.kept.Tree.root.Goals as goal

pub returns : goal.returns
unfolding root
returns g c =
    let t = c.self.inside in
    let h = levels t.height in
    let w = bits t.width in
    let I = t.origin.id.bytes in
    let xs = vec_items t.nodes in
    let pos = pow_pos h in
    let l : 1 < vec_len t.nodes = omega (arith, t.nodes.ok.0, c.self.invariant.room) in
    let n : c.index.result.now ≡ get_or xs 1 [] = get_or_read_under xs 1 (vec_len t.nodes) c.index.result.now [] c.index.ensures l t.nodes.ok.0 in
    let ln : length c.index.result.now ≡ 32 = search rules in
    let lI : length c.bytes.result ≡ 16 = search rules in
    let l₁ : length c.put.new.out ≡ 56 = search rules in
    let l₂ : length c.put-2.new.out ≡ 56 = search rules in
    let l₃ : length c.put-3.new.out ≡ 56 = search rules in
    let l₄ : length c.put-4.new.out ≡ 56 = search rules in
    let value : c.put-4.new.out ≡ root_layout g.H.Hash.ots g.H.Hash.tree h w I (get_or xs 1 []) =
    written_key _ c.put.new.out c.put-2.new.out c.put-3.new.out c.put-4.new.out
    c.to_be_bytes.result c.to_be_bytes-2.result c.bytes.result c.index.result.now
    (ap length c.to_be_bytes.ensures) (ap length c.to_be_bytes-2.ensures) lI ln refl l₁ l₂ l₃ l₄
    c.put.ensures.inside c.put-2.ensures.inside c.put-3.ensures.inside c.put-4.ensures.inside
    ∙ (λ j. (c.to_be_bytes.ensures ∙ ap u32str c.tree_code.ensures) j ++ (c.to_be_bytes-2.ensures ∙ ap u32str c.ots_code.ensures) j
    ++ c.bytes.ensures j ++ n j) in
    value
    ∙ ap (root_layout g.H.Hash.ots g.H.Hash.tree h w I) (top_is_root g.H.Hash.hashed I t.origin.seed.bytes h w xs c.self.invariant.filled)
    ∙ ap (grown_root g.H.Hash.hashed g.H.Hash.ots g.H.Hash.tree) c.self.view_is
