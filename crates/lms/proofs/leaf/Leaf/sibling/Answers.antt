use Rattle.std.proofs.Common.{◌≡◌, ℕ, ◌+◌, ◌/◌, ◌^◌, ◌<◌, [], get_or, vec_items, vec_len, ap, ◌∙◌, arith}
use lib.Bits.{bit_xor}
use Rattle.std.proofs.lemmas.List.{get_or_read_under}
use Rattle.sizes.specs.Sizes.{levels, bits}
use Rattle.lms.specs.Grown.{grown_path}
use Rattle.lms.proofs.Trees.{sibling_inside, kept_is_path}
use Rattle.lms.proofs.leaf.Leaf.sibling.Goals as goal

at : (keys h q k : ℕ) → keys ≡ 2 ^ h → bit_xor ((keys + q) / 2 ^ k) 1 ≡ bit_xor ((2 ^ h + q) / 2 ^ k) 1
at keys h q k e = ap (λ n. bit_xor ((n + q) / 2 ^ k) 1) e

pub returns : goal.returns
returns g c =
    let t = c.tree.inside in
    let h = levels t.height in
    let q = c.args.self.now.key in
    let k = c.args.level in
    let tall = ap (λ t. levels t.height) c.tree.view_is in
    let small : q < 2 ^ h = rw tall c.args.self.now.there in
    let low : k < h = rw tall c.requires in
    let n = bit_xor ((c.keys.result + q) / 2 ^ k) 1 in
    let e = at c.keys.result h q k c.keys.ensures in
    let i = sibling_inside h q k small low in
    let l : n < vec_len t.nodes = omega (arith, t.nodes.ok.0, c.tree.invariant.room) in
    get_or_read_under (vec_items t.nodes) n (vec_len t.nodes) c.index.result.now [] c.index.ensures l t.nodes.ok.0
    ∙ ap (λ k. get_or (vec_items t.nodes) k []) e
    ∙ kept_is_path g.H.Hash.hashed t.origin.id.bytes t.origin.seed.bytes h (bits t.width) (vec_items t.nodes) c.tree.invariant.filled q k small low
    ∙ ap (λ t. grown_path g.H.Hash.hashed t q k) c.tree.view_is
