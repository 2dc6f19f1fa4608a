use Rattle.std.proofs.Common.{◌≡◌, ◌*◌, ◌^◌, length, sym, ap, ◌∙◌, subst, rules}
use Rattle.std.specs.Vec.{with_items}
use Rattle.std.proofs.lemmas.List.{with_items_is}
use Rattle.sizes.specs.Sizes.{levels, bits}
use Rattle.lms.specs.Nodes.{Filled}
use Rattle.lms.proofs.kept.Tree.grow.Goals as goal

pub invariant_of-result : goal.invariant_of-result
invariant_of-result g c =
    let a = c.args in
    let v = c.in_ok-nodes.nodes in
    let leaves = c.fill_leaves.new.nodes in
    let all = c.fill_inner.new.nodes in
    let filled = Filled g.H.Hash.hashed a.origin.id.bytes a.origin.seed.bytes (levels a.height) (bits a.width) in
    let l : length leaves ≡ v.len = search rules in
    let m : length all ≡ v.len = search rules in
    let n : length all ≡ 2 ^ levels a.height * 2 = search rules in
    let lent = c.deref_mut-2.ensures.value ∙ with_items_is v leaves l in
    let kept = with_items_is (with_items v leaves) all m in
    record {
      room = ap length kept ∙ n;
      filled = subst (filled 1) (sym kept) (c.fill_inner.ensures a.origin.seed.bytes (bits a.width) (subst (filled (2 ^ levels a.height)) (sym lent) c.fill_leaves.ensures));
    }
