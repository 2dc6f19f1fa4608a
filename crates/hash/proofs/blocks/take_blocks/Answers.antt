use Rattle.std.proofs.Common.{◌≡◌, ◌*◌, ◌/◌, ◌<◌, ◌≤◌, [], length, get_or, sym, ap, ◌∙◌, arith}
use Rattle.std.proofs.lemmas.List.{get_or_read}
use Rattle.hash.specs.Chaining.{link, over, chained}
use Rattle.hash.proofs.Chaining.{chunk_at, over_none, over_more, chained_blocks, chained_short}
use Rattle.hash.proofs.blocks.take_blocks.Goals as goal

pub loop-block-init : goal.loop-block-init
loop-block-init g c = sym (over_none g.row.N g.C.Chaining.after _ _)

pub loop-block-preserved : goal.loop-block-preserved
loop-block-preserved g c =
    let F = g.C.Chaining.after in
    let n = g.row.N in
    let m = c.args.bytes.now in
    let i = c.loop-block.block-index in
    let v = g.C.Chaining.value c.args.chain.now in
    let inside : c.loop-block.block-index < length c.as_chunks.result.0.now = c.loop-block-test.true in
    let block = get_or_read _ i c.block-item.result inside c.block-item.is [] ∙ ap (λ u. get_or u i []) c.as_chunks.ensures.front ∙ chunk_at n (length m / n) i m [] (omega (arith, c.as_chunks.ensures.front_len)) in
    c.take_in.ensures
    ∙ ap (λ u. F u c.block-item.result) c.loop-block.invariant
    ∙ ap (F (over n F i v m)) block
    ∙ sym (over_more n F i v m)

pub returns-clause-chain : goal.returns-clause-chain
returns-clause-chain g c =
    let F = g.C.Chaining.after in
    let n = g.row.N in
    let m = c.args.bytes.now in
    let k = length m / n in
    let v = g.C.Chaining.value in
    let rest = c.as_chunks.result.1.now in
    let some = g.met.C.Chaining.sized in
    let all : c.loop-block.block-index ≡ length c.args.bytes.now / g.row.N = omega (arith, c.as_chunks.ensures.front_len) in
    let whole : length c.args.bytes.now / g.row.N * g.row.N ≤ length c.args.bytes.now = omega arith in
    let short : length c.as_chunks.result.1.now < g.row.N = omega (arith, c.as_chunks.ensures.back_len) in
    ap (λ u. link u rest) (c.loop-block.invariant ∙ ap (λ i. over n F i (v c.args.chain.now) m) all)
    ∙ sym (chained_short n F rest (over n F k (v c.args.chain.now) m) [] (omega arith))
    ∙ ap (chained n F (link (over n F k (v c.args.chain.now) m) [])) c.as_chunks.ensures.back
    ∙ sym (chained_blocks n F k m (v c.args.chain.now) some.0 whole)
