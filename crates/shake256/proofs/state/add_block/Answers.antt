use Rattle.std.proofs.Common.{◌/◌, ◌<◌, ◌≢◌, [], length, get_or, ap, ◌∙◌, arith, get_or-set_other, get_or-set_same, rules, below_more}
use lib.Bits.{bit_xor}
use Rattle.hash.proofs.Chaining.{chunk_at}
use Rattle.shake256.specs.Fips202.{word}
use Rattle.shake256.proofs.Adding.{word_at, all_added}
use Rattle.shake256.proofs.state.add_block.Goals as goal

pub loop-t-preserved : goal.loop-t-preserved
loop-t-preserved c =
    let t = c.loop-t.t in
    let b = c.args.block.now in
    let lb = c.told-block in
    let some : c.loop-t.t < length c.args.block.now / 8 = omega (arith, c.as_chunks.ensures.front_len) in
    let lt : c.loop-t.t < length c.loop-t.lanes = omega arith in
    let chunk = ap (λ u. get_or u t []) c.as_chunks.ensures.front ∙ chunk_at 8 (length b / 8) t b [] some in
    let here = c.from_le_bytes.ensures ∙ ap (λ u. word u 0) chunk ∙ word_at b t in (
      search rules,
      below_more _ _
          (λ k h. let ne : k ≢ c.loop-t.t = omega arith in rw get_or-set_other (c.loop-t.invariant.1 k h))
          (rw get_or-set_same (ap (λ u. bit_xor u c.from_le_bytes.result) (c.loop-t.invariant.2 t (omega arith)) ∙ ap (bit_xor (get_or c.args.lanes.now t 0)) here)),
      λ k h. let ne : k ≢ c.loop-t.t = omega arith in rw get_or-set_other (c.loop-t.invariant.2 k (omega arith)),
    )

pub returns : goal.returns
returns c =
    let lb = c.told-block in
    all_added c.loop-t.lanes c.args.lanes.now c.args.block.now (search rules) lb
    (λ k h. c.loop-t.invariant.1 k (omega (arith, c.as_chunks.ensures.front_len))) (λ k h. c.loop-t.invariant.2 k (omega (arith, c.as_chunks.ensures.front_len)))
