use Rattle.std.proofs.Common.{◌≡◌, [], get_or, replicate, sym, refl, ap, ◌∙◌, arith, rules}
use Rattle.std.proofs.lemmas.List.{get_or-replicate}
use Rattle.std.proofs.lemmas.List.FromFn.{fill_by_all}
use Rattle.arrays.proofs.Made.{made}
use Rattle.simd_lanes.specs.Lane.{lane}
use Rattle.simd_lanes.proofs.Ops.{length_lane, get_or_lane}
use Rattle.sha256.proofs.eight.spread.Goals as goal

pub returns : goal.returns
returns c i h =
    let ws = c.args.words.now in
    let vs = c.from_fn.result in
    let n = c.from_fn.ensures.items.long in
    let each = made _ 8 (λ k r. r ≡ replicate 8 (get_or ws k 0)) _ (λ k r q l called. search rules) vs c.from_fn.ensures.items in
    fill_by_all (λ k. get_or ws k 0) (lane i vs) 8 0 (length_lane i vs ∙ n)
    (λ k l. get_or_lane i vs k (omega arith) ∙ ap (λ v. get_or v i 0) (each k [] l) ∙ get_or-replicate 8 i (get_or ws k 0) 0 h)
    ∙ sym (fill_by_all (λ k. get_or ws k 0) ws 8 0 c.told-words (λ k l. refl))
