use Rattle.std.proofs.Common.{◌≡◌, [], length, get_or, sym, ◌∙◌, arith, rules}
use Rattle.arrays.proofs.Made.{made}
use Rattle.simd_lanes.specs.Lane.{lane}
use Rattle.simd_lanes.proofs.Ops.{get_or_lane}
use Rattle.shake256.proofs.Lanes.{squeezed_same}
use Rattle.shake256.proofs.pairs.squeeze_lane.Goals as goal

pub returns : goal.returns
returns c =
    let i = c.args.i in
    let vs = c.args.lanes.now in
    let l : length c.args.lanes.now ≡ 25 = c.told-lanes in
    let each = made _ 4 (λ k r. r ≡ get_or (get_or vs k []) i 0) _ (λ k r q l called. search rules) c.from_fn-front.result c.from_fn-front.ensures.items in
    c.squeeze.ensures ∙ squeezed_same c.from_fn-front.result (lane i vs) (λ k h. each k 0 h ∙ sym (get_or_lane i vs k (omega arith)))
