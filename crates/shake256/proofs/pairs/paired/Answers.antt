use Rattle.std.proofs.Common.{◌≡◌, [], ◌∷◌, get_or, ap, rules}
use Rattle.arrays.proofs.Made.{made}
use Rattle.shake256.proofs.Lanes.{lane_is}
use Rattle.shake256.proofs.pairs.paired.Goals as goal

pub returns : goal.returns
returns c =
    let p = c.args.p.now in
    let q = c.args.q.now in
    let each = made _ 25 (λ k r. r ≡ get_or p k 0 ∷ get_or q k 0 ∷ []) _ (λ k r q l called. search rules) c.from_fn.result c.from_fn.ensures.items in
    record {
      left = lane_is 0 c.from_fn.result p c.from_fn.ensures.items.long (search rules) (λ k h. ap (λ v. get_or v 0 0) (each k [] h));
      right = lane_is 1 c.from_fn.result q c.from_fn.ensures.items.long (search rules) (λ k h. ap (λ v. get_or v 1 0) (each k [] h));
    }
