use Rattle.std.proofs.Common.{◌+◌, ◌-◌, ◌*◌, ◌%◌, take, replicate, bit_xor, ap, ◌∙◌, arith, rules}
use Rattle.arrays.proofs.Made.{mapped_all}
use Rattle.hash.proofs.Masks.{begun, begun_none, begun_more, begun_all}
use Rattle.hash.proofs.hmac.took_key.Goals as goal

pub loop-init : goal.loop-init
loop-init g c =
    let x = c.args.mask in
    let masked = mapped_all _ (λ b. bit_xor b x) _ (λ b r q called. search (rules, called.met)) 0 c.args.key.now c.map.result 32 (search rules) c.map.ensures.items in
    c.feed.ensures
    ∙ ap (λ s. g.H.Hash.fed s c.map.result) c.start-hash.ensures
    ∙ ap (g.H.Hash.fed g.H.Hash.first) (masked ∙ begun_none x c.args.key.now 0 (omega arith))

pub loop-preserved : goal.loop-preserved
loop-preserved g c =
    let t = c.loop.counter in
    let x = c.args.mask in
    c.feed-in-loop.ensures
    ∙ ap (λ s. g.H.Hash.fed s (replicate 32 x)) c.loop.invariant
    ∙ g.met.H.Hash.joined g.H.Hash.first (begun x c.args.key.now (32 * t)) (replicate 32 x)
    ∙ ap (g.H.Hash.fed g.H.Hash.first) (begun_more x c.args.key.now (32 * t) (32 * (t + 1)) 32 (omega arith) (omega arith))

pub returns : goal.returns
returns g c =
    let n = g.H.Hash.block - 32 in
    let t = c.loop.counter in
    let x = c.args.mask in
    let key = c.args.key.now in
    let k = (c.block_len-left.result - 32) % 32 in
    c.feed-2.ensures
    ∙ ap (λ s. g.H.Hash.fed s (take k (replicate 32 x))) c.loop.invariant
    ∙ g.met.H.Hash.joined g.H.Hash.first (begun x key (32 * t)) (take k (replicate 32 x))
    ∙ ap (g.H.Hash.fed g.H.Hash.first) (begun_more x key (32 * t) n k (omega arith) (omega arith) ∙ begun_all x g.H.Hash.block key n (omega arith))
