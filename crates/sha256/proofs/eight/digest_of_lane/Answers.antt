use Rattle.std.proofs.Common.{◌≡◌, ℕ, get_or, [], sym, ap, ◌∙◌, arith, rules}
use Rattle.std.proofs.lemmas.List.FromFn.{fill_by_all}
use Rattle.arrays.proofs.Made.{made}
use Rattle.simd_lanes.specs.Lane.{lane}
use Rattle.simd_lanes.proofs.Ops.{length_lane, get_or_lane}
use Rattle.sha256.specs.Fips180.{bytes_of}
use Rattle.sha256.proofs.eight.digest_of_lane.Goals as goal

pub returns : goal.returns
returns c =
    let hs = c.args.hash.now in
    let i = c.args.i in
    let f : ℕ → ℕ = λ k. get_or (get_or hs k []) i 0 in
    let each = made _ 8 (λ k r. r ≡ get_or (get_or hs k []) i 0) _ (λ k r q l called. search (rules, called.met)) c.from_fn.result c.from_fn.ensures.items in
    c.digest.ensures
    ∙ ap bytes_of
    (fill_by_all f c.from_fn.result 8 0 c.from_fn.ensures.items.long (λ k h. each k 0 h)
    ∙ sym (fill_by_all f (lane i hs) 8 0 (length_lane i hs ∙ c.told-hash) (λ k h. get_or_lane i hs k (omega arith))))
