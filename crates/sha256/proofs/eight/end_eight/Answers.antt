use Rattle.std.proofs.Common.{◌≡◌, [], get_or, ap, ◌∙◌, rules}
use Rattle.arrays.proofs.Made.{made}
use Rattle.simd_lanes.specs.Lane.{lane}
use Rattle.sha256_block.specs.Fips180.{compressed}
use Rattle.sha256.specs.Fips180.{bytes_of}
use Rattle.sha256.proofs.eight.end_eight.Goals as goal

pub returns : goal.returns
returns c i h =
    made _ 8 (λ k v. v ≡ bytes_of (lane k c.rows-rows.result)) _ (λ k r q l called. search (rules, called.met)) c.from_fn.result c.from_fn.ensures.items i [] h
    ∙ ap bytes_of
    (ap (lane i) c.rows-rows.ensures
    ∙ c.compress_eight.ensures i h
    ∙ ap (λ u. compressed u (get_or c.args.blocks.now i [])) (c.spread-hash.ensures i h))
