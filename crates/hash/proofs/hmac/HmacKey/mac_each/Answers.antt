use Rattle.std.proofs.Common.{◌≡◌, ℕ, ◌<◌, [], ◌++◌, length, get_or, take, replicate, ap, ◌∙◌, rules}
use Rattle.std.proofs.lemmas.List.{take_at}
use Rattle.arrays.proofs.Made.{mapped}
use Rattle.hash.proofs.hmac.HmacKey.mac_each.Goals as goal

pub returns : goal.returns
returns g c =
    let m = g.met.H.Hash in
    let ds = c.each-digests.result in
    let wide = mapped _ (λ x r. (r ≡ x ++ replicate 32 0) × (length x ≡ 32)) _ (λ x r q called. search (rules, called.met)) ds c.map.result 8 c.map.ensures.items in
    let digest : (i : ℕ) → i < 8 → take 32 (get_or c.map.result i []) ≡ get_or c.each-digests.result i [] =
    λ i l. ap (take 32) (wide i [] [] l).0 ∙ take_at (get_or ds i []) (replicate 32 0) 32 (wide i [] [] l).1 in
    record {
      states = λ i l. c.each.ensures i l ∙ simp (digest i l, c.each-digests.ensures i l);
      keyed = λ key h i l. c.each.ensures i l ∙ simp (digest i l, c.each-digests.ensures i l, h.0, h.1, m.joined, m.whole);
    }
