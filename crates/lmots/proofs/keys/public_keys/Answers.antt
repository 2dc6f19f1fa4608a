use Rattle.std.proofs.Common.{◌≡◌, ℕ, ◌+◌, ◌-◌, ◌%◌, ◌^◌, ◌≤◌, [], length, get_or, take, ap, ◌∙◌, arith, rules}
use Rattle.std.proofs.lemmas.List.{get_or-take, length-take-le}
use Rattle.rows.specs.Bytes.{rows}
use Rattle.rows.proofs.Rows.{rows_same}
use Rattle.sizes.specs.Sizes.{bits}
use Rattle.lmots.specs.LmOts.{X, p, one_time_key}
use Rattle.rows.proofs.Arrays.{made}
use Rattle.lmots.proofs.keys.public_keys.Goals as goal

pub returns : goal.returns
returns g c k h =
    let a = c.args in
    let w = bits a.width in
    let q = (a.first + k) % 2 ^ 32 in
    let all = c.chain_ends-all.result in
    let n = c.chain_count.result in
    let ends = take n all in
    let f = λ (i : ℕ). get_or (get_or ends i []) k [] in
    let few : n ≤ length all = search rules in
    let long : length ends ≡ p w = length-take-le n all few ∙ c.chain_count.ensures.value in
    made _ 8 (λ k v. v ≡ one_time_key g.H.Hash.hashed a.origin.id.bytes ((a.first + k) % 2 ^ 32) (rows (length ends) (λ i. get_or (get_or ends i []) k []))) _
    (λ k r q b called. search rules) c.from_fn.result c.from_fn.ensures.items k [] h
    ∙ ap (one_time_key g.H.Hash.hashed a.origin.id.bytes q)
    (ap (λ n. rows n f) long
    ∙ rows_same (p w) f (λ i. X g.H.Hash.hashed a.origin.id.bytes a.origin.seed.bytes q i (2 ^ w - 1))
    (λ i o. ap (λ r. get_or r k []) (get_or-take n all i [] (omega (arith, c.chain_count.ensures.value))) ∙ c.chain_ends-all.ensures i k o h))
