use Rattle.std.proofs.Common.{◌≡◌, [], get_or, sym, refl, ◌∙◌, rules}
use Rattle.std.proofs.lemmas.List.FromFn.{fill_by_all}
use Rattle.arrays.proofs.Made.{made}
use Rattle.sha256.proofs.eight.rows.Goals as goal

pub returns : goal.returns
returns c =
    let hs = c.args.hash.now in
    let each = made _ 8 (λ k r. r ≡ get_or hs k []) _ (λ k r q l called. search rules) c.from_fn.result c.from_fn.ensures.items in
    fill_by_all (λ k. get_or hs k []) c.from_fn.result 8 [] c.from_fn.ensures.items.long (λ k h. each k [] h)
    ∙ sym (fill_by_all (λ k. get_or hs k []) hs 8 [] c.told-hash (λ k h. refl))
