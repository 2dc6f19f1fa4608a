use Rattle.std.proofs.Common.{◌≡◌, ℕ, ◌-◌, ◌<◌, ◌≤◌, List, length, take, drop, Option, Some, None, Bor, inl, inr, ap, ◌∙◌, arith, length-drop}
use Rattle.std.specs.Array.{IsFirstChunk}
use Rattle.std.specs.Option.{MatchOption, option_copied, unwrap_or}
use Rattle.std.proofs.lemmas.List.{take_all}
use Rattle.rows.proofs.bytes.row_at.Goals as goal

-- what `get` finds, if it does not miss
found : {N : Type 0} {P : Bor (List ℕ) → Type 0} (t : List ℕ) (r : Option (Bor (List ℕ))) (u d : Bor (List ℕ)) →
    MatchOption r N P → (N → ⊥) → ((x : Bor (List ℕ)) → P x → x.now ≡ t) → u ≡ unwrap_or r d → u.now ≡ t
found t None u d g miss f e = absurd (miss g)
found t (Some x) u d g miss f e = ap (λ b. b.now) e ∙ f x g

row : (r : Option (Bor (List ℕ))) (q : Option (List ℕ)) (xs v z : List ℕ) → MatchOption r (length xs < 32) (λ y. IsFirstChunk xs y.now 32) →
    32 ≤ length xs → q ≡ option_copied r → v ≡ unwrap_or q z → v ≡ take 32 xs
row None q xs v z m l k e = absurd (omega arith)
row (Some y) q xs v z m l k e = e ∙ ap (λ o. unwrap_or o z) k ∙ m.same

pub returns-clause-inside : goal.returns-clause-inside
returns-clause-inside c h =
    let s = c.args.bytes.now in
    let at = c.args.at in
    let d = length-drop at s in
    let e : c.unwrap_or.result.now ≡ drop at s =
    found _ c.get.result _ _ c.get.ensures.lookup.0 (λ n. elim n [ inl l ↦ omega arith | inr l ↦ omega arith ]) (λ x f. f.2 ∙ take_all (length s - at) (drop at s) (omega arith)) c.unwrap_or.ensures in
    row c.first_chunk.result _ _ _ _ c.first_chunk.ensures.cases (omega (arith, ap length e)) c.copied.ensures c.unwrap_or-2.ensures
    ∙ ap (take 32) e
