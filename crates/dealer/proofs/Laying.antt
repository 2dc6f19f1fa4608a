-- A key sheet, written part by part.
use Rattle.std.proofs.Common.{◌≡◌, ℕ, List, ◌++◌, length, take, Ok, Err, Result, sym, ap, ◌∙◌, arith, MatchResult}
use Rattle.std.proofs.lemmas.List.{take_all}

-- four parts, each written behind those before it
pub four_parts : (a b c n : ℕ) (o₁ o₂ o₃ o₄ A B C D : List ℕ) → length o₄ ≡ n → take a o₁ ≡ A → take b o₂ ≡ take a o₁ ++ B → take c o₃ ≡ take b o₂ ++ C → take n o₄ ≡ take c o₃ ++ D →
    o₄ ≡ A ++ B ++ C ++ D
four_parts a b c n o₁ o₂ o₃ o₄ A B C D l e₁ e₂ e₃ e₄ =
    sym (take_all n o₄ (omega arith)) ∙ e₄ ∙ ap (λ x. x ++ D) (e₃ ∙ ap (λ x. x ++ C) (e₂ ∙ ap (λ x. x ++ B) e₁))

-- what is written once a call is accepted
pub done : {X E : Type 0} (r : Result X E) (x : X) (P : Type 0) (Q : E → Type 0) → r ≡ Ok x → MatchResult r (λ _. P) Q → P
done (Ok y) x P Q ok c = c
done (Err f) x P Q ok c = let z : ◌≡◌ {A = ℕ} 0 1 = cc in absurd (omega arith)
