-- What `array::from_fn` and `map` make by a closure that stays as it was.
use Rattle.std.proofs.Common.{◌≡◌, ℕ, zero, suc, ◌+◌, ◌<◌, ◌≤◌, List, map, length, get_or, sym, refl, ◌∙◌, subst, inl, inr, arith}
use Rattle.std.proofs.lemmas.Bool.{cases_eq}
use Rattle.std.proofs.lemmas.List.{length-map, get_or-map, same_lists}
use Rattle.std.specs.Array.{IsFromFnResultFrom, IsFromFnResult, MapsFrom, IsMapOf}
use Rattle.std.specs.Fn.{Called}
use denote.Param.Members.{Mut}

module _ {F B : Type 0} (g : Mut F (ℕ × Unit {0}) B) (n : ℕ) (P : ℕ → B → Type 0) (f : F) (says : (i : ℕ) (r : B) (q : F) → i < n → Called g f (i, tt) r q → P i r × (q ≡ f)) where
  made_from : (ys : List B) (m i : ℕ) (p : F) → i + m ≡ n → p ≡ f → IsFromFnResultFrom g p ys i m → (k : ℕ) (d : B) → i ≤ k → k < n → P k (get_or ys k d)
  made_from ys zero i p s e h k d l u = absurd (omega arith)
  made_from ys (suc m) i p s e h k d l u =
      let now : P i h.1 × (h.0 ≡ f) = says i h.1 h.0 (omega arith) (subst (λ q. Called g q (i, tt) h.1 h.0) e h.3) in
      elim (cases_eq k i) [
        | inl o ↦ subst (λ j. P j (get_or ys j d)) (sym o) (subst (λ y. P i y) (sym (h.2.1 d)) now.0)
        | inr o ↦ made_from ys m (i + 1) h.0 (omega arith) now.1 h.4 k d (omega arith) u
      ]

  -- P holds of each index and the element there
  pub made : (ys : List B) → IsFromFnResult g f ys n → (k : ℕ) (d : B) → k < n → P k (get_or ys k d)
  made ys h k d u = made_from ys n 0 f (omega arith) refl h.each k d (omega arith) u

module _ {F A B : Type 0} (g : Mut F (A × Unit {0}) B) (P : A → B → Type 0) (f : F) (says : (x : A) (r : B) (q : F) → Called g f (x, tt) r q → P x r × (q ≡ f)) where
  mapped_from : (xs : List A) (ys : List B) (m i : ℕ) (p : F) → p ≡ f → MapsFrom g p xs ys i m → (k : ℕ) (d : A) (e : B) → i ≤ k → k < i + m → P (get_or xs k d) (get_or ys k e)
  mapped_from xs ys zero i p s h k d e l u = absurd (omega arith)
  mapped_from xs ys (suc m) i p s h k d e l u =
      let now : P h.1 h.2 × (h.0 ≡ f) = says h.1 h.2 h.0 (subst (λ q. Called g q (h.1, tt) h.2 h.0) s h.5) in
      elim (cases_eq k i) [
        | inl o ↦ subst (λ j. P (get_or xs j d) (get_or ys j e)) (sym o) (subst (λ y. P (get_or xs i d) y) (sym (h.4.1 e)) (subst (λ x. P x h.2) (sym (h.3.1 d)) now.0))
        | inr o ↦ mapped_from xs ys m (i + 1) h.0 now.1 h.6 k d e (omega arith) (omega arith)
      ]

  -- P holds of each element and what was made of it
  pub mapped : (xs : List A) (ys : List B) (n : ℕ) → IsMapOf g f xs ys n → (k : ℕ) (d : A) (e : B) → k < n → P (get_or xs k d) (get_or ys k e)
  mapped xs ys n h k d e u = mapped_from xs ys n 0 f refl h.each k d e (omega arith) (omega arith)

-- h maps the list
pub mapped_all : {F A B : Type 0} (g : Mut F (A × Unit {0}) B) (h : A → B) (f : F) → ((x : A) (r : B) (q : F) → Called g f (x, tt) r q → (r ≡ h x) × (q ≡ f)) →
    (a : A) (xs : List A) (ys : List B) (n : ℕ) → length xs ≡ n → IsMapOf g f xs ys n → ys ≡ map h xs
mapped_all g h f says a xs ys n l m =
    let ly : length ys ≡ n = m.long in
    same_lists ys (map h xs) (ly ∙ sym l ∙ sym (length-map xs h))
    (λ k d u. mapped g (λ x r. r ≡ h x) f says xs ys n m k a d (omega arith) ∙ sym (get_or-map h xs k a d (omega arith)))
