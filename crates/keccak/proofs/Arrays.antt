-- Values of the elements that `array::from_fn` makes by a closure that stays as it was.
use Rattle.std.proofs.Common.{◌≡◌, ℕ, ◌<◌, List, [], ◌∷◌, map, get_or, ◌∙◌, arith}
use Rattle.std.proofs.lemmas.List.{get_or-map}
use Rattle.std.specs.Array.{IsFromFnResult}
use Rattle.std.specs.Fn.{Called}
use Rattle.arrays.proofs.Made.{made as each_made}
use denote.Param.Members.{Mut}

-- v is a value of each element, w of each index
pub made : {F B : Type 0} (g : Mut F (ℕ × Unit {0}) B) (n : ℕ) (v : B → ℕ) (w : ℕ → ℕ) (f : F) → ((i : ℕ) (r : B) (q : F) → i < n → Called g f (i, tt) r q → (v r ≡ w i) × (q ≡ f)) →
    (ys : List B) → IsFromFnResult g f ys n → (k : ℕ) → k < n → get_or (map v ys) k 0 ≡ w k
made g n v w f says [] h k u = absurd (omega (arith, h.long))
made g n v w f says (y ∷ ys) h k u =
    get_or-map v (y ∷ ys) k y 0 (omega (arith, h.long)) ∙ each_made g n (λ i r. v r ≡ w i) f says (y ∷ ys) h k y u
