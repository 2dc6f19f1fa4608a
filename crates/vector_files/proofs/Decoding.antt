-- Pairs of digits, read one after the other.
use Rattle.std.proofs.Common.{◌≡◌, ℕ, ◌<◌, ◌≤◌, List, [], ◌∷◌, ◌++◌, length, drop, Some, None, Option, ap, sym, refl, slice_index_or, arith}
use Rattle.std.specs.Option.{option_map, option_and_then}
use Rattle.std.proofs.lemmas.List.{append_assoc}
use Rattle.vector_files.specs.Hex.{decoded, pair}

-- the first two digits and the others
pub decoded_pair : (s : List ℕ) → 2 ≤ length s → decoded s ≡ option_and_then (λ b. option_map (λ bs. b ∷ bs) (decoded (drop 2 s))) (pair (slice_index_or s 0 0) (slice_index_or s 1 0))
unfolding decoded
decoded_pair [] long = absurd (omega arith)
decoded_pair (high ∷ []) long = absurd (omega arith)
decoded_pair (high ∷ low ∷ rest) long = refl

pub decoded_none : (s : List ℕ) → length s ≡ 0 → decoded s ≡ Some []
unfolding decoded
decoded_none [] e = refl
decoded_none (high ∷ rest) e = absurd (omega arith)

pub decoded_one : (s : List ℕ) → length s < 2 → (length s ≡ 0 → ⊥) → decoded s ≡ None
unfolding decoded
decoded_one [] short some = absurd (some refl)
decoded_one (high ∷ []) short some = refl
decoded_one (high ∷ low ∷ rest) short some = absurd (omega arith)

-- a byte that was read stands behind those before it
pub joined : (seen : List ℕ) (b : ℕ) (o : Option (List ℕ)) → option_map (λ more. seen ++ more) (option_map (λ bs. b ∷ bs) o) ≡ option_map (λ more. (seen ++ b ∷ []) ++ more) o
joined seen b None = refl
joined seen b (Some bs) = ap Some (sym (append_assoc seen (b ∷ []) bs))
