-- Lanes of what an operation on vectors gives.
use Rattle.std.proofs.Common.{◌≡◌, ℕ, ◌<◌, List, [], ◌∷◌, length, get_or, replicate, sym, ap, ◌∙◌, arith}
use lib.Lanes.{zip2}
use Rattle.std.proofs.lemmas.Simd.{length-zip2, get_or-zip2, get_or-replicate, length-replicate}
use Rattle.std.proofs.lemmas.List.{get_or-map, length-map}
use Rattle.simd_lanes.specs.Lane.{lane}

-- vectors of n lanes
module _ (n : ℕ) where
  pub long2 : (f : ℕ → ℕ → ℕ) (a b : List ℕ) → length a ≡ n → length b ≡ n → length (zip2 f a b) ≡ n
  long2 f a b la lb = length-zip2 f a b (la ∙ sym lb) ∙ la

  pub at2 : (f : ℕ → ℕ → ℕ) (a b : List ℕ) (i : ℕ) → length a ≡ n → length b ≡ n → i < n → get_or (zip2 f a b) i 0 ≡ f (get_or a i 0) (get_or b i 0)
  at2 f a b i la lb h = get_or-zip2 f a b i 0 0 0 (omega arith) (omega arith)

  -- one operation with a number in each lane
  pub at_splat : (f : ℕ → ℕ → ℕ) (a : List ℕ) (k i : ℕ) → length a ≡ n → i < n → get_or (zip2 f a (replicate n k)) i 0 ≡ f (get_or a i 0) k
  at_splat f a k i la h = at2 f a (replicate n k) i la (length-replicate n k) h ∙ ap (f (get_or a i 0)) (get_or-replicate n i k 0 h)

  -- two operations, each with a number in each lane, joined by a third, as a rotation is
  pub at_both : (o f g : ℕ → ℕ → ℕ) (a : List ℕ) (j k i : ℕ) → length a ≡ n → i < n → get_or (zip2 o (zip2 f a (replicate n j)) (zip2 g a (replicate n k))) i 0 ≡ o (f (get_or a i 0) j) (g (get_or a i 0) k)
  at_both o f g a j k i la h =
      let p = zip2 f a (replicate n j) in
      let q = zip2 g a (replicate n k) in
      at2 o p q i (long2 f a (replicate n j) la (length-replicate n j)) (long2 g a (replicate n k) la (length-replicate n k)) h
      ∙ ap (λ u. o u (get_or q i 0)) (at_splat f a j i la h)
      ∙ ap (o (f (get_or a i 0) j)) (at_splat g a k i la h)

pub get_or_lane : (i : ℕ) (vs : List (List ℕ)) (t : ℕ) → t < length vs → get_or (lane i vs) t 0 ≡ get_or (get_or vs t []) i 0
unfolding lane
get_or_lane i vs t h = get_or-map (λ v. get_or v i 0) vs t [] 0 h

pub length_lane : (i : ℕ) (vs : List (List ℕ)) → length (lane i vs) ≡ length vs
unfolding lane
length_lane i vs = length-map vs (λ v. get_or v i 0)

-- two lists that agree element by element
pub same : {x y : ℕ} {xs ys : List ℕ} → x ≡ y → xs ≡ ys → (x ∷ xs) ≡ (y ∷ ys)
same {x} {y} {xs} {ys} p q = ap (λ u. u ∷ xs) p ∙ ap (λ u. y ∷ u) q
