-- Bytes taken in one by one, and as whole blocks.
use Rattle.std.proofs.Common.{◌≡◌, ℕ, zero, suc, ◌+◌, ◌*◌, ◌/◌, ◌%◌, ◌<◌, ◌≤◌, List, [], ◌∷◌, ◌++◌, length, get_or, take, drop, sym, refl, ap, ◌∙◌, inl, inr, arith, eq-eqb, ne_eqb}
use Rattle.std.proofs.lemmas.List.{append-nil, append_assoc, length_push, length-take-le, length-drop, take-append-drop, drop_all, drop-drop}
use Rattle.std.proofs.lemmas.Bool.{cases_eq}
use Rattle.std.proofs.Math.Nat.{mod_self, mod-lt, mod-eq_of_lt, mod-add-mod}
use Rattle.std.specs.Simd.{first_chunks}
use Rattle.hash.specs.Chaining.{Chain, link, over, stepped, chained}

-- a chunk of n bytes
pub chunk_at : (n k i : ℕ) (xs d : List ℕ) → i < k → get_or (first_chunks n k xs) i d ≡ take n (drop (i * n) xs)
chunk_at n zero i xs d h = absurd (omega arith)
chunk_at n (suc k) zero xs d h = let none : 0 * n ≡ 0 = omega arith in ap (λ j. take n (drop j xs)) (sym none)
chunk_at n (suc k) (suc i) xs d h =
    let far : n + i * n ≡ suc i * n = omega arith in
    chunk_at n k i (drop n xs) d (omega arith) ∙ ap (take n) (drop-drop (i * n) n xs ∙ ap (λ j. drop j xs) far)

module _ (n : ℕ) (F : List ℕ → List ℕ → List ℕ) where
  pub chained_none : (s : Chain) → chained n F s [] ≡ s
  unfolding chained
  chained_none s = refl

  chained_one : (s : Chain) (b : ℕ) (bs : List ℕ) → chained n F s (b ∷ bs) ≡ chained n F (stepped n F s b) bs
  unfolding chained
  chained_one s b bs = refl

  pub chained_joined : (s : Chain) (a b : List ℕ) → chained n F (chained n F s a) b ≡ chained n F s (a ++ b)
  unfolding chained
  chained_joined s [] b = refl
  chained_joined s (x ∷ a) b = chained_joined (stepped n F s x) a b

  stepped_in : (v t : List ℕ) (b : ℕ) → length t + 1 < n → stepped n F (link v t) b ≡ link v (t ++ b ∷ [])
  unfolding stepped
  stepped_in v t b h = rw (ne_eqb (length t + 1) n (λ e. omega arith))

  stepped_full : (v t : List ℕ) (b : ℕ) → length t + 1 ≡ n → stepped n F (link v t) b ≡ link (F v (t ++ b ∷ [])) []
  unfolding stepped
  stepped_full v t b h = rw (eq-eqb (length t + 1) n h)

  -- bytes that leave the block open
  pub chained_short : (bs v t : List ℕ) → length t + length bs < n → chained n F (link v t) bs ≡ link v (t ++ bs)
  chained_short [] v t l = chained_none (link v t) ∙ ap (link v) (sym (append-nil t))
  chained_short (b ∷ bs) v t l =
      let le = length_push t b in
      chained_one (link v t) b bs
      ∙ ap (λ s. chained n F s bs) (stepped_in v t b (omega arith))
      ∙ chained_short bs v (t ++ b ∷ []) (omega arith)
      ∙ ap (link v) (append_assoc t (b ∷ []) bs)

  -- bytes that fill the block
  pub chained_full : (bs v t : List ℕ) → 0 < length bs → length t + length bs ≡ n → chained n F (link v t) bs ≡ link (F v (t ++ bs)) []
  chained_full [] v t p l = absurd (omega arith)
  chained_full (b ∷ []) v t p l = chained_one (link v t) b [] ∙ ap (λ s. chained n F s []) (stepped_full v t b (omega arith)) ∙ chained_none _
  chained_full (b ∷ c ∷ bs) v t p l =
      let le = length_push t b in
      chained_one (link v t) b (c ∷ bs)
      ∙ ap (λ s. chained n F s (c ∷ bs)) (stepped_in v t b (omega arith))
      ∙ chained_full (c ∷ bs) v (t ++ b ∷ []) (omega arith) (omega arith)
      ∙ ap (λ u. link (F v u) []) (append_assoc t (b ∷ []) (c ∷ bs))

  -- a whole block at the front
  pub chained_block : (m v : List ℕ) → 0 < n → n ≤ length m → chained n F (link v []) m ≡ chained n F (link (F v (take n m)) []) (drop n m)
  chained_block m v p h =
      let l : length (take n m) ≡ n = length-take-le n m h in
      ap (chained n F (link v [])) (sym (take-append-drop n m))
      ∙ sym (chained_joined (link v []) (take n m) (drop n m))
      ∙ ap (λ s. chained n F s (drop n m)) (chained_full (take n m) v [] (omega arith) (omega arith))

  pub over_none : (v m : List ℕ) → over n F 0 v m ≡ v
  unfolding over
  over_none v m = refl

  over_suc : (k : ℕ) (v m : List ℕ) → over n F (suc k) v m ≡ over n F k (F v (take n m)) (drop n m)
  unfolding over
  over_suc k v m = refl

  -- one block more
  pub over_more : (k : ℕ) (v m : List ℕ) → over n F (k + 1) v m ≡ F (over n F k v m) (take n (drop (k * n) m))
  over_more zero v m =
      let none : 0 * n ≡ 0 = omega arith in
      over_suc 0 v m ∙ over_none (F v (take n m)) (drop n m)
      ∙ ap (λ u. F u (take n m)) (sym (over_none v m)) ∙ ap (λ i. F (over n F 0 v m) (take n (drop i m))) (sym none)
  over_more (suc k) v m =
      let far : n + k * n ≡ suc k * n = omega arith in
      let next : suc k + 1 ≡ suc (k + 1) = omega arith in
      ap (λ i. over n F i v m) next ∙ over_suc (k + 1) v m ∙ over_more k (F v (take n m)) (drop n m)
      ∙ ap (λ u. F u (take n (drop (k * n) (drop n m)))) (sym (over_suc k v m))
      ∙ ap (λ u. F (over n F (suc k) v m) (take n u)) (drop-drop (k * n) n m ∙ ap (λ i. drop i m) far)

  -- the whole blocks at the front, and what is left
  pub chained_blocks : (k : ℕ) (m v : List ℕ) → 0 < n → k * n ≤ length m → chained n F (link v []) m ≡ chained n F (link (over n F k v m) []) (drop (k * n) m)
  chained_blocks zero m v p h =
      let none : 0 * n ≡ 0 = omega arith in
      ap (λ u. chained n F (link u []) m) (sym (over_none v m)) ∙ ap (λ i. chained n F (link (over n F 0 v m) []) (drop i m)) (sym none)
  chained_blocks (suc k) m v p h =
      let far : n + k * n ≡ suc k * n = omega arith in
      let one : n ≤ length m = omega arith in
      let l = length-drop n m in
      chained_block m v p one
      ∙ chained_blocks k (drop n m) (F v (take n m)) p (omega arith)
      ∙ ap (λ u. chained n F (link u []) (drop (k * n) (drop n m))) (sym (over_suc k v m))
      ∙ ap (chained n F (link (over n F (suc k) v m) [])) (drop-drop (k * n) n m ∙ ap (λ i. drop i m) far)

  -- whole blocks, taken in as bytes
  pub chained_over : (k : ℕ) (m v : List ℕ) → 0 < n → length m ≡ k * n → (chained n F (link v []) m).value ≡ over n F k v m
  chained_over k m v p l =
      ap (λ s. s.value)
      (chained_blocks k m v p (omega arith)
      ∙ ap (chained n F (link (over n F k v m) [])) (drop_all (k * n) m (omega arith))
      ∙ chained_none (link (over n F k v m) []))

  -- a message m with its padding p
  pub chained_padded : (m p v : List ℕ) → 0 < n → length (m ++ p) ≡ length (m ++ p) / n * n → over n F (length (m ++ p) / n) v (m ++ p) ≡ (chained n F (chained n F (link v []) m) p).value
  chained_padded m p v h l =
      sym (chained_over (length (m ++ p) / n) (m ++ p) v h l) ∙ ap (λ s. s.value) (sym (chained_joined (link v []) m p))

  stepped_tail : (s : Chain) (b : ℕ) → length s.tail < n → length (stepped n F s b).tail ≡ (length s.tail + 1) % n
  unfolding stepped
  stepped_tail s b h = elim (cases_eq (length s.tail + 1) n) [
    | inl e ↦ rw (eq-eqb (length s.tail + 1) n e) (sym (ap (λ i. i % n) e ∙ mod_self n))
    | inr k ↦ rw (ne_eqb (length s.tail + 1) n k) (length_push s.tail b ∙ sym (mod-eq_of_lt (omega arith)))
  ]

  -- how many bytes the block that is not whole holds
  pub chained_tail : (m : List ℕ) (s : Chain) → length s.tail < n → length (chained n F s m).tail ≡ (length s.tail + length m) % n
  unfolding chained
  chained_tail [] s h = let e : length s.tail + 0 ≡ length s.tail = omega arith in sym (ap (λ i. i % n) e ∙ mod-eq_of_lt h)
  chained_tail (b ∷ m) s h =
      let e = stepped_tail s b h in
      let p : 0 < n = omega arith in
      let l : length (stepped n F s b).tail < n = omega (arith, mod-lt (length s.tail + 1) p) in
      let one : length s.tail + 1 + length m ≡ length s.tail + length (b ∷ m) = omega arith in
      chained_tail m (stepped n F s b) l ∙ ap (λ i. (i + length m) % n) e ∙ mod-add-mod (length s.tail + 1) n (length m) ∙ ap (λ i. i % n) one
