-- The last block.
use Rattle.std.proofs.Common.{◌≡◌, ℕ, ◌+◌, ◌-◌, ◌%◌, ◌<◌, List, [], ◌∷◌, ◌++◌, length, get_or, set, replicate, sym, refl, ap, ◌∙◌, inl, inr, arith, eq-eqb, ne_eqb}
use lib.Bits.{bit_xor}
use Rattle.std.proofs.lemmas.List.{append_assoc, length-append, length-replicate, replicate-append-replicate, get_or_at, set_at}
use Rattle.std.proofs.lemmas.Bool.{cases_eq}
use Rattle.hash.specs.Buffers.{ended}
use Rattle.hash.specs.Chaining.{Chain, link, chained}
use Rattle.hash.proofs.Chaining.{chained_short, chained_full}
use Rattle.shake256.specs.Fips202.{absorbed, padding, squeezed}
use Rattle.shake256.specs.State.{fed, closed}

padding_full : (n : ℕ) → n ≡ 135 → padding n ≡ 0x9f ∷ []
padding_full n e = let k : n % 136 ≡ 135 = omega arith in rw (eq-eqb (n % 136) 135 k)

padding_long : (n : ℕ) → n < 135 → padding n ≡ 0x1f ∷ (replicate (134 - n) 0 ++ 0x80 ∷ [])
padding_long n h =
    let k : n % 136 ≡ n = omega arith in
    rw (ne_eqb (n % 136) 135 (λ e. omega arith)) (ap (λ i. 0x1f ∷ (replicate (134 - i) 0 ++ 0x80 ∷ [])) k)

padding_length : (n : ℕ) → n < 136 → n + length (padding n) ≡ 136
padding_length n h = elim (cases_eq n 135) [
  | inl e ↦ rw (padding_full n e) (omega arith)
  | inr k ↦ rw (padding_long n (omega arith)) (simp (length-append, length-replicate) (omega arith))
]

-- the last bit of the padding is added to the last byte of the block
ended_by : (p q : List ℕ) (x : ℕ) → length p ≡ 135 → q ≡ p ++ x ∷ [] → set q 135 (bit_xor (get_or q 135 0) 0x80) ≡ p ++ bit_xor x 0x80 ∷ []
ended_by p q x l e =
    ap (λ q. set q 135 (bit_xor (get_or q 135 0) 0x80)) e
    ∙ set_at p x [] (bit_xor (get_or (p ++ x ∷ []) 135 0) 0x80) 135 l
    ∙ ap (λ y. p ++ bit_xor y 0x80 ∷ []) (get_or_at p x [] 0 135 l)

padded_block : (u b : List ℕ) (f : ℕ) → f < 136 → length u ≡ f → b ≡ u ++ (0x1f ∷ replicate (135 - f) 0) → set b 135 (bit_xor (get_or b 135 0) 0x80) ≡ u ++ padding f
padded_block u b f h l q = elim (cases_eq f 135) [
  | inl e ↦
      let z : 135 - f ≡ 0 = omega arith in
      ended_by u b 0x1f (l ∙ e) (q ∙ ap (λ i. u ++ (0x1f ∷ replicate i 0)) z) ∙ ap (λ p. u ++ p) (sym (padding_full f e))
  | inr n ↦
      let lt : f < 135 = omega arith in
      let z : 134 - f + 1 ≡ 135 - f = omega arith in
      let lp : length (u ++ (0x1f ∷ replicate (134 - f) 0)) ≡ 135 = simp (length-append, length-replicate) (omega arith) in
      let cut : b ≡ (u ++ (0x1f ∷ replicate (134 - f) 0)) ++ 0 ∷ [] =
      q ∙ ap (λ r. u ++ (0x1f ∷ r)) (ap (λ i. replicate i 0) (sym z) ∙ sym (replicate-append-replicate (134 - f) 1 0))
      ∙ sym (append_assoc u (0x1f ∷ replicate (134 - f) 0) (0 ∷ [])) in
      ended_by (u ++ (0x1f ∷ replicate (134 - f) 0)) b 0 lp cut
      ∙ append_assoc u (0x1f ∷ replicate (134 - f) 0) (0x80 ∷ [])
      ∙ ap (λ p. u ++ p) (sym (padding_long f lt))
]

-- the last block of a message
pub last : (t b : List ℕ) → length t < 136 → b ≡ ended 136 0x1f t → set b 135 (bit_xor (get_or b 135 0) 0x80) ≡ t ++ padding (length t)
last t b h q = padded_block t b (length t) h refl q

closed_is : (s : Chain) → closed s ≡ squeezed (chained 136 absorbed s (padding (length s.tail))).value
unfolding closed
closed_is s = refl

-- a message that is all there
pub one_block : (v t : List ℕ) → length t < 136 → closed (link v t) ≡ squeezed (absorbed v (t ++ padding (length t)))
one_block v t h =
    let f = length t in
    let lp = padding_length f h in
    closed_is (link v t)
    ∙ ap (λ s. squeezed s.value) (chained_full 136 absorbed (padding f) v t (omega (arith, lp)) (omega (arith, lp)))

-- bytes that leave the block open, taken in later
pub later : (v t x : List ℕ) → length t + length x < 136 → closed (fed (link v t) x) ≡ closed (link v (t ++ x))
later v t x h = ap closed (chained_short 136 absorbed x v t h)
