-- The hash of a whole message is what the state closes to.
use Rattle.std.specs.Prelude.{◌≡◌, ℕ, ◌+◌, ◌-◌, ◌*◌, ◌/◌, ◌%◌, ◌<◌, cond, List, [], ◌∷◌, ◌++◌, length, replicate, ◌==◌, refl}
use Rattle.std.proofs.Common.{sym, ap, ◌∙◌, inl, inr, arith, eq-eqb, ne_eqb}
use Rattle.std.proofs.lemmas.List.{length-append, length_push, length-replicate}
use Rattle.std.proofs.lemmas.Bool.{cases_eq}
use Rattle.hash.specs.Chaining.{Chain, over, stepped, chained}
use Rattle.hash.proofs.Chaining.{chained_padded}
use Rattle.shake256.specs.Fips202.{absorbed, initial, padding, padded, squeezed, shake256}
use Rattle.shake256.specs.State.{first, fed, closed}

-- the padding by the length modulo the rate
abbrev padding_by : ℕ → List ℕ
padding_by r = cond (r == 135) (0x9f ∷ []) (0x1f ∷ (replicate (134 - r) 0 ++ 0x80 ∷ []))

padding_length : (r : ℕ) → r < 136 → r + length (padding_by r) ≡ 136
padding_length r h = elim (cases_eq r 135) [
  | inl e ↦ rw (eq-eqb r 135 e) (omega arith)
  | inr k ↦ rw (ne_eqb r 135 k) (simp (length-append, length-replicate) (omega arith))
]

padded_length : (m : List ℕ) → length (padded m) ≡ length (padded m) / 136 * 136
padded_length m =
    let l = length-append m (padding (length m)) in
    let p : length m % 136 + length (padding (length m)) ≡ 136 = padding_length (length m % 136) (omega arith) in
    omega arith

-- what the open block holds, modulo the rate, whatever it held before
stepped_tail : (s : Chain) (b : ℕ) → length (stepped 136 absorbed s b).tail % 136 ≡ (length s.tail + 1) % 136
unfolding stepped
stepped_tail s b = elim (cases_eq (length s.tail + 1) 136) [
  | inl e ↦ rw (eq-eqb (length s.tail + 1) 136 e) (omega arith)
  | inr k ↦ rw (ne_eqb (length s.tail + 1) 136 k) (let l = length_push s.tail b in omega arith)
]

chained_tail : (m : List ℕ) (s : Chain) → length (chained 136 absorbed s m).tail % 136 ≡ (length s.tail + length m) % 136
unfolding chained
chained_tail [] s = omega arith
chained_tail (b ∷ m) s =
    let e = stepped_tail s b in
    chained_tail m (stepped 136 absorbed s b) ∙ omega arith

closed_is : (s : Chain) → closed s ≡ squeezed (chained 136 absorbed s (padding (length s.tail))).value
unfolding closed
closed_is s = refl

shake256_is : (m : List ℕ) → shake256 m ≡ squeezed (over 136 absorbed (length (padded m) / 136) initial (padded m))
unfolding shake256
shake256_is m = refl

pub whole : (m : List ℕ) → shake256 m ≡ closed (fed first m)
whole m =
    let s = chained 136 absorbed first m in
    let r : length m % 136 ≡ length (chained 136 absorbed first m).tail % 136 = omega (arith, chained_tail m first) in
    shake256_is m
    ∙ ap squeezed (chained_padded 136 absorbed m (padding (length m)) initial (omega arith) (padded_length m) ∙ ap (λ r. (chained 136 absorbed s (padding_by r)).value) r)
    ∙ sym (closed_is s)
