-- A block added to the state.
use Rattle.std.proofs.Common.{◌≡◌, ℕ, ◌+◌, ◌-◌, ◌*◌, ◌<◌, ◌≤◌, List, ◌++◌, length, get_or, take, drop, replicate, sym, ap, ◌∙◌, inl, inr, arith}
use lib.Bits.{bit_xor, xor_zero_r}
use Rattle.std.proofs.lemmas.List.FromFn.{fill_by_all}
use Rattle.std.proofs.lemmas.List.{get_or_append_left, get_or-append_right, get_or-replicate, get_or-take, get_or-drop}
use Rattle.std.proofs.lemmas.Bool.{cases_lt}
use Rattle.shake256.specs.Fips202.{word, added}

byte_at : (b : List ℕ) (t j i : ℕ) → j < 8 → t * 8 + j ≡ i → get_or (take 8 (drop (t * 8) b)) j 0 ≡ get_or b i 0
byte_at b t j i h e = get_or-take 8 (drop (t * 8) b) j 0 h ∙ get_or-drop (t * 8) b j 0 ∙ ap (λ k. get_or b k 0) e

-- the t-th eight bytes of a block
pub word_at : (b : List ℕ) (t : ℕ) → word (take 8 (drop (t * 8) b)) 0 ≡ word b t
word_at b t =
    simp (
      byte_at b t 0 (8 * t) (omega arith) (omega arith),
      byte_at b t 1 (8 * t + 1) (omega arith) (omega arith),
      byte_at b t 2 (8 * t + 2) (omega arith) (omega arith),
      byte_at b t 3 (8 * t + 3) (omega arith) (omega arith),
      byte_at b t 4 (8 * t + 4) (omega arith) (omega arith),
      byte_at b t 5 (8 * t + 5) (omega arith) (omega arith),
      byte_at b t 6 (8 * t + 6) (omega arith) (omega arith),
      byte_at b t 7 (8 * t + 7) (omega arith) (omega arith),
    )

word_front : (b z : List ℕ) (t : ℕ) → length b ≡ 136 → t < 17 → word (b ++ z) t ≡ word b t
word_front b z t l h =
    let h0 : 8 * t < length b = omega arith in
    let h1 : 8 * t + 1 < length b = omega arith in
    let h2 : 8 * t + 2 < length b = omega arith in
    let h3 : 8 * t + 3 < length b = omega arith in
    let h4 : 8 * t + 4 < length b = omega arith in
    let h5 : 8 * t + 5 < length b = omega arith in
    let h6 : 8 * t + 6 < length b = omega arith in
    let h7 : 8 * t + 7 < length b = omega arith in
    simp (
      get_or_append_left b z 0 (8 * t) h0,
      get_or_append_left b z 0 (8 * t + 1) h1,
      get_or_append_left b z 0 (8 * t + 2) h2,
      get_or_append_left b z 0 (8 * t + 3) h3,
      get_or_append_left b z 0 (8 * t + 4) h4,
      get_or_append_left b z 0 (8 * t + 5) h5,
      get_or_append_left b z 0 (8 * t + 6) h6,
      get_or_append_left b z 0 (8 * t + 7) h7,
    )

zero_at : (b : List ℕ) (i : ℕ) → length b ≡ 136 → 136 ≤ i → i < 200 → get_or (b ++ replicate 64 0) i 0 ≡ 0
zero_at b i l h k = get_or-append_right b (replicate 64 0) 136 i 0 l h ∙ get_or-replicate 64 (i - 136) 0 0 (omega arith)

word_back : (b : List ℕ) (t : ℕ) → length b ≡ 136 → 17 ≤ t → t < 25 → word (b ++ replicate 64 0) t ≡ 0
word_back b t l h k =
    simp (
      zero_at b (8 * t) l (omega arith) (omega arith),
      zero_at b (8 * t + 1) l (omega arith) (omega arith),
      zero_at b (8 * t + 2) l (omega arith) (omega arith),
      zero_at b (8 * t + 3) l (omega arith) (omega arith),
      zero_at b (8 * t + 4) l (omega arith) (omega arith),
      zero_at b (8 * t + 5) l (omega arith) (omega arith),
      zero_at b (8 * t + 6) l (omega arith) (omega arith),
      zero_at b (8 * t + 7) l (omega arith) (omega arith),
    )

pub all_added : (a e b : List ℕ) → length a ≡ 25 → length b ≡ 136 → ((k : ℕ) → k < 17 → get_or a k 0 ≡ bit_xor (get_or e k 0) (word b k)) →
    ((k : ℕ) → 17 ≤ k → get_or a k 0 ≡ get_or e k 0) → a ≡ added e b
unfolding added
all_added a e b la lb front back =
    let f : ℕ → ℕ = λ k. bit_xor (get_or e k 0) (word (b ++ replicate 64 0) k) in
    fill_by_all f a 25 0 la
    (λ k h. elim (cases_lt k 17) [
      | inl s ↦ front k s ∙ ap (bit_xor (get_or e k 0)) (sym (word_front b (replicate 64 0) k lb s))
      | inr s ↦ back k s ∙ sym (xor_zero_r (get_or e k 0)) ∙ ap (bit_xor (get_or e k 0)) (sym (word_back b k lb s h))
    ])
