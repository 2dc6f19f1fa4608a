-- The digits' places and the checksum's size, width by width.
use Rattle.std.proofs.Common.{◌≡◌, ℕ, zero, suc, ◌+◌, ◌-◌, ◌*◌, ◌/◌, ◌%◌, ◌^◌, ◌<◌, ◌≤◌, ◌⊎◌, List, ◌++◌, length, sym, refl, ap, ◌∙◌, subst, inl, inr, mul-suc, map, sum, sum_by, arith, length-append}
use Rattle.std.specs.List.{range_with_len}
use native.Mathlib.Nat.{zero-div}
use lib.Bits.{bit_and, and_zero_r}
use Rattle.std.proofs.lemmas.List.{get_or_past}
use Rattle.std.proofs.lemmas.List.FromFn.{sum_by-map-range_with_len_more}
use Rattle.std.proofs.lemmas.List.Sums.{sum-map}
use Rattle.rows.specs.Bytes.{u16str}
use Rattle.sizes.specs.declared.width.Width.{Width}
use Rattle.sizes.specs.declared.width.Width.TheVariants.{One, Two, Four, Eight}
use Rattle.sizes.specs.Sizes.{bits}
use Rattle.lmots.specs.LmOts.{u, coef, missing, checksum}

-- a number of bits that is a width
abbrev pub Known : ℕ → Type 0
Known w = (w ≡ 1) ⊎ ((w ≡ 2) ⊎ ((w ≡ 4) ⊎ (w ≡ 8)))

pub known : (width : Width) → Known (bits width)
known One = inl refl
known Two = inr (inl refl)
known Four = inr (inr (inl refl))
known Eight = inr (inr (inr refl))

pub by_width : (P : ℕ → Type 0) → P 1 → P 2 → P 4 → P 8 → (w : ℕ) → Known w → P w
by_width P a b c d w (inl e) = subst P (sym e) a
by_width P a b c d w (inr (inl e)) = subst P (sym e) b
by_width P a b c d w (inr (inr (inl e))) = subst P (sym e) c
by_width P a b c d w (inr (inr (inr e))) = subst P (sym e) d

-- digits of the digest
pub in_digest : (i w : ℕ) → Known w → i < u w → (i < 256) × (i * w / 8 < 32)
in_digest i =
    by_width (λ w. i < u w → (i < 256) × (i * w / 8 < 32))
    (λ h. (omega arith, omega arith)) (λ h. (omega arith, omega arith)) (λ h. (omega arith, omega arith)) (λ h. (omega arith, omega arith))

-- behind the last byte of the digest with its checksum every digit is 0
pub past_string : (i w : ℕ) → Known w → 272 / w ≤ i → 34 ≤ i * w / 8
past_string i =
    by_width (λ w. 272 / w ≤ i → 34 ≤ i * w / 8) (λ h. omega arith) (λ h. omega arith) (λ h. omega arith) (λ h. omega arith)

pub coef_past : (w : ℕ) (s : List ℕ) (i : ℕ) → length s ≤ i * w / 8 → coef w s i ≡ 0
coef_past w s i h =
    ap (λ b. bit_and (2 ^ w - 1) (b / 2 ^ (8 - (w * (i % (8 / w)) + w)))) (get_or_past s (i * w / 8) 0 h)
    ∙ ap (bit_and (2 ^ w - 1)) (zero-div (2 ^ (8 - (w * (i % (8 / w)) + w)))) ∙ and_zero_r (2 ^ w - 1)

-- a sum of n digits' complements
pub missing_le : (w : ℕ) (s : List ℕ) (t : ℕ) → 2 ^ w - 1 ≤ t → (n : ℕ) → missing w s n ≤ t * n
unfolding missing
missing_le w s t h zero = omega arith
missing_le w s t h (suc n) = omega (arith, missing_le w s t h n, mul-suc t n)

pub checksum_small : (s : List ℕ) (w : ℕ) → Known w → checksum w s < 2 ^ 16
checksum_small s =
    by_width (λ w. checksum w s < 2 ^ 16)
    (omega (arith, missing_le 1 s 1 (omega arith) 256))
    (omega (arith, missing_le 2 s 3 (omega arith) 128))
    (omega (arith, missing_le 4 s 15 (omega arith) 64))
    (omega (arith, missing_le 8 s 255 (omega arith) 32))

pub string_length : (w : ℕ) (d : List ℕ) → length d ≡ 32 → length (d ++ u16str (checksum w d)) ≡ 34
string_length w d h = length-append d (u16str (checksum w d)) ∙ omega arith

-- what the first n digits lack, summed up
lacking_sum : (w : ℕ) (s : List ℕ) (n : ℕ) → sum (map (λ i. 2 ^ w - 1 - coef w s i) (range_with_len 0 n)) ≡ missing w s n
unfolding missing
lacking_sum w s zero = refl
lacking_sum w s (suc n) =
    let f : ℕ → ℕ = λ i. 2 ^ w - 1 - coef w s i in
    let e : suc n ≡ n + 1 = omega arith in
    ap (λ k. sum (map f (range_with_len 0 k))) e ∙ sum_by-map-range_with_len_more (λ x. x) f 0 n n (omega arith) ∙ ap (λ x. x + f n) (lacking_sum w s n)

pub lacking_all : (w : ℕ) (s : List ℕ) (n : ℕ) → sum_by (λ i. 2 ^ w - 1 - coef w s i) (range_with_len 0 n) ≡ missing w s n
lacking_all w s n = sym (sum-map (λ i. 2 ^ w - 1 - coef w s i) (range_with_len 0 n)) ∙ lacking_sum w s n

pub missing_small : (s : List ℕ) (w : ℕ) → Known w → missing w s (u w) < 2 ^ 16
missing_small s =
    by_width (λ w. missing w s (u w) < 2 ^ 16)
    (omega (arith, missing_le 1 s 1 (omega arith) 256))
    (omega (arith, missing_le 2 s 3 (omega arith) 128))
    (omega (arith, missing_le 4 s 15 (omega arith) 64))
    (omega (arith, missing_le 8 s 255 (omega arith) 32))
