-- The checksum's law.
use Rattle.std.proofs.Common.{◌≡◌, ℕ, zero, suc, ◌+◌, ◌-◌, ◌*◌, ◌/◌, ◌%◌, ◌^◌, ◌<◌, ◌≤◌, ◌⊎◌, List, ◌++◌, length, get_or, sym, refl, ap, ◌∙◌, subst, ap₂, subst₂, inl, inr, mod-eq_of_lt, add-mul, le_antisymm, mul-zero, div-add-mod', mul-suc, arith}
use lib.Bits.{bit_and}
use Rattle.std.proofs.lemmas.Nat.{and_comm, and_mask, mod-pow-add, mul-le, pow_pos, div_below, mod_below}
use Rattle.std.proofs.lemmas.List.{get_or_append_left, get_or-append_right, ext_get_or}
use Rattle.std.proofs.lemmas.Bool.{cases_lt}
use Rattle.rows.specs.Bytes.{u16str}
use Rattle.lmots.specs.Laws.{ChecksumGuards}
use Rattle.lmots.specs.LmOts.{u, v, p, ls, coef, missing, checksum, digit}
use Rattle.lmots.proofs.Chains.{coef_below}
use Rattle.lmots.proofs.Widths.{Known, known, by_width, checksum_small, in_digest}

-- a search below n
pub found : (f g : ℕ → ℕ) (n : ℕ) → ((i : ℕ) × (i < n) × (g i < f i)) ⊎ ((i : ℕ) → i < n → f i ≤ g i)
found f g zero = inr (λ i h. absurd (omega arith))
found f g (suc n) = more (found f g n) (cases_lt (g n) (f n))
  where
    more : ((i : ℕ) × (i < n) × (g i < f i)) ⊎ ((i : ℕ) → i < n → f i ≤ g i) → (g n < f n) ⊎ (f n ≤ g n) →
        ((i : ℕ) × (i < suc n) × (g i < f i)) ⊎ ((i : ℕ) → i < suc n → f i ≤ g i)
    more (inl h) k = inl (h.0, omega arith, h.2)
    more (inr h) (inl k) = inl (n, omega arith, k)
    more (inr h) (inr k) = inr (λ i l. last i l (cases_lt i n))
      where
        last : (i : ℕ) → i < suc n → (i < n) ⊎ (n ≤ i) → f i ≤ g i
        last i l (inl o) = h i o
        last i l (inr o) = let e : n ≡ i = omega arith in subst (λ j. f j ≤ g j) e k

-- numbers whose digits are in order are in order
pub in_order : (w a b n : ℕ) → ((k : ℕ) → k < n → a / 2 ^ (w * k) % 2 ^ w ≤ b / 2 ^ (w * k) % 2 ^ w) → a % 2 ^ (w * n) ≤ b % 2 ^ (w * n)
in_order w a b zero h = subst (λ k. a % 2 ^ k ≤ b % 2 ^ k) (sym (mul-zero w)) (omega arith)
in_order w a b (suc n) h =
    let e : w * suc n ≡ w + w * n = mul-suc w n ∙ omega arith in
    let s = in_order w a b n (λ k l. h k (omega arith)) in
    let t = mul-le (a / 2 ^ (w * n) % 2 ^ w) (2 ^ (w * n)) (b / 2 ^ (w * n) % 2 ^ w) (2 ^ (w * n)) (h n (omega arith)) (omega arith) in
    let x : a % 2 ^ (w * suc n) ≡ (a / 2 ^ (w * n) % 2 ^ w) * 2 ^ (w * n) + a % 2 ^ (w * n) = ap (λ k. a % 2 ^ k) e ∙ mod-pow-add a w (w * n) in
    let y : b % 2 ^ (w * suc n) ≡ (b / 2 ^ (w * n) % 2 ^ w) * 2 ^ (w * n) + b % 2 ^ (w * n) = ap (λ k. b % 2 ^ k) e ∙ mod-pow-add b w (w * n) in
    omega arith

-- digit r of byte a
place : (a r w : ℕ) → Known w → r < 8 / w → ((8 / w * a + r) * w / 8 ≡ a) × (8 - (w * ((8 / w * a + r) % (8 / w)) + w) ≡ w * (8 / w - 1 - r))
place a r =
    by_width (λ w. r < 8 / w → ((8 / w * a + r) * w / 8 ≡ a) × (8 - (w * ((8 / w * a + r) % (8 / w)) + w) ≡ w * (8 / w - 1 - r)))
    (λ h. (omega arith, omega arith)) (λ h. (omega arith, omega arith)) (λ h. (omega arith, omega arith)) (λ h. (omega arith, omega arith))

coef_at : (s : List ℕ) (a r w : ℕ) → Known w → r < 8 / w → coef w s (8 / w * a + r) ≡ get_or s a 0 / 2 ^ (w * (8 / w - 1 - r)) % 2 ^ w
coef_at s a r w W h =
    let e = place a r w W h in
    ap₂ (λ x y. bit_and (2 ^ w - 1) (get_or s x 0 / 2 ^ y)) e.0 e.1
    ∙ and_comm (2 ^ w - 1) (get_or s a 0 / 2 ^ (w * (8 / w - 1 - r)))
    ∙ and_mask (get_or s a 0 / 2 ^ (w * (8 / w - 1 - r))) w

whole_byte : (w : ℕ) → Known w → w * (8 / w) ≡ 8
whole_byte = by_width (λ w. w * (8 / w) ≡ 8) refl refl refl refl

-- bytes whose digits are in order are in order
byte_le : (s t : List ℕ) (a w : ℕ) → Known w → get_or s a 0 < 256 → get_or t a 0 < 256 →
    ((r : ℕ) → r < 8 / w → coef w s (8 / w * a + r) ≤ coef w t (8 / w * a + r)) → get_or s a 0 ≤ get_or t a 0
byte_le s t a w W ls lt h =
    let x = get_or s a 0 in
    let y = get_or t a 0 in
    let o : x % 2 ^ (w * (8 / w)) ≤ y % 2 ^ (w * (8 / w)) =
    in_order w x y (8 / w)
    (λ k l.
    let r : ℕ = 8 / w - 1 - k in
    let b : r < 8 / w = omega arith in
    let e : 8 / w - 1 - r ≡ k = omega arith in
    subst (λ j. x / 2 ^ (w * j) % 2 ^ w ≤ y / 2 ^ (w * j) % 2 ^ w) e (subst₂ (λ m n. m ≤ n) (coef_at s a r w W b) (coef_at t a r w W b) (h r b))) in
    let q : x % 256 ≤ y % 256 = subst (λ n. x % 2 ^ n ≤ y % 2 ^ n) (whole_byte w W) o in
    omega arith

-- the digits of the digest itself
front : (Q : List ℕ) (i w : ℕ) → length Q ≡ 32 → Known w → i < u w → digit w Q i ≡ coef w Q i
unfolding digit
front Q i w l W h =
    let o = in_digest i w W h in
    ap (λ b. bit_and (2 ^ w - 1) (b / 2 ^ (8 - (w * (i % (8 / w)) + w)))) (get_or_append_left Q (u16str (checksum w Q)) 0 (i * w / 8) (omega arith))

module _ (w : ℕ) (Q R : List ℕ) where
  sums_back : (n : ℕ) → ((i : ℕ) → i < n → coef w Q i ≤ coef w R i) → missing w R n ≤ missing w Q n
  unfolding missing
  sums_back zero h = omega arith
  sums_back (suc n) h = omega (arith, sums_back n (λ i l. h i (omega arith)), h n (omega arith))

  -- digits in order with sums that are not the other way round are equal
  all_equal : (n : ℕ) → ((i : ℕ) → i < n → coef w Q i ≤ coef w R i) → missing w Q n ≤ missing w R n → (i : ℕ) → i < n → coef w Q i ≡ coef w R i
  unfolding missing
  all_equal zero h s i l = absurd (omega arith)
  all_equal (suc n) h s i l =
      let b = sums_back n (λ k o. h k (omega arith)) in
      let o = h n (omega arith) in
      let x = coef_below w Q n in
      let y = coef_below w R n in
      let e : coef w Q n ≡ coef w R n = omega arith in
      let t : missing w Q n ≤ missing w R n = omega arith in
      let before = all_equal n (λ k o. h k (omega arith)) t in
      elim (cases_lt i n) [ inl k ↦ before i k | inr k ↦ (let j : n ≡ i = omega arith in subst (λ m. coef w Q m ≡ coef w R m) j e) ]

-- checksums whose digits are in order are in order
order : (L m n x e : ℕ) → m * L ≡ x + e → e < L → x ≤ n * L → m ≤ n
order L m n x e h l k =
    elim (cases_lt n m) [
      | inl o ↦ (let a = mul-le (n + 1) L m L (omega arith) (omega arith) in let b = add-mul n 1 L in absurd (omega arith))
      | inr o ↦ o
    ]

-- a number below 2^16 by its top byte and the top of its low byte
parts : (c L B : ℕ) → c < 2 ^ 16 → 0 < L → B * L ≡ 256 → (c ≡ (c / 256 % 256 * 256 + c % 256 / L % B * L) + c % 256 % L) × (c % 256 % L < L)
parts c L B h l k =
    let d = div-add-mod' (c % 256) L in
    let o : c % 256 < B * L = omega arith in
    let t : c % 256 / L % B ≡ c % 256 / L = mod-eq_of_lt (div_below (c % 256) L B l o) in
    let q : c % 256 / L % B * L ≡ c % 256 / L * L = ap (λ x. x * L) t in
    let top : c ≡ c / 256 % 256 * 256 + c % 256 = omega arith in
    (top ∙ omega (arith, d, q), mod_below (c % 256) L l)

shifts : (w : ℕ) → Known w → (w * (8 / w - 1 - 0) ≡ ls w) × (2 ^ w * 2 ^ ls w ≡ 256)
shifts = by_width (λ w. (w * (8 / w - 1 - 0) ≡ ls w) × (2 ^ w * 2 ^ ls w ≡ 256)) (refl, refl) (refl, refl) (refl, refl) (refl, refl)

sum_order : (m n w : ℕ) → Known w → m * 2 ^ ls w < 2 ^ 16 → n * 2 ^ ls w < 2 ^ 16 →
    (m * 2 ^ ls w) / 256 % 256 ≤ (n * 2 ^ ls w) / 256 % 256 →
    (m * 2 ^ ls w) % 256 / 2 ^ ls w % 2 ^ w ≤ (n * 2 ^ ls w) % 256 / 2 ^ ls w % 2 ^ w → m ≤ n
sum_order m n w W a b hi lo =
    let L = 2 ^ ls w in
    let x = parts (m * L) L (2 ^ w) a (pow_pos (ls w)) (shifts w W).1 in
    let y = parts (n * L) L (2 ^ w) b (pow_pos (ls w)) (shifts w W).1 in
    let z = mul-le ((m * L) % 256 / L % 2 ^ w) L ((n * L) % 256 / L % 2 ^ w) L lo (omega arith) in
    order L m n ((m * L) / 256 % 256 * 256 + (m * L) % 256 / L % 2 ^ w * L) ((m * L) % 256 % L) x.0 x.1
    (below (n * L) ((m * L) / 256 % 256) ((n * L) / 256 % 256) ((m * L) % 256 / L % 2 ^ w * L) ((n * L) % 256 / L % 2 ^ w * L) ((n * L) % 256 % L) y.0 hi z)
  where
    below : (c h h' t t' e : ℕ) → c ≡ (h' * 256 + t') + e → h ≤ h' → t ≤ t' → h * 256 + t ≤ c
    below c h h' t t' e p q r = omega arith

last_digit : (w : ℕ) → Known w → 8 / w * 33 + 0 < p w
last_digit = by_width (λ w. 8 / w * 33 + 0 < p w) (omega arith) (omega arith) (omega arith) (omega arith)

in_front : (a r w : ℕ) → a < 32 → Known w → r < 8 / w → 8 / w * a + r < u w
in_front a r w h =
    by_width (λ w. r < 8 / w → 8 / w * a + r < u w) (λ l. omega arith) (λ l. omega arith) (λ l. omega arith) (λ l. omega arith) w

counts : (w : ℕ) → Known w → (u w ≡ 8 / w * 32) × (v w ≡ 8 / w + 1) × (0 < 8 / w)
counts = by_width (λ w. (u w ≡ 8 / w * 32) × (v w ≡ 8 / w + 1) × (0 < 8 / w)) (refl, refl, omega arith) (refl, refl, omega arith) (refl, refl, omega arith) (refl, refl, omega arith)

byte_32 : (Q : List ℕ) (c : ℕ) → length Q ≡ 32 → get_or (Q ++ u16str c) 32 0 ≡ c / 256 % 256
byte_32 Q c l = get_or-append_right Q (u16str c) 32 32 0 l (omega arith)

byte_33 : (Q : List ℕ) (c : ℕ) → length Q ≡ 32 → get_or (Q ++ u16str c) 33 0 ≡ c % 256
byte_33 Q c l = get_or-append_right Q (u16str c) 32 33 0 l (omega arith)

module _
    (w : ℕ) (W : Known w) (Q R : List ℕ) (lQ : length Q ≡ 32) (lR : length R ≡ 32)
    (bQ : (i : ℕ) → get_or Q i 0 < 256) (bR : (i : ℕ) → get_or R i 0 < 256)
    (le : (i : ℕ) → i < p w → digit w Q i ≤ digit w R i)
  where
    sums_le : missing w Q (u w) ≤ missing w R (u w)
    unfolding digit
    sums_le =
        let k = counts w W in
        let S = Q ++ u16str (checksum w Q) in
        let T = R ++ u16str (checksum w R) in
        let hi : get_or S 32 0 ≤ get_or T 32 0 =
        byte_le S T 32 w W (omega (arith, byte_32 Q (checksum w Q) lQ)) (omega (arith, byte_32 R (checksum w R) lR)) (λ r h. le (8 / w * 32 + r) (omega arith)) in
        let lo : get_or S 33 0 / 2 ^ (w * (8 / w - 1 - 0)) % 2 ^ w ≤ get_or T 33 0 / 2 ^ (w * (8 / w - 1 - 0)) % 2 ^ w =
        subst₂ (λ x y. x ≤ y) (coef_at S 33 0 w W k.2) (coef_at T 33 0 w W k.2) (le (8 / w * 33 + 0) (last_digit w W)) in
        sum_order (missing w Q (u w)) (missing w R (u w)) w W (checksum_small Q w W) (checksum_small R w W)
        (subst₂ (λ x y. x ≤ y) (byte_32 Q (checksum w Q) lQ) (byte_32 R (checksum w R) lR) hi)
        (subst (λ n. checksum w Q % 256 / 2 ^ n % 2 ^ w ≤ checksum w R % 256 / 2 ^ n % 2 ^ w) (shifts w W).0
        (subst₂ (λ x y. x / 2 ^ (w * (8 / w - 1 - 0)) % 2 ^ w ≤ y / 2 ^ (w * (8 / w - 1 - 0)) % 2 ^ w) (byte_33 Q (checksum w Q) lQ) (byte_33 R (checksum w R) lR) lo))

    front_le : (i : ℕ) → i < u w → coef w Q i ≤ coef w R i
    front_le i h = subst₂ (λ x y. x ≤ y) (front Q i w lQ W h) (front R i w lR W h) (le i (omega arith))

    front_same : (i : ℕ) → i < u w → coef w Q i ≡ coef w R i
    front_same = all_equal w Q R (u w) front_le sums_le

    pub same : Q ≡ R
    same =
        ext_get_or 0 Q R (lQ ∙ sym lR)
        (λ a h.
        let o : a < 32 = omega arith in
        le_antisymm
        (byte_le Q R a w W (bQ a) (bR a) (λ r l. omega (arith, front_same (8 / w * a + r) (in_front a r w o W l))))
        (byte_le R Q a w W (bR a) (bQ a) (λ r l. omega (arith, front_same (8 / w * a + r) (in_front a r w o W l)))))

larger : (w : ℕ) → Known w → (Q R : List ℕ) → length Q ≡ 32 → length R ≡ 32 →
    ((i : ℕ) → get_or Q i 0 < 256) → ((i : ℕ) → get_or R i 0 < 256) → (Q ≡ R → ⊥) → (i : ℕ) × (i < p w) × (digit w R i < digit w Q i)
larger w W Q R lQ lR bQ bR n =
    elim (found (digit w Q) (digit w R) (p w)) [ inl h ↦ h | inr h ↦ absurd (n (same w W Q R lQ lR bQ bR h)) ]

pub checksum_guards : ChecksumGuards
checksum_guards width Q R lQ lR bQ bR n =
    let k = known width in
    (larger _ k Q R lQ lR bQ bR n, larger _ k R Q lR lQ bR bQ (λ e. n (sym e)))
