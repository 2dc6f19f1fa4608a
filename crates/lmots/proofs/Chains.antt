-- A chain cut in two is the chain, and a digit is a place in it.
use Rattle.std.proofs.Common.{◌≡◌, ℕ, zero, suc, ◌+◌, ◌-◌, ◌*◌, ◌/◌, ◌%◌, ◌^◌, ◌≤◌, List, ◌++◌, length, get_or, sym, ap, ◌∙◌, ap₂, fold, add-zero, add_assoc, add-suc, arith}
use Rattle.std.specs.List.{range_with_len}
use lib.Bits.{and_le_l}
use Rattle.rows.specs.Bytes.{u8str, u16str, u32str}
use Rattle.lmots.specs.Laws.{ChainCut}
use Rattle.lmots.specs.LmOts.{chain, coef, checksum, digit}

module _ (hashed : List ℕ → List ℕ) (I : List ℕ) (q i : ℕ) (x : List ℕ) where
  cut : (a b n : ℕ) → chain hashed I q i (a + b) n (chain hashed I q i a b x) ≡ chain hashed I q i a (b + n) x
  unfolding chain
  cut a b zero = ap (λ k. chain hashed I q i a k x) (sym (add-zero b))
  cut a b (suc n) =
      ap₂ (λ j t. hashed (I ++ u32str q ++ u16str i ++ u8str j ++ t)) (add_assoc a b n) (cut a b n)
      ∙ ap (λ k. chain hashed I q i a k x) (sym (add-suc b n))

  -- the steps from a + m on, folded over what the first m steps make
  folded : (a m n : ℕ) → fold (λ y j. hashed (I ++ u32str q ++ u16str i ++ u8str j ++ y)) (chain hashed I q i a m x) (range_with_len (a + m) n) ≡ chain hashed I q i a (m + n) x
  unfolding chain
  folded a m zero = ap (λ k. chain hashed I q i a k x) (sym (add-zero m))
  folded a m (suc n) =
      let e : a + m + 1 ≡ a + suc m = omega arith in
      let d : suc m + n ≡ m + suc n = omega arith in
      ap (λ b. fold (λ y j. hashed (I ++ u32str q ++ u16str i ++ u8str j ++ y)) (chain hashed I q i a (suc m) x) (range_with_len b n)) e
      ∙ folded a (suc m) n ∙ ap (λ k. chain hashed I q i a k x) d

  pub chain_folded : (a n : ℕ) → fold (λ y j. hashed (I ++ u32str q ++ u16str i ++ u8str j ++ y)) x (range_with_len a n) ≡ chain hashed I q i a n x
  unfolding chain
  chain_folded a n =
      let z : 0 + n ≡ n = omega arith in
      let o : a ≡ a + 0 = omega arith in
      ap (λ b. fold (λ y j. hashed (I ++ u32str q ++ u16str i ++ u8str j ++ y)) x (range_with_len b n)) o
      ∙ folded a 0 n ∙ ap (λ k. chain hashed I q i a k x) z

-- from the step d up to the step e, after the first d steps
pub chain_cut : ChainCut
chain_cut hashed I q i x d e h =
    let a : d ≡ 0 + d = omega arith in
    let b : d + (e - d) ≡ e = omega arith in
    ap (λ k. chain hashed I q i k (e - d) (chain hashed I q i 0 d x)) a ∙ cut hashed I q i x 0 d (e - d) ∙ ap (λ k. chain hashed I q i 0 k x) b

pub coef_below : (w : ℕ) (s : List ℕ) (i : ℕ) → coef w s i ≤ 2 ^ w - 1
coef_below w s i = and_le_l (2 ^ w - 1) (get_or s (i * w / 8) 0 / 2 ^ (8 - (w * (i % (8 / w)) + w)))

pub digit_below : (w : ℕ) (Q : List ℕ) (i : ℕ) → digit w Q i ≤ 2 ^ w - 1
unfolding digit
digit_below w Q i = coef_below w (Q ++ u16str (checksum w Q)) i

module _ (hashed : List ℕ → List ℕ) (long : (m : List ℕ) → length (hashed m) ≡ 32) (I : List ℕ) where
  pub length_chain : (q i a n : ℕ) (x : List ℕ) → length x ≡ 32 → length (chain hashed I q i a n x) ≡ 32
  unfolding chain
  length_chain q i a zero x h = h
  length_chain q i a (suc n) x h = long _
