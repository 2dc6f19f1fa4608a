-- What holds of every one-time key and digest.
use Rattle.std.specs.Prelude.{◌≡◌, ℕ, ◌-◌, ◌*◌, ◌^◌, ◌<◌, ◌≤◌, List, [], ◌∷◌, map, length, replicate, ◌≢◌, slice_index}
use Rattle.std.specs.List.{range_with_len}
use Rattle.sizes.specs.declared.width.Width.{Width}
use Rattle.sizes.specs.Sizes.{bits}
use Rattle.lmots.specs.LmOts.{u, v, p, ls, coef, digit, chain}

-- a chain cut in two at the step d is the chain
abbrev pub ChainCut : Type 0
ChainCut =
    (hashed : List ℕ → List ℕ) (I : List ℕ) (q i : ℕ) (x : List ℕ) (d e : ℕ) → d ≤ e →
    chain hashed I q i d (e - d) (chain hashed I q i 0 d x) ≡ chain hashed I q i 0 e x

-- of two different digests, some digit of the first is larger and some is smaller, those of the
-- checksum included
abbrev pub ChecksumGuards : Type 0
ChecksumGuards =
    (width : Width) (Q R : List ℕ) → length Q ≡ 32 → length R ≡ 32 →
    ((i : ℕ) → slice_index Q i < 256) → ((i : ℕ) → slice_index R i < 256) → (Q ≢ R) →
    ((i : ℕ) × (i < p (bits width)) × (digit (bits width) R i < digit (bits width) Q i))
    × ((i : ℕ) × (i < p (bits width)) × (digit (bits width) Q i < digit (bits width) R i))

-- the digits of the checksum
abbrev pub sum_digits : ℕ → List ℕ → List ℕ
sum_digits w Q = map (digit w Q) (range_with_len (u w) (v w))

abbrev pub zeros : List ℕ
zeros = replicate 32 0

pub record Figures : Type 0 where
  pub nibble : coef 4 (0x12 ∷ 0x34 ∷ []) 0 ≡ 1
  pub bit : coef 1 (0x12 ∷ 0x34 ∷ []) 7 ≡ 0
  pub chains : map p (1 ∷ 2 ∷ 4 ∷ 8 ∷ []) ≡ 265 ∷ 133 ∷ 67 ∷ 34 ∷ []
  pub shifts : map ls (1 ∷ 2 ∷ 4 ∷ 8 ∷ []) ≡ 7 ∷ 6 ∷ 4 ∷ 0 ∷ []
  -- v digits hold the largest sum, and fewer do not
  pub enough : (width : Width) →
      (2 ^ bits width - 1) * u (bits width) < 2 ^ (v (bits width) * bits width)
  pub least : (width : Width) →
      2 ^ ((v (bits width) - 1) * bits width) ≤ (2 ^ bits width - 1) * u (bits width)
  pub sums1 : sum_digits 1 zeros ≡ 1 ∷ 0 ∷ 0 ∷ 0 ∷ 0 ∷ 0 ∷ 0 ∷ 0 ∷ 0 ∷ []
  pub sums2 : sum_digits 2 zeros ≡ 1 ∷ 2 ∷ 0 ∷ 0 ∷ 0 ∷ []
  pub sums4 : sum_digits 4 zeros ≡ 3 ∷ 12 ∷ 0 ∷ []
  pub sums8 : sum_digits 8 zeros ≡ 31 ∷ 224 ∷ []
