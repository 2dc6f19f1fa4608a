-- LM-OTS as RFC 8554 has it, over any hash of 32 bytes (n = 32). I is the identifier and q the
-- number of the one-time key.
use Rattle.std.specs.Prelude.{ℕ, zero, suc, ◌+◌, ◌-◌, ◌*◌, ◌/◌, ◌%◌, ◌^◌, cond, List, ◌++◌, ◌==◌, bit_and, slice_index}
use Rattle.rows.specs.Bytes.{u8str, u16str, u32str, rows}

-- ---- 3.1.3: digit i of a string, in digits of w bits
abbrev pub coef : ℕ → List ℕ → ℕ → ℕ
coef w s i = bit_and (2 ^ w - 1) (slice_index s (i * w / 8) / 2 ^ (8 - (w * (i % (8 / w)) + w)))

-- ---- 4.1 and Appendix B: u digits of a digest and v of its checksum, p in all; the checksum is
-- shifted left by ls
abbrev pub u : ℕ → ℕ
u w = 256 / w

abbrev pub v : ℕ → ℕ
v w = cond (w == 1) 9 (cond (w == 2) 5 (cond (w == 4) 3 2))

abbrev pub p : ℕ → ℕ
p w = u w + v w

abbrev pub ls : ℕ → ℕ
ls w = 16 - v w * w

-- ---- 4.4: the checksum, the sum of what each digit lacks of the largest
unfoldable pub missing : ℕ → List ℕ → ℕ → ℕ
missing w s zero = 0
missing w s (suc i) = missing w s i + (2 ^ w - 1 - coef w s i)

abbrev pub checksum : ℕ → List ℕ → ℕ
checksum w s = missing w s (u w) * 2 ^ ls w

-- digit i of a digest with its checksum behind it
unfoldable pub digit : ℕ → List ℕ → ℕ → ℕ
digit w Q i = coef w (Q ++ u16str (checksum w Q)) i

module _ (hashed : List ℕ → List ℕ) (I : List ℕ) where
  -- ---- 4.3 and 4.5: n steps of chain i, from the step a on
  unfoldable pub chain : ℕ → ℕ → ℕ → ℕ → List ℕ → List ℕ
  chain q i a zero x = x
  chain q i a (suc n) x = hashed (I ++ u32str q ++ u16str i ++ u8str (a + n) ++ chain q i a n x)

  -- ---- 4.3: the one-time public key from the ends of its chains (D_PBLK)
  unfoldable pub one_time_key : ℕ → List ℕ → List ℕ
  one_time_key q ends = hashed (I ++ u32str q ++ u16str 0x8080 ++ ends)

  -- ---- 4.5: the digest of a message under the prefix C (D_MESG)
  unfoldable pub digest : ℕ → List ℕ → List ℕ → List ℕ
  digest q C message = hashed (I ++ u32str q ++ u16str 0x8181 ++ C ++ message)

  -- ---- 4.6, Algorithm 4b: the candidate for the one-time public key, from a signature's rows y
  abbrev pub candidate_key : ℕ → ℕ → List ℕ → (ℕ → List ℕ) → List ℕ
  candidate_key w q Q y =
      one_time_key q (rows (p w) (λ i. chain q i (digit w Q i) (2 ^ w - 1 - digit w Q i) (y i)))

  -- ---- Appendix A: a one-time key from a seed
  module _ (seed : List ℕ) where
    -- X[i][0]
    unfoldable pub start : ℕ → ℕ → List ℕ
    start q i = hashed (I ++ u32str q ++ u16str i ++ u8str 0xff ++ seed)

    -- X[i][j], the row at position j of chain i
    abbrev pub X : ℕ → ℕ → ℕ → List ℕ
    X q i j = chain q i 0 j (start q i)

    -- the prefix C is the same formula at 0xfffd
    abbrev pub prefix : ℕ → List ℕ
    prefix q = start q 0xfffd

    -- ---- 4.3: the one-time public key
    abbrev pub public_key : ℕ → ℕ → List ℕ
    public_key w q = one_time_key q (rows (p w) (λ i. X q i (2 ^ w - 1)))

    -- all positions of all chains of key q, chain by chain
    abbrev pub positions : ℕ → ℕ → List ℕ
    positions w q = rows (p w) (λ i. rows (2 ^ w) (X q i))
