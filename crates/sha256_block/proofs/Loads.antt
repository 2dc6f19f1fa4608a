-- A block cut into words.
use Rattle.std.proofs.Common.{◌≡◌, ℕ, zero, suc, ◌+◌, ◌*◌, ◌<◌, List, [], get_or, drop, ap, ◌∙◌, arith}
use Rattle.std.proofs.lemmas.List.{get_or-take, get_or-drop}
use Rattle.std.specs.Simd.{first_chunks}
use Rattle.sha256_block.specs.Fips180.{word}

byte_at : (b : List ℕ) (n t j i : ℕ) → t < n → j < 4 → 4 * t + j ≡ i → get_or (get_or (first_chunks 4 n b) t []) j 0 ≡ get_or b i 0
byte_at b zero t j i h k e = absurd (omega arith)
byte_at b (suc n) zero j i h k e = get_or-take 4 b j 0 k ∙ ap (λ m. get_or b m 0) (omega arith)
byte_at b (suc n) (suc t) j i h k e = byte_at (drop 4 b) n t j (4 * t + j) (omega arith) k (omega arith) ∙ get_or-drop 4 b (4 * t + j) 0 ∙ ap (λ m. get_or b m 0) (omega arith)

-- the t-th four bytes of a block are its word t
pub word_at : (b : List ℕ) (n t : ℕ) → t < n → word (get_or (first_chunks 4 n b) t []) 0 ≡ word b t
word_at b n t h =
    simp (
      byte_at b n t 0 (4 * t) h (omega arith) (omega arith),
      byte_at b n t 1 (4 * t + 1) h (omega arith) (omega arith),
      byte_at b n t 2 (4 * t + 2) h (omega arith) (omega arith),
      byte_at b n t 3 (4 * t + 3) h (omega arith) (omega arith),
    )
