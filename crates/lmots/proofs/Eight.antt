-- A lane stepped as its chain.
use Rattle.std.proofs.Common.{◌≡◌, ℕ, ◌+◌, List, ◌++◌, sym, refl, ap, ◌∙◌, append_assoc, zero-add, add-one}
use Rattle.rows.specs.Bytes.{u8str, u16str, u32str}
use Rattle.lmots.specs.LmOts.{chain}

-- what a step hashes, with the bytes of key and chain in one piece
pub pieces : (I a b j x : List ℕ) → I ++ (a ++ b ++ j ++ x) ≡ I ++ a ++ b ++ j ++ x
pieces I a b j x = simp append_assoc

module _ (hashed : List ℕ → List ℕ) (I : List ℕ) (q i : ℕ) (x : List ℕ) where
  pub walk_none : x ≡ chain hashed I q i 0 0 x
  unfolding chain
  walk_none = refl

  pub walk_more : (j : ℕ) → hashed (I ++ u32str q ++ u16str i ++ u8str j ++ chain hashed I q i 0 j x) ≡ chain hashed I q i 0 (j + 1) x
  unfolding chain
  walk_more j =
      ap (λ k. hashed (I ++ u32str q ++ u16str i ++ u8str k ++ chain hashed I q i 0 j x)) (sym (zero-add j))
      ∙ ap (λ n. chain hashed I q i 0 n x) (sym (add-one j))
