-- LMS as RFC 8554 has it, over any hash of 32 bytes (m = 32). I is the identifier, q the number of
-- a leaf, h the height and w the width.
use Rattle.std.specs.Prelude.{ℕ, zero, suc, ◌+◌, ◌-◌, ◌*◌, ◌/◌, ◌%◌, ◌^◌, Bool, false, cond, ◌&&◌, List, ◌++◌, length, Some, None, Option, ◌==◌, bit_xor, nat_le, nat_lt}
use Rattle.std.specs.Str.{bytes_eq}
use Rattle.rows.specs.Bytes.{u16str, u32str, str_to_u32, part, row_at, rows}
use Rattle.lmots.specs.LmOts.{p, digit, digest, candidate_key, X, prefix, public_key}

module _ (hashed : List ℕ → List ℕ) (I : List ℕ) where
  -- ---- 5.3: the tree's nodes, by number (D_LEAF and D_INTR)
  unfoldable pub leaf_node : ℕ → List ℕ → List ℕ
  leaf_node r key = hashed (I ++ u32str r ++ u16str 0x8282 ++ key)

  unfoldable pub inner_node : ℕ → List ℕ → List ℕ → List ℕ
  inner_node r left right = hashed (I ++ u32str r ++ u16str 0x8383 ++ left ++ right)

  -- ---- 5.4.2, Algorithm 6a: the node n levels above the leaf r, from the leaf's value and the
  -- rows of a path
  unfoldable pub climbed : (ℕ → List ℕ) → ℕ → List ℕ → ℕ → List ℕ
  climbed path r leaf zero = leaf
  climbed path r leaf (suc n) =
      cond (r / 2 ^ n % 2 == 1)
      (inner_node (r / 2 ^ suc n) (path n) (climbed path r leaf n))
      (inner_node (r / 2 ^ suc n) (climbed path r leaf n) (path n))

  -- the candidate for the root, from the prefix C, the rows y and the path of a signature
  abbrev pub candidate_root : ℕ → ℕ → ℕ → List ℕ → List ℕ → (ℕ → List ℕ) → (ℕ → List ℕ) → List ℕ
  candidate_root h w q C message y path =
      climbed path (2 ^ h + q)
      (leaf_node (2 ^ h + q) (candidate_key hashed I w q (digest hashed I q C message) y)) h

  module _ (seed : List ℕ) where
    -- ---- 5.3: T[r], for a node r that is k levels above the leaves
    unfoldable pub node : ℕ → ℕ → ℕ → ℕ → List ℕ
    node h w zero r = leaf_node r (public_key hashed I seed w (r - 2 ^ h))
    node h w (suc k) r = inner_node r (node h w k (2 * r)) (node h w k (2 * r + 1))

    -- ---- 5.4.1: the path of leaf q, level by level
    abbrev pub path_of : ℕ → ℕ → ℕ → ℕ → List ℕ
    path_of h w q k = node h w k (bit_xor ((2 ^ h + q) / 2 ^ k) 1)

-- ---- the codes, each from a base on: LM-OTS's for w = 1, 2, 4, 8 and the tree's for h = 5, 10
abbrev pub ots_code : ℕ → ℕ → ℕ
ots_code ots w = ots + cond (w == 1) 0 (cond (w == 2) 1 (cond (w == 4) 2 3))

abbrev pub tree_code : ℕ → ℕ → ℕ
tree_code tree h = tree + cond (h == 5) 0 1

-- what a code stands for
abbrev pub width_of : ℕ → ℕ → Option ℕ
width_of ots c =
    cond (c == ots) (Some 1)
    (cond (c == ots + 1) (Some 2)
    (cond (c == ots + 2) (Some 4)
    (cond (c == ots + 3) (Some 8) None)))

abbrev pub height_of : ℕ → ℕ → Option ℕ
height_of tree c = cond (c == tree) (Some 5) (cond (c == tree + 1) (Some 10) None)

-- ---- 5.3 and 5.4: the layout of a root, of identifier I and topmost node N, and of a signature,
-- of prefix C, rows Y and path P
abbrev pub root_layout : ℕ → ℕ → ℕ → ℕ → List ℕ → List ℕ → List ℕ
root_layout ots tree h w I N = u32str (tree_code tree h) ++ u32str (ots_code ots w) ++ I ++ N

abbrev pub layout : ℕ → ℕ → ℕ → ℕ → ℕ → List ℕ → List ℕ → List ℕ → List ℕ
layout ots tree h w q C Y P =
    u32str q ++ u32str (ots_code ots w) ++ C ++ Y ++ u32str (tree_code tree h) ++ P

-- how many bytes these have
abbrev pub root_length : ℕ
root_length = 56

abbrev pub signature_length : ℕ → ℕ → ℕ
signature_length h w = 44 + 32 * p w + 32 * h

-- the most bytes of a message; the RFC has no bound
abbrev pub longest : ℕ
longest = 65536

-- ---- 5.4.2, Algorithms 6 and 6a, at the height and the width for which the root's codes stand
unfoldable pub accepts_as : (List ℕ → List ℕ) → List ℕ → List ℕ → List ℕ → ℕ → ℕ → Bool
accepts_as hashed key message sig h w =
    (length sig == signature_length h w)
    && str_to_u32 (part 4 4 sig) == str_to_u32 (part 4 4 key)
    && str_to_u32 (part (40 + 32 * p w) 4 sig) == str_to_u32 (part 0 4 key)
    && nat_lt (str_to_u32 (part 0 4 sig)) (2 ^ h)
    && bytes_eq (part 24 32 key)
    (candidate_root hashed (part 8 16 key) h w (str_to_u32 (part 0 4 sig)) (part 8 32 sig) message
    (λ i. row_at i (part 40 (32 * p w) sig))
    (λ k. row_at k (part (44 + 32 * p w) (32 * h) sig)))

-- a test of what a code stands for; one that stands for nothing fails it
abbrev pub given : Option ℕ → (ℕ → Bool) → Bool
given None test = false
given (Some n) test = test n

module _ (hashed : List ℕ → List ℕ) (ots tree : ℕ) where
  -- ---- 5.3: the root of a seed
  unfoldable pub root : ℕ → ℕ → List ℕ → List ℕ → List ℕ
  root h w I seed = root_layout ots tree h w I (node hashed I seed h w h 1)

  -- ---- 5.4.1: the signature of a message by leaf q under the prefix C
  unfoldable pub signature_with : ℕ → ℕ → List ℕ → List ℕ → ℕ → List ℕ → List ℕ → List ℕ
  signature_with h w I seed q C message =
      layout ots tree h w q C
      (rows (p w) (λ i. X hashed I seed q i (digit w (digest hashed I q C message) i)))
      (rows h (path_of hashed I seed h w q))

  -- and under the prefix that this ring makes of the seed by the formula of Appendix A, where the
  -- RFC leaves it free
  abbrev pub signature : ℕ → ℕ → List ℕ → List ℕ → ℕ → List ℕ → List ℕ
  signature h w I seed q message = signature_with h w I seed q (prefix hashed I seed q) message

  -- ---- 5.4.2: whether a root accepts a signature of a message
  abbrev pub accepts : List ℕ → List ℕ → List ℕ → Bool
  accepts key message sig =
      nat_le (length message) longest && length key == root_length
      && given (height_of tree (str_to_u32 (part 0 4 key)))
      (λ h. given (width_of ots (str_to_u32 (part 4 4 key))) (accepts_as hashed key message sig h))
