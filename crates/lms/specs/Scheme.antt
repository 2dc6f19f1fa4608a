-- What a ring needs of a one-time scheme and its tree, in names of its own.
-- I is the identifier, q the number of a key, h the height, w the width; ots and tree are the bases
-- of the hash's codes.
use Rattle.std.specs.Prelude.{◌≡◌, ℕ, ◌^◌, ◌<◌, ◌≤◌, Bool, true, List, length}
use Rattle.rows.specs.Bytes.{rows}
use Rattle.sizes.specs.declared.height.Height.{Height}
use Rattle.sizes.specs.declared.width.Width.{Width}
use Rattle.sizes.specs.Sizes.{levels, bits}
use Rattle.lmots.specs.LmOts as one
use Rattle.lms.specs.Lms as lms

-- how many keys a tree has, how many components a key has, and how many positions a component has
abbrev pub keys : ℕ → ℕ
keys h = 2 ^ h

abbrev pub components : ℕ → ℕ
components w = one.p w

abbrev pub positions : ℕ → ℕ
positions w = 2 ^ w

-- the most bytes of a message
abbrev pub longest : ℕ
longest = lms.longest

-- the position that a digest selects in component i
abbrev pub position : ℕ → List ℕ → ℕ → ℕ
position = one.digit

-- how many bytes a root and a signature have
abbrev pub root_size : ℕ
root_size = lms.root_length

abbrev pub signature_size : ℕ → ℕ → ℕ
signature_size = lms.signature_length

-- the signature that a key's number, a prefix, one row of each component and a path make up
abbrev pub assembled : ℕ → ℕ → ℕ → ℕ → ℕ → List ℕ → List ℕ → List ℕ → List ℕ
assembled = lms.layout

module _ (hashed : List ℕ → List ℕ) where
  -- the digest of identifier, key, prefix and message
  abbrev pub digest : List ℕ → ℕ → List ℕ → List ℕ → List ℕ
  digest = one.digest hashed

  -- a key's prefix, its row at a position of a component, all these rows, and its path by level
  abbrev pub prefix : List ℕ → List ℕ → ℕ → List ℕ
  prefix = one.prefix hashed

  abbrev pub component : List ℕ → List ℕ → ℕ → ℕ → ℕ → List ℕ
  component = one.X hashed

  abbrev pub all_components : List ℕ → List ℕ → ℕ → ℕ → List ℕ
  all_components I seed w q = rows (components w) (λ i. rows (positions w) (component I seed q i))

  abbrev pub path_row : List ℕ → List ℕ → ℕ → ℕ → ℕ → ℕ → List ℕ
  path_row = lms.path_of hashed

  -- the rows of the components at the positions that a digest selects
  abbrev pub selected : List ℕ → List ℕ → ℕ → ℕ → List ℕ → List ℕ
  selected I seed w q Q = rows (components w) (λ i. component I seed q i (position w Q i))

  module _ (ots tree : ℕ) where
    -- the root, the dealer's signature, and the verdict on a signature
    abbrev pub root : ℕ → ℕ → List ℕ → List ℕ → List ℕ
    root = lms.root hashed ots tree

    abbrev pub signature : ℕ → ℕ → List ℕ → List ℕ → ℕ → List ℕ → List ℕ
    signature = lms.signature hashed ots tree

    abbrev pub verdict : List ℕ → List ℕ → List ℕ → Bool
    verdict = lms.accepts hashed ots tree

-- what holds of them, over every hash of 32 bytes whose codes are small
pub record Holds (hashed : List ℕ → List ℕ) (ots tree : ℕ) : Type 0 where
  -- the dealer's signature is the assembly of key, prefix, selected components and path
  pub assembles : (h w : ℕ) (I seed : List ℕ) (q : ℕ) (message : List ℕ) →
      let C = prefix hashed I seed q in
      signature hashed ots tree h w I seed q message
      ≡ assembled ots tree h w q C (selected hashed I seed w q (digest hashed I q C message))
      (rows h (path_row hashed I seed h w q))
  -- and the verdict on it is yes
  pub verifies : (height : Height) (width : Width) (I seed : List ℕ) → length I ≡ 16 →
      (q : ℕ) → q < keys (levels height) → (message : List ℕ) → length message ≤ longest →
      verdict hashed ots tree (root hashed ots tree (levels height) (bits width) I seed) message
      (signature hashed ots tree (levels height) (bits width) I seed q message) ≡ true
  -- a position lies on its component
  pub within : (w : ℕ) (Q : List ℕ) (i : ℕ) → position w Q i < positions w
  -- every row has 32 bytes
  pub prefix_long : (I seed : List ℕ) (q : ℕ) → length (prefix hashed I seed q) ≡ 32
  pub component_long : (I seed : List ℕ) (q i j : ℕ) → length (component hashed I seed q i j) ≡ 32
  pub path_long : (I seed : List ℕ) (h w q k : ℕ) → length (path_row hashed I seed h w q k) ≡ 32
  pub digest_long : (I : List ℕ) (q : ℕ) (C message : List ℕ) →
      length (digest hashed I q C message) ≡ 32
  -- and the whole have their lengths
  pub root_long : (h w : ℕ) (I seed : List ℕ) → length I ≡ 16 →
      length (root hashed ots tree h w I seed) ≡ root_size
  pub signature_long : (h w : ℕ) (I seed : List ℕ) → length I ≡ 16 → (q : ℕ) (message : List ℕ) →
      length (signature hashed ots tree h w I seed q message) ≡ signature_size h w
  -- the verdict is yes only on a root and a signature of these lengths
  pub root_sized : (key message sig : List ℕ) → verdict hashed ots tree key message sig ≡ true →
      length key ≡ root_size
  pub signature_sized : (key message sig : List ℕ) →
      verdict hashed ots tree key message sig ≡ true →
      (height : Height) × (width : Width)
      × (length sig ≡ signature_size (levels height) (bits width))
  -- and on a message that is not too long
  pub bounded : (key message sig : List ℕ) → verdict hashed ots tree key message sig ≡ true →
      length message ≤ longest
