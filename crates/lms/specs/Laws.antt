-- What holds of every key and message.
use Rattle.std.specs.Prelude.{◌≡◌, ℕ, ◌+◌, ◌^◌, ◌<◌, ◌≤◌, true, List, length}
use Rattle.sizes.specs.declared.height.Height.{Height}
use Rattle.sizes.specs.declared.width.Width.{Width}
use Rattle.sizes.specs.Sizes.{levels, bits}
use Rattle.lms.specs.Lms.{climbed, node, path_of, root_length, signature_length, longest, root, signature_with, accepts}

-- a leaf with its path gives the root
abbrev pub LeafToRoot : Type 0
LeafToRoot =
    (hashed : List ℕ → List ℕ) (I seed : List ℕ) (h w q : ℕ) → q < 2 ^ h →
    (path : ℕ → List ℕ) → ((k : ℕ) → k < h → path k ≡ path_of hashed I seed h w q k) →
    climbed hashed I path (2 ^ h + q) (node hashed I seed h w 0 (2 ^ h + q)) h
    ≡ node hashed I seed h w h 1

-- what is signed is accepted, under any prefix C
abbrev pub SigningSound : Type 0
SigningSound =
    (hashed : List ℕ → List ℕ) → ((m : List ℕ) → length (hashed m) ≡ 32) →
    (ots tree : ℕ) → ots < 2 ^ 16 → tree < 2 ^ 16 →
    (height : Height) (width : Width) (I seed C : List ℕ) → length I ≡ 16 → length C ≡ 32 →
    (q : ℕ) → q < 2 ^ levels height →
    (message : List ℕ) → length message ≤ longest →
    accepts hashed ots tree (root hashed ots tree (levels height) (bits width) I seed) message
    (signature_with hashed ots tree (levels height) (bits width) I seed q C message)
    ≡ true

-- a signature has the length that its height and width tell, and a root the one that every root has
abbrev pub LengthsHold : Type 0
LengthsHold =
    (hashed : List ℕ → List ℕ) → ((m : List ℕ) → length (hashed m) ≡ 32) →
    (ots tree h w : ℕ) (I seed C : List ℕ) → length I ≡ 16 → length C ≡ 32 →
    (q : ℕ) (message : List ℕ) →
    (length (signature_with hashed ots tree h w I seed q C message) ≡ signature_length h w)
    × (length (root hashed ots tree h w I seed) ≡ root_length)

pub record Figures : Type 0 where
  pub short : signature_length 5 4 ≡ 2348
  pub tall : signature_length 10 8 ≡ 1452
