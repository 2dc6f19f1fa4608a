-- Acceptance, in the words of its parts.
use Rattle.std.specs.Prelude.{◌≡◌, ℕ, ◌^◌, ◌<◌, ◌≤◌, List, length}
use Rattle.rows.specs.Bytes.{rows}
use Rattle.sizes.specs.declared.height.Height.{Height}
use Rattle.sizes.specs.declared.width.Width.{Width}
use Rattle.sizes.specs.Sizes.{levels, bits}
use Rattle.lmots.specs.LmOts.{p}
use Rattle.lms.specs.Lms.{root_layout, layout, longest, candidate_root}

-- a root of some height and width, and a signature of a message that leads to its topmost node
pub record Accepted (hashed : List ℕ → List ℕ) (ots tree : ℕ)
    (root message sig : List ℕ) : Type 0 where
  pub height : Height
  pub width : Width
  pub I : List ℕ
  pub N : List ℕ
  pub i_long : length I ≡ 16
  pub n_long : length N ≡ 32
  pub root_laid : root ≡ root_layout ots tree (levels height) (bits width) I N
  pub message_short : length message ≤ longest
  pub q : ℕ
  pub q_below : q < 2 ^ levels height
  pub C : List ℕ
  pub c_long : length C ≡ 32
  pub y : ℕ → List ℕ
  pub y_long : (i : ℕ) → i < p (bits width) → length (y i) ≡ 32
  pub path : ℕ → List ℕ
  pub path_long : (k : ℕ) → k < levels height → length (path k) ≡ 32
  pub sig_laid : sig ≡ layout ots tree (levels height) (bits width) q C
      (rows (p (bits width)) y) (rows (levels height) path)
  pub reached : candidate_root hashed I (levels height) (bits width) q C message y path ≡ N
