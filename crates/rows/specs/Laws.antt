-- How strings of bytes are added, and the rows in them.
use Rattle.std.specs.Prelude.{◌≡◌, ℕ, ◌*◌, ◌<◌, ◌≤◌, List, ◌++◌, length, replicate}
use Rattle.rows.specs.Bytes.{Bytes, part, row_at, rows, xored}

pub record Sums : Type 0 where
  -- adding twice undoes it
  pub back : (a b : List ℕ) → xored (xored a b) b ≡ a
  -- in any order
  pub order : (a b c : List ℕ) → xored (xored a b) c ≡ xored (xored a c) b
  -- the length stays
  pub long : (a b : List ℕ) → length (xored a b) ≡ length a
  -- equally long strings may change places
  pub commutes : (a b : List ℕ) → length a ≡ length b → xored a b ≡ xored b a
  -- a sum may be added as a whole, where its first string is as long as its second or longer
  pub regroups : (a b c : List ℕ) → length c ≤ length b → xored (xored a b) c ≡ xored a (xored b c)
  -- a string added to itself leaves zeros
  pub undone : (a : List ℕ) → xored a a ≡ replicate (length a) 0
  -- zeros add nothing, on either side
  pub zeros_right : (a : List ℕ) (n : ℕ) → xored a (replicate n 0) ≡ a
  pub zeros_left : (a : List ℕ) (n : ℕ) → length a ≡ n → xored (replicate n 0) a ≡ a
  -- what is added on both sides cancels
  pub cancels : (a b d : List ℕ) → length d ≤ length b → xored (xored a d) (xored b d) ≡ xored a b
  -- the sum of two strings is what turns the one into the other
  pub difference : (a b : List ℕ) → length a ≡ length b → xored a (xored a b) ≡ b
  -- bytes stay bytes
  pub bytes : (a b : List ℕ) → Bytes a → Bytes b → Bytes (xored a b)

pub record RowSums : Type 0 where
  -- a part of a sum is the sum of the parts, whatever the lengths, and so is a row of it
  pub of_part : (at n : ℕ) (a b : List ℕ) →
      part at n (xored a b) ≡ xored (part at n a) (part at n b)
  pub of_row : (n : ℕ) (a b : List ℕ) → row_at n (xored a b) ≡ xored (row_at n a) (row_at n b)
  -- a string of n rows is added row by row
  pub by_rows : (n : ℕ) (a b : List ℕ) → length a ≡ 32 * n →
      xored a b ≡ rows n (λ i. xored (row_at i a) (row_at i b))
  -- what lies behind equally long strings is added apart from them
  pub joined : (a b c d : List ℕ) → length a ≡ length b →
      xored (a ++ c) (b ++ d) ≡ xored a b ++ xored c d
  -- and rows that lie one behind another are added each to its own
  pub laid : (n : ℕ) (f g : ℕ → List ℕ) → ((i : ℕ) → i < n → length (f i) ≡ length (g i)) →
      xored (rows n f) (rows n g) ≡ rows n (λ i. xored (f i) (g i))
