-- Rows of 32 bytes, and the parts of a byte string.
use Rattle.std.proofs.Common.{◌≡◌, ℕ, zero, suc, ◌+◌, ◌-◌, ◌*◌, ◌<◌, ◌≤◌, List, [], ◌++◌, length, get_or, take, drop, sym, refl, ap, ◌∙◌, ap₂, inl, inr, append_assoc, append-nil, add-one, arith, length-append, length-drop, take-add}
use borrow.Rule.Slice.PartMut.{put_mid}
use Rattle.std.proofs.lemmas.List.{take_at, drop_at, drop-drop, take_all, take-append-drop, length-take-le}
use Rattle.std.proofs.lemmas.Bool.{cases_lt}
use Rattle.std.specs.Simd.{first_chunks}
use Rattle.rows.specs.Bytes.{part, row_at, rows}

pub rows_none : (f : ℕ → List ℕ) → rows 0 f ≡ []
unfolding rows
rows_none f = refl

pub rows_more : (n : ℕ) (f : ℕ → List ℕ) → rows (n + 1) f ≡ rows n f ++ f n
unfolding rows
rows_more n f = ap (λ k. rows k f) (add-one n)

pub rows_same : (n : ℕ) (f g : ℕ → List ℕ) → ((i : ℕ) → i < n → f i ≡ g i) → rows n f ≡ rows n g
unfolding rows
rows_same zero f g h = refl
rows_same (suc n) f g h = ap₂ (λ a b. a ++ b) (rows_same n f g (λ i l. h i (omega arith))) (h n (omega arith))

-- equally long rows make equally long strings
pub rows_lengths : (n : ℕ) (f g : ℕ → List ℕ) → ((i : ℕ) → i < n → length (f i) ≡ length (g i)) → length (rows n f) ≡ length (rows n g)
unfolding rows
rows_lengths zero f g h = refl
rows_lengths (suc n) f g h =
    omega (arith, length-append (rows n f) (f n), length-append (rows n g) (g n), rows_lengths n f g (λ i l. h i (omega arith)), h n (omega arith))

module _ (f : ℕ → List ℕ) where
  pub length_rows : (n : ℕ) → ((i : ℕ) → i < n → length (f i) ≡ 32) → length (rows n f) ≡ 32 * n
  unfolding rows
  length_rows zero row = refl
  length_rows (suc n) row = length-append (rows n f) (f n) ∙ omega (arith, length_rows n (λ i l. row i (omega arith)), row n (omega arith))

  -- row k of n rows, with something behind them
  row_of_rows : (n k : ℕ) (rest : List ℕ) → ((i : ℕ) → i < n → length (f i) ≡ 32) → k < n → row_at k (rows n f ++ rest) ≡ f k
  unfolding rows
  row_of_rows zero k rest row h = absurd (omega arith)
  row_of_rows (suc n) k rest row h =
      ap (part (32 * k) 32) (append_assoc (rows n f) (f n) rest)
      ∙ elim (cases_lt k n) [
        | inl l ↦ row_of_rows n k (f n ++ rest) (λ i o. row i (omega arith)) l
        | inr l ↦
            let e : k ≡ n = omega arith in
            let z : length (rows n f) ≡ 32 * k = length_rows n (λ i o. row i (omega arith)) ∙ omega arith in
            ap (take 32) (drop_at (rows n f) (f n ++ rest) (32 * k) z) ∙ take_at (f n) rest 32 (row n (omega arith)) ∙ ap f (sym e)
      ]

  -- row k of n rows
  pub row_of_all : (n k : ℕ) → ((i : ℕ) → i < n → length (f i) ≡ 32) → k < n → row_at k (rows n f) ≡ f k
  row_of_all n k row l = ap (row_at k) (sym (append-nil (rows n f))) ∙ row_of_rows n k [] row l

-- a string cut at n is its first n rows
pub rows_front : (s : List ℕ) (n : ℕ) → 32 * n ≤ length s → take (32 * n) s ≡ rows n (λ i. row_at i s)
unfolding rows
rows_front s zero h = refl
rows_front s (suc n) h =
    let e : 32 * suc n ≡ 32 * n + 32 = omega arith in
    ap (λ k. take k s) e ∙ take-add (32 * n) 32 s ∙ ap (λ t. t ++ row_at n s) (rows_front s n (omega arith))

-- a string of n rows is these rows
pub rows_whole : (s : List ℕ) (n : ℕ) (f : ℕ → List ℕ) → length s ≡ 32 * n → ((i : ℕ) → i < n → row_at i s ≡ f i) → s ≡ rows n f
rows_whole s n f l h = sym (take_all (32 * n) s (omega arith)) ∙ rows_front s n (omega arith) ∙ rows_same n (λ i. row_at i s) f h

-- what lies behind a front
pub part_behind : (front rest : List ℕ) (a m n : ℕ) → length front ≡ a → part (a + m) n (front ++ rest) ≡ part m n rest
part_behind front rest a m n h =
    ap (take n) (sym (drop-drop m a (front ++ rest))) ∙ ap (λ t. part m n t) (drop_at front rest a h)

pub part_front : (x rest : List ℕ) (n : ℕ) → length x ≡ n → part 0 n (x ++ rest) ≡ x
part_front x rest n h = take_at x rest n h

pub part_whole : (x : List ℕ) (n : ℕ) → length x ≡ n → part 0 n x ≡ x
part_whole x n h = take_all n x (omega arith)

-- a part and what lies behind it
pub part_then : (s : List ℕ) (a n : ℕ) → drop a s ≡ part a n s ++ drop (a + n) s
part_then s a n = sym (take-append-drop n (drop a s)) ∙ ap (λ t. part a n s ++ t) (drop-drop n a s)

pub length_part : (s : List ℕ) (a n : ℕ) → a + n ≤ length s → length (part a n s) ≡ n
length_part s a n h = length-take-le n (drop a s) (omega (arith, length-drop a s))

-- bytes written at a place
pub placed : (out bytes new : List ℕ) (at : ℕ) → new ≡ bytes →
    put_mid at (at + length bytes - at) out new ≡ take at out ++ bytes ++ drop (at + length bytes) out
placed out bytes new at e =
    let n : at + length bytes - at ≡ length bytes = omega arith in
    ap₂ (λ x k. take at out ++ (x ++ drop k (drop at out))) e n
    ∙ ap (λ t. take at out ++ (bytes ++ t)) (drop-drop (length bytes) at out)
    ∙ sym (append_assoc (take at out) bytes (drop (at + length bytes) out))

-- the chunks of 32 bytes of a string are its rows
pub row_of_chunks : (s : List ℕ) (n k : ℕ) → k < n → get_or (first_chunks 32 n s) k [] ≡ row_at k s
row_of_chunks s zero k h = absurd (omega arith)
row_of_chunks s (suc n) zero h = refl
row_of_chunks s (suc n) (suc k) h =
    let e : 32 * k + 32 ≡ 32 * suc k = omega arith in
    row_of_chunks (drop 32 s) n k (omega arith) ∙ ap (take 32) (drop-drop (32 * k) 32 s ∙ ap (λ m. drop m s) (omega arith))
