-- A buffer of rows by chain and position: row j of chain i stands at i * B + j, where a chain has B positions.
use Rattle.std.proofs.Common.{◌≡◌, ℕ, zero, suc, ◌+◌, ◌*◌, ◌/◌, ◌%◌, ◌<◌, ◌⊎◌, List, ◌++◌, length, sym, ap, ◌∙◌, ap₂, append_assoc, append-nil, add-zero, add-suc, suc-mul, zero-mul}
use lib.Arith.{digits_div, digits_mod}
use Rattle.std.proofs.lemmas.Nat.{div-add-mod', div_below, mod_below}
use Rattle.rows.specs.Bytes.{row_at, rows}
use Rattle.rows.proofs.Rows.{rows_same, rows_none, rows_whole}

-- the first n lanes stand at position j of the chains from `first` on, as far as there are chains
abbrev pub Written : ℕ → ℕ → ℕ → ℕ → (ℕ → List ℕ) → ℕ → List ℕ → Type 0
Written B count first j row n o = (l : ℕ) → l < n → first + l < count → row_at ((first + l) * B + j) o ≡ row l

-- what lies elsewhere is as it was
abbrev pub Kept : ℕ → ℕ → ℕ → List ℕ → List ℕ → Type 0
Kept B first j o o' = (i k : ℕ) → k < B → (i < first) ⊎ (k ≡ j → ⊥) → row_at (i * B + k) o' ≡ row_at (i * B + k) o

-- rows one behind another, cut in two
pub rows_add : (a b : ℕ) (f : ℕ → List ℕ) → rows (a + b) f ≡ rows a f ++ rows b (λ i. f (a + i))
unfolding rows
rows_add a zero f = ap (λ n. rows n f) (add-zero a) ∙ sym (append-nil (rows a f))
rows_add a (suc b) f =
    ap (λ n. rows n f) (add-suc a b) ∙ ap (λ t. t ++ f (a + b)) (rows_add a b f) ∙ append_assoc (rows a f) (rows b (λ i. f (a + i))) (f (a + b))

-- rows by chain and position
pub rows_cells : (B n : ℕ) (g : ℕ → ℕ → List ℕ) → rows (n * B) (λ m. g (m / B) (m % B)) ≡ rows n (λ i. rows B (g i))
unfolding rows
rows_cells B zero g =
    let f = λ (m : ℕ). g (m / B) (m % B) in ap (λ m. rows m f) (zero-mul B) ∙ rows_none f ∙ sym (rows_none (λ i. rows B (g i)))
rows_cells B (suc n) g =
    let f = λ (m : ℕ). g (m / B) (m % B) in
    ap (λ m. rows m f) (suc-mul n B) ∙ rows_add (n * B) B f
    ∙ ap₂ (λ a b. a ++ b) (rows_cells B n g)
    (rows_same B (λ i. f (n * B + i)) (g n) (λ i h. λ t. g (digits_div n h t) (digits_mod n h t)))

-- a buffer whose every place is known
pub cells_whole : (B n : ℕ) (g : ℕ → ℕ → List ℕ) (s : List ℕ) → 0 < B → length s ≡ 32 * (n * B) →
    ((i j : ℕ) → i < n → j < B → row_at (i * B + j) s ≡ g i j) → s ≡ rows n (λ i. rows B (g i))
cells_whole B n g s pos l known =
    rows_whole s (n * B) (λ m. g (m / B) (m % B)) l
    (λ m h. ap (λ k. row_at k s) (sym (div-add-mod' m B)) ∙ known (m / B) (m % B) (div_below m B n pos h) (mod_below m B pos))
    ∙ rows_cells B n g
