-- Strings of bytes added to strings of bytes.
use Rattle.std.proofs.Common.{◌≡◌, ℕ, zero, suc, ◌*◌, ◌<◌, ◌≤◌, List, [], ◌∷◌, ◌++◌, length, get_or, replicate, take, drop, sym, refl, ap, ◌∙◌, ap₂, arith}
use lib.Bits.{bit_xor, xor_assoc, xor_self, xor_comm, xor_zero_r, xor_lt}
use Rattle.rows.specs.Bytes.{Bytes, part, row_at, rows, xored}
use Rattle.rows.specs.Laws.{Sums, RowSums}
use Rattle.rows.proofs.Rows.{rows_lengths, rows_whole}

twice : (x y : ℕ) → bit_xor (bit_xor x y) y ≡ x
twice x y = xor_assoc x y y ∙ ap (bit_xor x) (xor_self y) ∙ xor_zero_r x

turned : (x y z : ℕ) → bit_xor (bit_xor x y) z ≡ bit_xor (bit_xor x z) y
turned x y z = xor_assoc x y z ∙ ap (bit_xor x) (xor_comm y z) ∙ sym (xor_assoc x z y)

back : (a b : List ℕ) → xored (xored a b) b ≡ a
unfolding xored
back [] b = refl
back (x ∷ xs) [] = refl
back (x ∷ xs) (y ∷ ys) = ap₂ (λ z zs. z ∷ zs) (twice x y) (back xs ys)

order : (a b c : List ℕ) → xored (xored a b) c ≡ xored (xored a c) b
unfolding xored
order [] b c = refl
order (x ∷ xs) [] [] = refl
order (x ∷ xs) [] (z ∷ zs) = refl
order (x ∷ xs) (y ∷ ys) [] = refl
order (x ∷ xs) (y ∷ ys) (z ∷ zs) = ap₂ (λ u us. u ∷ us) (turned x y z) (order xs ys zs)

pub length_xored : (a b : List ℕ) → length (xored a b) ≡ length a
unfolding xored
length_xored [] b = refl
length_xored (x ∷ xs) [] = refl
length_xored (x ∷ xs) (y ∷ ys) = let l = length_xored xs ys in omega (arith, l)

commutes : (a b : List ℕ) → length a ≡ length b → xored a b ≡ xored b a
unfolding xored
commutes [] [] h = refl
commutes [] (y ∷ ys) h = absurd (omega arith)
commutes (x ∷ xs) [] h = absurd (omega arith)
commutes (x ∷ xs) (y ∷ ys) h = ap₂ (λ z zs. z ∷ zs) (xor_comm x y) (commutes xs ys (omega arith))

regroups : (a b c : List ℕ) → length c ≤ length b → xored (xored a b) c ≡ xored a (xored b c)
unfolding xored
regroups [] b c h = refl
regroups (x ∷ xs) [] [] h = refl
regroups (x ∷ xs) [] (z ∷ zs) h = absurd (omega arith)
regroups (x ∷ xs) (y ∷ ys) [] h = refl
regroups (x ∷ xs) (y ∷ ys) (z ∷ zs) h =
    ap₂ (λ u us. u ∷ us) (xor_assoc x y z) (regroups xs ys zs (omega arith))

undone : (a : List ℕ) → xored a a ≡ replicate (length a) 0
unfolding xored
undone [] = refl
undone (x ∷ xs) = ap₂ (λ z zs. z ∷ zs) (xor_self x) (undone xs)

zeros_right : (a : List ℕ) (n : ℕ) → xored a (replicate n 0) ≡ a
unfolding xored
zeros_right [] n = refl
zeros_right (x ∷ xs) zero = refl
zeros_right (x ∷ xs) (suc n) = ap₂ (λ z zs. z ∷ zs) (xor_zero_r x) (zeros_right xs n)

zeros_left : (a : List ℕ) (n : ℕ) → length a ≡ n → xored (replicate n 0) a ≡ a
zeros_left a n h =
    ap (λ k. xored (replicate k 0) a) (sym h) ∙ ap (λ z. xored z a) (sym (undone a)) ∙ back a a

cancels : (a b d : List ℕ) → length d ≤ length b → xored (xored a d) (xored b d) ≡ xored a b
cancels a b d h =
    sym (regroups (xored a d) b d h) ∙ ap (λ s. xored s d) (order a d b) ∙ back (xored a b) d

difference : (a b : List ℕ) → length a ≡ length b → xored a (xored a b) ≡ b
difference a b h =
    ap (xored a) (commutes a b h) ∙ sym (regroups a b a (omega arith)) ∙ ap (λ s. xored s a) (commutes a b h)
    ∙ back b a

bytes : (a b : List ℕ) → Bytes a → Bytes b → Bytes (xored a b)
unfolding xored
bytes [] b h k = tt
bytes (x ∷ xs) [] h k = h
bytes (x ∷ xs) (y ∷ ys) h k = (xor_lt 8 x y h.0 k.0, bytes xs ys h.1 k.1)

pub sums : Sums
sums = record {
  back = back;
  order = order;
  long = length_xored;
  commutes = commutes;
  regroups = regroups;
  undone = undone;
  zeros_right = zeros_right;
  zeros_left = zeros_left;
  cancels = cancels;
  difference = difference;
  bytes = bytes;
}

-- byte by byte
pub get_or_xored : (a b : List ℕ) (j d : ℕ) → j < length a → length b ≡ length a → get_or (xored a b) j d ≡ bit_xor (get_or a j d) (get_or b j d)
unfolding xored
get_or_xored [] b j d l e = absurd (omega arith)
get_or_xored (x ∷ xs) [] j d l e = absurd (omega arith)
get_or_xored (x ∷ xs) (y ∷ ys) zero d l e = refl
get_or_xored (x ∷ xs) (y ∷ ys) (suc j) d l e = get_or_xored xs ys j d (omega arith) (omega arith)

-- ---- parts and rows
nothing_more : (a : List ℕ) → a ≡ xored a []
unfolding xored
nothing_more [] = refl
nothing_more (x ∷ xs) = refl

front : (n : ℕ) (a b : List ℕ) → take n (xored a b) ≡ xored (take n a) (take n b)
unfolding xored
front zero a b = refl
front (suc n) [] b = refl
front (suc n) (x ∷ xs) [] = refl
front (suc n) (x ∷ xs) (y ∷ ys) = ap (λ zs. bit_xor x y ∷ zs) (front n xs ys)

behind : (n : ℕ) (a b : List ℕ) → drop n (xored a b) ≡ xored (drop n a) (drop n b)
unfolding xored
behind zero a b = refl
behind (suc n) [] b = refl
behind (suc n) (x ∷ xs) [] = nothing_more (drop n xs)
behind (suc n) (x ∷ xs) (y ∷ ys) = behind n xs ys

of_part : (at n : ℕ) (a b : List ℕ) → part at n (xored a b) ≡ xored (part at n a) (part at n b)
of_part at n a b = ap (take n) (behind at a b) ∙ front n (drop at a) (drop at b)

joined : (a b c d : List ℕ) → length a ≡ length b → xored (a ++ c) (b ++ d) ≡ xored a b ++ xored c d
unfolding xored
joined [] [] c d h = refl
joined [] (y ∷ ys) c d h = absurd (omega arith)
joined (x ∷ xs) [] c d h = absurd (omega arith)
joined (x ∷ xs) (y ∷ ys) c d h = ap (λ zs. bit_xor x y ∷ zs) (joined xs ys c d (omega arith))

laid : (n : ℕ) (f g : ℕ → List ℕ) → ((i : ℕ) → i < n → length (f i) ≡ length (g i)) →
    xored (rows n f) (rows n g) ≡ rows n (λ i. xored (f i) (g i))
unfolding rows xored
laid zero f g h = refl
laid (suc n) f g h =
    joined (rows n f) (rows n g) (f n) (g n) (rows_lengths n f g (λ i l. h i (omega arith)))
    ∙ ap (λ s. s ++ xored (f n) (g n)) (laid n f g (λ i l. h i (omega arith)))

by_rows : (n : ℕ) (a b : List ℕ) → length a ≡ 32 * n →
    xored a b ≡ rows n (λ i. xored (row_at i a) (row_at i b))
by_rows n a b h =
    rows_whole (xored a b) n (λ i. xored (row_at i a) (row_at i b)) (length_xored a b ∙ h) (λ i l. of_part (32 * i) 32 a b)

pub row_sums : RowSums
row_sums = record {
  of_part = of_part;
  of_row = λ n. of_part (32 * n) 32;
  by_rows = by_rows;
  joined = joined;
  laid = laid;
}
