-- Byte strings as RFC 8554 writes them: lists of numbers below 256, with `++` for its ‖.
use Rattle.std.specs.Prelude.{ℕ, zero, suc, ◌+◌, ◌*◌, ◌/◌, ◌%◌, ◌<◌, List, [], ◌∷◌, ◌++◌, take, drop, bit_xor, slice_index}

-- each number of the list is a byte
abbrev pub Bytes : List ℕ → Type 0
Bytes [] = Unit {0}
Bytes (x ∷ xs) = (x < 256) × Bytes xs

-- ---- 3.1.1: numbers as bytes, the top byte first, and back
abbrev pub u8str : ℕ → List ℕ
u8str x = x ∷ []

abbrev pub u16str : ℕ → List ℕ
u16str x = (x / 256 % 256) ∷ (x % 256) ∷ []

abbrev pub u32str : ℕ → List ℕ
u32str x = (x / 16777216 % 256) ∷ (x / 65536 % 256) ∷ (x / 256 % 256) ∷ (x % 256) ∷ []

abbrev pub str_to_u32 : List ℕ → ℕ
str_to_u32 s =
    slice_index s 0 * 16777216 + slice_index s 1 * 65536 + slice_index s 2 * 256 + slice_index s 3

-- n bytes from the place `at` on
abbrev pub part : ℕ → ℕ → List ℕ → List ℕ
part at n s = take n (drop at s)

-- row number i of rows that stand one behind another
abbrev pub row_at : ℕ → List ℕ → List ℕ
row_at i s = part (32 * i) 32 s

-- f 0 ‖ f 1 ‖ .. ‖ f (n - 1)
unfoldable pub rows : ℕ → (ℕ → List ℕ) → List ℕ
rows zero f = []
rows (suc n) f = rows n f ++ f n

-- a string with each byte added to one of another string, bit by bit without carry
unfoldable pub xored : List ℕ → List ℕ → List ℕ
xored [] ys = []
xored (x ∷ xs) [] = x ∷ xs
xored (x ∷ xs) (y ∷ ys) = bit_xor x y ∷ xored xs ys
