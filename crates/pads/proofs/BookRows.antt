-- Where a book's rows stand, and that each of its pads is a row.
use Rattle.std.proofs.Common.{◌≡◌, ℕ, zero, suc, ◌+◌, ◌-◌, ◌*◌, ◌/◌, ◌^◌, ◌<◌, ◌≤◌, Bool, true, false, cond, ◌&&◌, ltb, leb, List, [], ◌∷◌, length, take, drop, get_or, replicate, Some, None, Option, sym, refl, ap, ◌∙◌, mul_assoc, mul_comm, mul-le-mul_left, mul-one, mul-add, arith, rules}
use Rattle.std.proofs.lemmas.Nat.{div-add-mod'}
use Rattle.std.proofs.lemmas.Bool.{and_parts, cond-true, ltb-true}
use Rattle.hash.specs.Bytes.{Bytes}
use Rattle.rows.specs.Bytes.{part, row_at}
use Rattle.rows.proofs.Rows.{length_part}
use Rattle.pads.specs.declared.label.Label.{Label}
use Rattle.pads.specs.Row.{IsRow}
use Rattle.pads.specs.Labelled.{row_of}
use Rattle.pads.specs.Books.{rows_of_key, book_holds, row_at_place, book_pad}
use Rattle.pads.proofs.Placed.{row_inside}

-- a whole key's row lies within the bytes
pub place_fits : (all each index row : ℕ) → index < all / (32 * each) → row < each → 32 * (each * index + row) + 32 ≤ all
place_fits all each index row i r =
    let k = all / (32 * each) in
    let one : each * index + each ≡ each * (index + 1) = sym (mul-add each index 1 ∙ ap (λ z. each * index + z) (mul-one each)) in
    let up : each * (index + 1) ≤ each * k = mul-le-mul_left each (omega arith) in
    let turned : k * (32 * each) ≡ 32 * (each * k) = mul_comm k (32 * each) ∙ mul_assoc 32 each k in
    omega (arith, div-add-mod' all (32 * each), one, up, turned)

-- a held key's index lies within the bytes
pub index_inside : (first key top all each : ℕ) → leb first key && (ltb key top && ltb (key - first) (all / (32 * each))) ≡ true → key - first < all / (32 * each)
index_inside first key top all each e = ltb-true (key - first) (all / (32 * each)) (and_parts (ltb key top) _ (and_parts (leb first key) _ e).1).1

-- the place of a row is a machine number
pub place_small : (each index row : ℕ) → each ≤ 100000 → index < 4294967296 → row < each → 32 * (each * index + row) < 18446744073709551616
place_small each index row e i r =
    let wide : each * index ≤ each * 4294967296 = mul-le-mul_left each (omega arith) in
    omega (arith, wide)

-- what a book answers for a label with a row of a held key
pub held_row : (h w first : ℕ) (bytes : List ℕ) (l : Label) (row : ℕ) → book_holds h w first bytes l.key ≡ true → Some row ≡ row_of 8 h w l → part (32 * (rows_of_key h w * (l.key - first) + row)) 32 bytes ≡ book_pad h w first bytes l
held_row h w first bytes l row held e =
    let start = rows_of_key h w * (l.key - first) in
    ap (row_at_place bytes start) e ∙ sym (cond-true (book_holds h w first bytes l.key) (row_at_place bytes start (row_of 8 h w l)) (replicate 32 0) held)

-- ---- rows
bytes_take : (n : ℕ) (s : List ℕ) → Bytes s → Bytes (take n s)
bytes_take zero s b = tt
bytes_take (suc n) [] b = tt
bytes_take (suc n) (x ∷ xs) b = (b.0, bytes_take n xs b.1)

bytes_drop : (n : ℕ) (s : List ℕ) → Bytes s → Bytes (drop n s)
bytes_drop zero s b = b
bytes_drop (suc n) [] b = tt
bytes_drop (suc n) (x ∷ xs) b = bytes_drop n xs b.1

-- one that lies within some bytes
pub row_within : (n : ℕ) (s : List ℕ) → Bytes s → 32 * n + 32 ≤ length s → IsRow (row_at n s)
row_within n s b l = record { long = length_part s (32 * n) 32 l; bytes = bytes_take 32 (drop (32 * n) s) (bytes_drop (32 * n) s b) }

pub zero_row : IsRow (replicate 32 0)
zero_row = record { long = refl; bytes = search rules }

-- numbers that are bytes one by one
bytes_from : (s : List ℕ) → ((i : ℕ) → get_or s i 0 < 256) → Bytes s
bytes_from [] f = tt
bytes_from (x ∷ xs) f = (f 0, bytes_from xs (λ i. f (suc i)))

-- the pads of a book
module _ (h w first : ℕ) (bytes : List ℕ) (are : (i : ℕ) → get_or bytes i 0 < 256) (l : Label) where
  abbrev start : ℕ
  start = rows_of_key h w * (l.key - first)

  is_row : (held : Bool) → book_holds h w first bytes l.key ≡ held → (row : Option ℕ) → row_of 8 h w l ≡ row → IsRow (cond held (row_at_place bytes start row) (replicate 32 0))
  is_row false e row o = zero_row
  is_row true e None o = zero_row
  is_row true e (Some r) o =
      let each = rows_of_key h w in
      let inside = index_inside first l.key (2 ^ h) (length bytes) each e in
      row_within (start + r) bytes (bytes_from bytes are) (place_fits (length bytes) each (l.key - first) r inside (row_inside 8 h w r l o))

  pub book_row : IsRow (book_pad h w first bytes l)
  book_row = is_row (book_holds h w first bytes l.key) refl (row_of 8 h w l) refl
