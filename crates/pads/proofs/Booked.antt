-- The laws of books.
use Rattle.std.proofs.Common.{◌≡◌, ℕ, ◌+◌, ◌-◌, ◌*◌, ◌/◌, ◌^◌, ◌<◌, Bool, true, false, cond, ltb, leb, List, length, replicate, None, Option, sym, refl, ap, ◌∙◌, mul_comm, mul_assoc, arith}
use Rattle.std.proofs.lemmas.Nat.{le-div}
use Rattle.std.proofs.lemmas.Bool.{and_parts, and_from, lt-ltb, cond-false, ltb-true, leb-true, le-leb}
use Rattle.rows.specs.Bytes.{row_at}
use Rattle.pads.specs.Labelled.{label_at, row_of}
use Rattle.pads.specs.Books.{rows_of_key, book_holds, row_at_place, book_pad}
use Rattle.pads.specs.Laws.{Whole, Booking}
use Rattle.pads.proofs.Placed.{there, of_key}
use Rattle.pads.proofs.Rising.{labelling}
use Rattle.pads.proofs.BookRows.{place_fits, held_row}

module _ (h w first : ℕ) (bytes : List ℕ) (key : ℕ) where
  abbrev R : ℕ
  R = rows_of_key h w

  whole : book_holds h w first bytes key ≡ true → Whole h w first bytes key
  whole e =
      let a = and_parts (leb first key) _ e in
      let b = and_parts (ltb key (2 ^ h)) _ a.1 in
      let i = ltb-true (key - first) (length bytes / (32 * R)) b.1 in
      let fits = place_fits (length bytes) R (key - first) (R - 1) i (omega arith) in
      record { from = leb-true first key a.0; below = ltb-true key (2 ^ h) b.0; rows = omega (arith, fits) }

  held : Whole h w first bytes key → book_holds h w first bytes key ≡ true
  held x =
      let i = key - first in
      let turned : (i + 1) * (32 * R) ≡ 32 * (R * (i + 1)) = mul_comm (i + 1) (32 * R) ∙ mul_assoc 32 R (i + 1) in
      let l = le-div (i + 1) (length bytes) (32 * R) (omega arith) (omega (turned, x.rows, arith)) in
      and_from (leb first key) _ (le-leb first key x.from) (and_from (ltb key (2 ^ h)) _ (lt-ltb key (2 ^ h) x.below) (lt-ltb i (length bytes / (32 * R)) (omega (arith, l))))

  in_rows : (n : ℕ) → book_holds h w first bytes key ≡ true → n < R → row_at (R * (key - first) + n) bytes ≡ book_pad h w first bytes (label_at 8 h w key n)
  in_rows n e l =
      let label = label_at 8 h w key n in
      let same = of_key 8 h w key n in
      ap (λ k. row_at (R * (k - first) + n) bytes) (sym same)
      ∙ held_row h w first bytes label n (ap (book_holds h w first bytes) same ∙ e) (sym (there 8 h w key n l))

-- without a row, zeros either way
others : (held : Bool) (bytes : List ℕ) (start : ℕ) (row : Option ℕ) → row ≡ None → cond held (row_at_place bytes start row) (replicate 32 0) ≡ replicate 32 0
others true bytes start row e = ap (row_at_place bytes start) e
others false bytes start row e = refl

pub booking : Booking
booking = record {
  labels = labelling;
  holds = λ h w first bytes key. (whole h w first bytes key, held h w first bytes key);
  rows = λ h w first bytes key n e l. in_rows h w first bytes key n e l;
  cut = λ h w first bytes l e. cond-false (book_holds h w first bytes l.key) _ (replicate 32 0) e;
  others = λ h w first bytes l e. others (book_holds h w first bytes l.key) bytes (rows_of_key h w * (l.key - first)) (row_of 8 h w l) e;
}
