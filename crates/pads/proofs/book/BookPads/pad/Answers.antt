use Rattle.std.proofs.Common.{◌≡◌, ◌+◌, ◌-◌, ◌*◌, ◌^◌, ◌<◌, ◌≤◌, true, length, sym, ap, ◌∙◌, subst, arith, rules}
use Rattle.rows.specs.Bytes.{part}
use Rattle.sizes.specs.Sizes.{levels, bits}
use Rattle.pads.specs.Books.{rows_of_key, book_holds}
use Rattle.pads.proofs.Placed.{row_inside}
use Rattle.pads.proofs.BookRows.{place_fits, index_inside, place_small, held_row}
use Rattle.pads.proofs.book.BookPads.pad.Goals as goal

pub overflow_mul-rows_of_key-2 : goal.overflow_mul-rows_of_key-2
overflow_mul-rows_of_key-2 c =
    let book = c.args.self.now in
    let h = levels book.height in
    let w = bits book.width in
    let each = c.rows_of_key.result in
    let row = c.in-Some.row in
    let value : each ≡ rows_of_key h w = c.rows_of_key.ensures.value in
    let below : row < rows_of_key h w = row_inside 8 h w row c.args.label (sym c.in-Some.ensures) in
    let key : c.args.label.key < 4294967296 = search rules in
    let small = place_small each (c.args.label.key - book.first) row c.rows_of_key.ensures.bounds.1 (omega (arith, key)) (omega (arith, value, below)) in
    omega (arith, small)

pub returns : goal.returns
returns c =
    let book = c.args.self.now in
    let h = levels book.height in
    let w = bits book.width in
    let bytes = book.bytes.now in
    let label = c.args.label in
    let index = label.key - book.first in
    let each = rows_of_key h w in
    let row = c.in-Some.row in
    let held : book_holds h w book.first bytes label.key ≡ true = sym c.if-not-holds.ensures in
    let below : row < each = row_inside 8 h w row label (sym c.in-Some.ensures) in
    let inside = index_inside book.first label.key (2 ^ h) (length bytes) each held in
    let value : c.rows_of_key.result ≡ each = c.rows_of_key.ensures.value in
    let fits = subst (λ e. 32 * (e * index + row) + 32 ≤ length bytes) (sym value) (place_fits (length bytes) each index row inside below) in
    c.row_at.ensures.inside fits
    ∙ ap (λ e. part (32 * (e * index + row)) 32 bytes) value
    ∙ held_row h w book.first bytes label row held c.in-Some.ensures
