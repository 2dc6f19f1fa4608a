use Rattle.std.proofs.Common.{arith}
use Rattle.sizes.specs.Sizes.{levels, bits}
use Rattle.pads.proofs.BookRows.{book_row}
use Rattle.pads.proofs.book.Book.new.Goals as goal

pub invariant_of-result : goal.invariant_of-result
invariant_of-result c = record {
  rows = book_row (levels c.args.height) (bits c.args.width) c.args.first c.args.bytes.now (λ i. let byte = c.type_inv.bytes i in omega arith);
}
