use Rattle.std.proofs.Common.{rules, ◌≡◌, ℕ, List, replicate, codes, Some, None, MatchOption, slice_index, sym, subst}
use Rattle.vector_files.specs.Hex.{decoded}
use Rattle.vector_files.specs.Blocks.{value_of, IsNumber, IsBytes}
use Rattle.vector_files.proofs.blocks.Block.message.Goals as goal

pub returns : goal.returns
returns c =
    let fields = c.args.self.now in
    let bytes = c.in_ok-vec.field-0.items in
    let none : value_of (codes "message") fields ≡ None = search rules in
    let written : Type 0 = (fill : List ℕ) × (n : ℕ) × IsBytes (value_of (codes "message_fill") fields) fill × IsNumber (value_of (codes "message_length") fields) n × (bytes ≡ replicate n (slice_index fill 0)) in
    subst (λ v. MatchOption v written (λ t. decoded t ≡ Some bytes)) (sym none) (c.in_ok-fill.fill.items, c.in_ok-length.field-0, search rules, search rules, search rules)
