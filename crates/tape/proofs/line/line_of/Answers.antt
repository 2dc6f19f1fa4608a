use Rattle.std.proofs.Common.{◌+◌, ◌%◌, [], ◌∷◌, sym, ◌∙◌}
use Rattle.tape.proofs.Writing.{line_is}
use Rattle.tape.proofs.line.line_of.Goals as goal

pub returns : goal.returns
returns c =
    let key = c.args.key in
    (λ i. 32 ∷ c.column.ensures i ∷ c.column-2.ensures i ∷ c.column-3.ensures i ∷ (key % 10 + 48) ∷ 10 ∷ []) ∙ sym (line_is key c.requires)
