use Rattle.std.proofs.Common.{rules, ◌≡◌, ◌+◌, ◌++◌, [], ◌∷◌, ℕ, List, false, sym}
use Rattle.vector_files.specs.Blocks.{HasValue, has_name, named_value}
use Rattle.vector_files.specs.Texts.{is_blank, is_silent}
use Rattle.vector_files.proofs.Cutting.{taken_value}
use Rattle.vector_files.proofs.text.Cut.take.Goals as goal

pub returns-clause-taken : goal.returns-clause-taken
returns-clause-taken c =
    let before = c.args.self.now.block in
    let next : c.in_ok-number.number ≡ c.args.self.now.number + 1 = search rules in
    let line : ℕ × List ℕ = (c.in_ok-number.number, c.args.text.now) in
    let plain : is_blank line ≡ false = search rules in
    let says : is_silent line ≡ false = search rules in
    let valued : HasValue line.1 = search rules in
    let new : has_name before (named_value line.1 line.0).name ≡ false = search rules in
    let added : c.add.new.self ≡ before ++ named_value line.1 line.0 ∷ [] = search rules in
    rw (sym next, added) (taken_value before line plain says valued new)
