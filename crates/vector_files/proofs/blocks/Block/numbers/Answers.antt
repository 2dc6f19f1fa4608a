use Rattle.std.proofs.Common.{ℕ, Ok, rules}
use Rattle.std.specs.Str.Parse.{ParsesUnsigned}
use Rattle.vector_files.proofs.Written.{write_more}
use Rattle.vector_files.proofs.blocks.Block.numbers.Goals as goal

pub loop-word-preserved : goal.loop-word-preserved
loop-word-preserved c =
    let n = c.in_ok-parse.field-0 in
    let last : ParsesUnsigned {E = ℕ} 32 10 c.in-Some.word.now (Ok n) = search rules in
    rw c.in_ok-push.ensures.items (write_more c.loop-word.yielded c.loop-word.numbers.items c.in-Some.word n c.loop-word.invariant last)
