use Rattle.vector_files.specs.Blocks.{Write}
use Rattle.vector_files.proofs.blocks.Block.numbers.Given as goal

abbrev pub invariant-loop-word : goal.invariant-loop-word
invariant-loop-word l = Write l.yielded l.numbers.items
