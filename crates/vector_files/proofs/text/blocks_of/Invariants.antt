use Rattle.vector_files.proofs.Cutting.{IsCutTo, read}
use Rattle.vector_files.proofs.text.blocks_of.Given as goal

abbrev pub invariant-loop-line : goal.invariant-loop-line
invariant-loop-line l = IsCutTo (read l.yielded) l.blocks.items l.cut.number l.cut.block
