use Rattle.std.proofs.Common.{◌≡◌, List, length}
use Rattle.vector_files.specs.Field.{Lines}
use Rattle.vector_files.proofs.Cutting.{IsCutTo, read}
use Rattle.vector_files.proofs.text.count_blocks.Given as goal

abbrev pub invariant-loop-line : goal.invariant-loop-line
invariant-loop-line l = (blocks : List Lines) × (l.count ≡ length blocks) × IsCutTo (read l.yielded) blocks l.cut.number l.cut.block
