use Rattle.std.proofs.Common.{◌≡◌, ◌++◌, length}
use Rattle.std.specs.Option.{option_map}
use Rattle.vector_files.specs.Hex.{decoded}
use Rattle.vector_files.proofs.hex.decode.Given as goal

abbrev pub invariant-loop-left : goal.invariant-loop-left
invariant-loop-left l = decoded l.text ≡ option_map (λ more. l.bytes.items ++ more) (decoded l.left)

abbrev pub decreases-loop-left : goal.decreases-loop-left
decreases-loop-left l = length l.left
