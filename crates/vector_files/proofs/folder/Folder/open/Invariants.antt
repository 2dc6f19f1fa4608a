use Rattle.std.proofs.Common.{All, map}
use Rattle.std.specs.Prelude.{string_bytes}
use Rattle.vector_files.specs.Folders.{IsVectorFile}
use Rattle.vector_files.proofs.folder.Folder.open.Given as goal

abbrev pub invariant-loop-entry : goal.invariant-loop-entry
invariant-loop-entry l = All IsVectorFile (map string_bytes l.left.items)
