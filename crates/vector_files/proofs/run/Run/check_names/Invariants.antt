use Rattle.std.proofs.Common.{All, take, IsTrue}
use Rattle.vector_files.specs.Field.{NamedValue}
use Rattle.vector_files.specs.Cases.{is_known}
use Rattle.vector_files.proofs.run.Run.check_names.Given as goal

abbrev pub invariant-loop-field : goal.invariant-loop-field
invariant-loop-field g l = All (λ (line : NamedValue). IsTrue (is_known g.S.Suite.values g.S.Suite.cases l.self.waiting line.name)) (take l.field-index l.field-items)
