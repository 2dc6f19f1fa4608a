use Rattle.std.proofs.Common.{◌≡◌, List, All}
use Rattle.std.specs.List.{flat_map}
use Rattle.vector_files.specs.Field.{Lines}
use Rattle.vector_files.specs.Cases.{IsAsked, IsKnown, questions}
use Rattle.vector_files.proofs.Cutting.{IsCutTo, read}
use Rattle.vector_files.proofs.run.Run.text.Given as goal

abbrev pub invariant-loop-line : goal.invariant-loop-line
invariant-loop-line g l = let S = g.S.Suite in (l.self.waiting ≡ l.fn.self.waiting)
    × (blocks : List Lines)
    × IsCutTo (read l.yielded) blocks l.cut.number l.cut.block
    × All (IsKnown S.values S.cases l.fn.self.waiting) blocks
    × IsAsked S.answers S.line_answers S.cases l.fn.self.waiting (flat_map (questions l.fn.self.waiting) blocks) l.fn.self.suite l.fn.self.count l.self.suite l.self.count
