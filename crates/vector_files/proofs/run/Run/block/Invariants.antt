use Rattle.std.proofs.Common.{◌≡◌, ◌∷◌, map, take}
use Rattle.vector_files.specs.Cases.{IsAsked}
use Rattle.vector_files.specs.Cases.Question.{Whole, Line}
use Rattle.vector_files.proofs.run.Run.block.Given as goal

abbrev pub invariant-loop-field : goal.invariant-loop-field
invariant-loop-field g l = let S = g.S.Suite in (l.self.waiting ≡ l.fn.self.waiting)
    × IsAsked S.answers S.line_answers S.cases l.fn.self.waiting (Whole l.block ∷ map (Line l.block) (take l.field-index l.field-items)) l.fn.self.suite l.fn.self.count l.self.suite l.self.count
