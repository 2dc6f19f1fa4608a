use Rattle.std.proofs.Common.{rules}
use Rattle.std.proofs.lemmas.Iterator.Search.{position_from_yields_List}
use Rattle.tape.specs.Lines.{unused}
use Rattle.tape.proofs.Cutting.{road, placed}
use Rattle.tape.proofs.tapes.Tape.first_unused.Goals as goal

pub returns : goal.returns
returns c = placed c.args.self.now.bytes.now c.position.result (position_from_yields_List unused c.position.new.self _ c.position.result c.position.ensures.ran (road (λ s. s.0.now) (_)) (λ x b q k. search (rules, k.met)))
