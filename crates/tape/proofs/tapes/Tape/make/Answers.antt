use Rattle.std.proofs.Common.{rules}
use Rattle.sizes.specs.Sizes.{levels}
use Rattle.tape.proofs.Reopened.{new_is_fresh}
use Rattle.tape.proofs.tapes.Tape.make.Goals as goal

pub returns-clause-fresh : goal.returns-clause-fresh
returns-clause-fresh c = new_is_fresh (levels c.args.height) c.args.bytes.now c.if-intact.bytes c.is_ok-intact.result (search rules) (search rules)
