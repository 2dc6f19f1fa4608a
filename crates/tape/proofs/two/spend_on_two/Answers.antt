use Rattle.std.proofs.Common.{rules}
use Rattle.tape.proofs.Reopened.{lined}
use Rattle.tape.proofs.two.spend_on_two.Goals as goal

pub returns-clause-first_line : goal.returns-clause-first_line
returns-clause-first_line c = lined c.spend_on_both.result c.args.height c.open-first_tape.result c.args.first.now _ c.args.key _ (search rules) c.spend_on_both.ensures.first_spends (search rules)

pub returns-clause-second_line : goal.returns-clause-second_line
returns-clause-second_line c = lined c.spend_on_both.result c.args.height c.open-second_tape.result c.args.second.now _ c.args.key _ (search rules) c.spend_on_both.ensures.second_spends (search rules)
