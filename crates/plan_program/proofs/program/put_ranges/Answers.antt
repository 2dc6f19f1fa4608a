use Rattle.plan_program.proofs.Moved.{on_err, at_most}
use Rattle.plan_program.proofs.program.put_ranges.Goals as goal

pub returns-in_err-write_whole-clause-taken_front : goal.returns-in_err-write_whole-clause-taken_front
returns-in_err-write_whole-clause-taken_front g c = on_err _ _ (at_most 4097 (g.R.Read.remaining c.args.input.now) (g.R.Read.remaining c.report_of.new.input) c.in_ok-report.ensures.taken)
