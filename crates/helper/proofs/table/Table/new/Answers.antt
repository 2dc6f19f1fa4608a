use Rattle.plan.specs.View.{view}
use Rattle.plan.proofs.Found.{plan_ranges}
use Rattle.helper.proofs.Lent.{lending}
use Rattle.helper.proofs.table.Table.new.Goals as goal

pub returns-clause-laws : goal.returns-clause-laws
returns-clause-laws c = lending (view c.args.plan.now) (plan_ranges c.args.plan.now) c.of.ensures.places
