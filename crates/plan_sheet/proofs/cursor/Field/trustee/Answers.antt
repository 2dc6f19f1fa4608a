use Rattle.std.proofs.Common.{arith, rules}
use Rattle.std.proofs.lemmas.Grind.{common_steps}
use Rattle.plan_sheet.specs.Checks.{entry_checks}
use Rattle.plan_sheet.proofs.cursor.Field.trustee.Goals as goal

pub returns : goal.returns
unfolding entry_checks
returns c = search rules

pub returns-then-is_blank : goal.returns-then-is_blank
unfolding entry_checks
returns-then-is_blank c = search rules

pub returns-in_err-value : goal.returns-in_err-value
unfolding entry_checks
returns-in_err-value c = search rules

pub returns-then-not-contains : goal.returns-then-not-contains
unfolding entry_checks
returns-then-not-contains c = grind (arith, common_steps)
