-- How the program ends.
use Rattle.std.specs.Prelude.{ℕ, if◌then◌else◌, is_none, List, Some, Option}
use Rattle.std.specs.Option.{option_map}
use Rattle.checks.specs.Checks.{first_refusal}
use Rattle.plan_sheet.specs.declared.report.Report.{Report}
use Rattle.plan_sheet.specs.Prints.{input_checks, has_ranges}
use Rattle.plan_program.specs.declared.outcome.Outcome.{Outcome}
use Rattle.plan_program.specs.declared.outcome.Outcome.TheVariants.{Done, Refused, Misused}
use Rattle.plan_program.specs.declared.request.Request.{Request}
use Rattle.plan_program.specs.declared.request.Request.TheVariants.{Ranges, Usage, Unknown}

-- the exit status of an outcome
abbrev pub status_of : Outcome → ℕ
status_of Done = 0
status_of Refused = 1
status_of Misused = 2

-- the outcome for some bytes of input: refused if one of their checks fails
abbrev pub outcome_of : List ℕ → Outcome
outcome_of input = if is_none (first_refusal (input_checks input)) then Done else Refused

-- the same of a report on them
abbrev pub outcome_in : Report → Outcome
outcome_in report = if has_ranges report then Done else Refused

-- the outcome of a request, where it is known; for key ranges it hangs on the input
abbrev pub outcome_by : Request → Option (List ℕ) → Option Outcome
outcome_by (Ranges typed) input = option_map outcome_of input
outcome_by Usage input = Some Done
outcome_by Unknown input = Some Misused
