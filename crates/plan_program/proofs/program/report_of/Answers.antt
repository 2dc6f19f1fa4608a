use Rattle.std.proofs.Common.{◌≡◌, cond, length, take, ap, arith, rules}
use Rattle.std.proofs.lemmas.List.{length-take-le}
use Rattle.plan_sheet.specs.Prints.{answer, text_of}
use Rattle.plan_program.specs.declared.outcome.Outcome.TheVariants.{Done, Refused}
use Rattle.plan_program.specs.Outcomes.{outcome_of, outcome_in}
use Rattle.plan_program.proofs.Fronts.{front_read, front_consumed, of_input, same_answer, same_outcome}
use Rattle.plan_program.proofs.program.report_of.Goals as goal

pub returns : goal.returns
returns g c =
    let a = g.R.Read.remaining c.args.input.now in
    let b = g.R.Read.remaining c.fill.new.reader in
    let n = c.in_ok-length.length in
    let buffer = c.fill.new.buffer in
    let bs = take n buffer in
    let read = c.in_ok-length.ensures in
    let long : length buffer ≡ 4097 = search rules in
    let count : length bs ≡ n = length-take-le n buffer read.within in
    let front = front_read a b bs read.bytes (omega (arith, count, read.within, long)) (λ l. read.end (omega (arith, l, count, long))) in
    let report = c.in_ok-report_on.field-0 in
    let told : outcome_in report ≡ outcome_of bs = ap (λ r. cond r Done Refused) c.in_ok-report_on.ensures.ranges in
    record {
      text = of_input answer (λ x. text_of report ≡ x) a bs same_answer front c.in_ok-report_on.ensures.text;
      outcome = of_input outcome_of (λ x. outcome_in report ≡ x) a bs same_outcome front told;
      taken = front_consumed a b bs read.bytes front;
      taken_front = tt;
    }
