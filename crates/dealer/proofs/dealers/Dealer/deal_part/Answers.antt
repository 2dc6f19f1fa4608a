use Rattle.std.proofs.Common.{◌≡◌, ◌-◌, ◌*◌, map, length, None, sym, ap, ◌∙◌, arith}
use Rattle.std.specs.Option.{option_map}
use Rattle.std.proofs.lemmas.Result.{err_from_is_err_and}
use Rattle.std.proofs.lemmas.Option.{same_Some}
use Rattle.rows.specs.Bytes.{part}
use Rattle.rows.proofs.Rows.{length_part}
use Rattle.plan.specs.Keys.{owner}
use Rattle.plan.specs.View.{view}
use Rattle.layout.specs.Table.{rows_of_group, part_size}
use Rattle.splitting.specs.Split.{refusal, split_for}
use Rattle.splitting.proofs.Fitting.{all_passed}
use Rattle.splitting.proofs.Undone.{answered}
use Rattle.dealer.specs.Refusals.{handed_on}
use Rattle.dealer.specs.Tabled.{tabled}
use Rattle.plan.proofs.Found.{plan_ranges}
use Rattle.layout.proofs.Joined.{places}
use Rattle.dealer.proofs.Tabling.{tabling}
use Rattle.dealer.proofs.Placing.{same_refusal, is_whole, put_in, put_back, is_tabled}
use Rattle.dealer.proofs.dealers.Dealer.deal_part.Goals as goal

pub returns-in_err-key_sheet : goal.returns-in_err-key_sheet
returns-in_err-key_sheet g c =
    let q = err_from_is_err_and c.from_residual.result c.from_residual.ensures.1 in
    let p = view c.args.self.now.plan in
    let sources = map g.P.Pads.source c.args.sources.now in
    let table = c.args.table.now in
    let a = c.part_range-range.result.start in
    let e = c.part_range-range.result.end in
    let size : e - a ≡ part_size p c.args.key (length table) = omega (arith, c.part_range-range.ensures.start, c.part_range-range.ensures.end) in
    let slice : length (part a (e - a) table) ≡ e - a = length_part table a (e - a) (omega (arith, c.part_range-range.ensures.inside.0, c.part_range-range.ensures.inside.1)) in
    let refused = c.in_err-key_sheet.ensures in
    record {
      answer = rw (q.1, q.2) (refused.answer ∙ ap (λ n. option_map handed_on (refusal p sources c.args.key n)) (slice ∙ size) ∙ ap (option_map handed_on) (same_refusal p sources c.args.key (length table)));
      written = rw q.1 (put_back a e table c.key_sheet.new.out (ap length refused.written ∙ slice) refused.written);
      long = rw q.1 tt;
      tables = tabling p (plan_ranges c.args.self.now.plan) (places p (plan_ranges c.args.self.now.plan));
    }

pub returns : goal.returns
returns g c =
    let d = c.args.self.now in
    let p = view d.plan in
    let sources = map g.P.Pads.source c.args.sources.now in
    let key = c.args.key in
    let table = c.args.table.now in
    let a = c.part_range-range.result.start in
    let e = c.part_range-range.result.end in
    let sheet = c.key_sheet.new.out in
    let bytes = c.split.new.rows in
    let size : e - a ≡ part_size p key (length table) = omega (arith, c.part_range-range.ensures.start, c.part_range-range.ensures.end) in
    let slice : length (part a (e - a) table) ≡ e - a = length_part table a (e - a) (omega (arith, c.part_range-range.ensures.inside.0, c.part_range-range.ensures.inside.1)) in
    let ls : length sheet ≡ e - a = c.key_sheet.auto.out ∙ slice in
    let lb : length bytes ≡ e - a = c.split.auto.rows ∙ ls in
    let did = answered (refusal p sources key (length sheet)) (split_for p sources key sheet (owner p key)) bytes c.in_ok-split.ensures.written in
    let none : refusal p sources key (part_size p key (length table)) ≡ None = ap (refusal p sources key) (sym (ls ∙ size)) ∙ did.0 in
    let all = all_passed p sources key (part_size p key (length table)) none in
    let dealt = sym did.1 ∙ ap (λ x. split_for p sources key x (owner p key)) c.in_ok-key_sheet.ensures.written in
    record {
      answer = sym (ap (option_map handed_on) (sym (same_refusal p sources key (length table)) ∙ none));
      written = put_in a e table bytes lb ∙ is_tabled p key all.g a bytes table all.owns c.part_range-range.ensures.start (is_whole p sources key (length table) none)
          ∙ ap (λ x. tabled p key x table) dealt;
      long = λ k o. sym (ap length dealt) ∙ lb ∙ size ∙ all.long ∙ ap (λ n. 32 * rows_of_group p n) (same_Some all.g k (sym all.owns ∙ o));
      tables = tabling p (plan_ranges d.plan) (places p (plan_ranges d.plan));
    }

-- what the key sheet was not refused for, splitting is not either
