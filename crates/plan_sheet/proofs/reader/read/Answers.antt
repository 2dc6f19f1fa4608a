use Rattle.std.proofs.Common.{sym, ap, ◌∙◌, subst}
use Rattle.std.specs.List.{flat_map, range_with_len}
use Rattle.std.proofs.lemmas.Result.{err_from_is_err_and}
use Rattle.sizes.specs.Sizes.{levels, bits}
use Rattle.checks.specs.Checks.{first_refusal}
use Rattle.plan_sheet.specs.Checks.{Headed, Lined, heading_checks, line_checks}
use Rattle.plan_sheet.specs.Written.{written}
use Rattle.plan_sheet.proofs.Lines.{stop_form, stop_heading}
use Rattle.plan_sheet.proofs.Soundness.{sound}
use Rattle.plan_sheet.proofs.Completeness.{complete}
use Rattle.plan_sheet.proofs.Chosen.{is_there}
use Rattle.plan_sheet.proofs.Told.{no_plan, wrong_count, lines_decide, passes, valid, is_written, only}
use Rattle.plan_sheet.proofs.reader.read.Goals as goal

pub returns-then-not-formed : goal.returns-then-not-formed
returns-then-not-formed c =
    let e = stop_form c.args.sheet.now (sym c.if-not-formed.ensures) in
    record { refusal = sym e; written = no_plan _ _ e; law = (sound, complete); exactly = no_plan _ _ e }

pub returns-in_err-heading : goal.returns-in_err-heading
returns-in_err-heading c =
    let p = err_from_is_err_and c.from_residual.result c.from_residual.ensures.1 in
    let same = c.new-cursor.ensures.0 in
    let e = stop_heading c.args.sheet.now (sym c.if-not-formed.ensures) _ (sym (ap (λ x. first_refusal (heading_checks x)) same) ∙ c.in_err-heading.ensures.value) in
    record { refusal = rw (p.1, p.2) (sym e); written = rw p.1 (no_plan _ _ e); law = (sound, complete); exactly = rw p.1 (no_plan _ _ e) }

pub returns-then-not-fits : goal.returns-then-not-fits
returns-then-not-fits c =
    let h = c.in_ok-heading.heading in
    let head = subst (λ x. Headed x h.trustees (levels h.height) (bits h.width) h.groups) c.new-cursor.ensures.0 c.in_ok-heading.ensures.value in
    let e = wrong_count c.args.sheet.now (sym c.if-not-formed.ensures) _ _ _ _ head c.if-not-fits.ensures in
    record { refusal = sym e; written = no_plan _ _ e; law = (sound, complete); exactly = no_plan _ _ e }

pub returns-in_err-masks : goal.returns-in_err-masks
returns-in_err-masks c =
    let p = err_from_is_err_and c.from_residual-in_err-masks.result c.from_residual-in_err-masks.ensures.1 in
    let h = c.in_ok-heading.heading in
    let same = c.new-cursor.ensures.0 in
    let head = subst (λ x. Headed x h.trustees (levels h.height) (bits h.width) h.groups) same c.in_ok-heading.ensures.value in
    let lines = sym (ap (λ x. first_refusal (flat_map (line_checks x) (range_with_len 2 h.groups))) (c.heading.ensures.moved.0 ∙ same)) ∙ c.in_err-masks.ensures in
    let e = lines_decide c.args.sheet.now (sym c.if-not-formed.ensures) _ _ _ _ head c.if-not-fits.ensures _ lines in
    record { refusal = rw (p.1, p.2) (sym e); written = rw p.1 (no_plan _ _ e); law = (sound, complete); exactly = rw p.1 (no_plan _ _ e) }

pub unwrap-requires : goal.unwrap-requires
unwrap-requires c =
    let h = c.in_ok-heading.heading in
    let same = c.new-cursor.ensures.0 in
    let head = subst (λ x. Headed x h.trustees (levels h.height) (bits h.width) h.groups) same c.in_ok-heading.ensures.value in
    let lined = subst (λ x. Lined x h.trustees h.groups c.in_ok-masks.masks) (c.heading.ensures.moved.0 ∙ same) c.in_ok-masks.ensures in
    let there = valid c.args.sheet.now (sym c.if-not-formed.ensures) _ _ _ _ head c.if-not-fits.ensures _ lined in
    is_there c.new-plan.result _ _ c.new-plan.ensures there

pub returns : goal.returns
returns c =
    let h = c.in_ok-heading.heading in
    let s = c.args.sheet.now in
    let same = c.new-cursor.ensures.0 in
    let whole = sym c.if-not-formed.ensures in
    let fits = c.if-not-fits.ensures in
    let head = subst (λ x. Headed x h.trustees (levels h.height) (bits h.width) h.groups) same c.in_ok-heading.ensures.value in
    let lined = subst (λ x. Lined x h.trustees h.groups c.in_ok-masks.masks) (c.heading.ensures.moved.0 ∙ same) c.in_ok-masks.ensures in
    let made = (rw c.unwrap.ensures at c.new-plan.ensures).1 in
    record {
      refusal = sym (passes s whole _ _ _ _ head fits _ lined);
      written = is_written s whole _ _ _ _ head fits _ lined ∙ ap written (sym made);
      law = (sound, complete);
      exactly = λ q v e. made ∙ only s whole _ _ _ _ head fits _ lined q v e;
    }
