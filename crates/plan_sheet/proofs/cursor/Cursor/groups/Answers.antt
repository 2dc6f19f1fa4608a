use Rattle.std.proofs.Common.{◌≡◌, ◌+◌, sym, refl, ap, ◌∙◌, replicate, arith}
use Rattle.std.proofs.lemmas.Result.{err_from_is_err_and}
use Rattle.checks.specs.Checks.{first_refusal}
use Rattle.plan_sheet.specs.Checks.{line_checks, above_at, mask_at, n_of}
use Rattle.plan_sheet.proofs.Lines.{lining_stop, lining_next, lining_all, taken_length, kept_length, at_line}
use Rattle.plan_sheet.proofs.cursor.Cursor.groups.Goals as goal

pub group-requires : goal.group-requires
group-requires c =
    let s = c.args.self.now.sheet.now in
    let sh : c.next_line.new.self.sheet.now ≡ s = c.next_line.ensures.0 ∙ c.loop-mask.invariant.0 in
    let ln : c.next_line.new.self.line ≡ c.loop-mask.mask-index + 2 = omega (arith, c.next_line.ensures.1, c.loop-mask.invariant.1.at) in
    record {
      field = c.next_line.ensures.2;
      trustees = (c.requires.trustees.0, c.requires.trustees.1 ∙ ap n_of (sym sh));
      above = c.loop-mask.invariant.1.last ∙ sym (at_line above_at _ _ _ _ sh ln);
    }

pub returns-in_err-above : goal.returns-in_err-above
returns-in_err-above c =
    let s = c.args.self.now.sheet.now in
    let p = err_from_is_err_and c.from_residual.result c.from_residual.ensures.1 in
    let sh : c.next_line.new.self.sheet.now ≡ s = c.next_line.ensures.0 ∙ c.loop-mask.invariant.0 in
    let ln : c.next_line.new.self.line ≡ c.loop-mask.mask-index + 2 = omega (arith, c.next_line.ensures.1, c.loop-mask.invariant.1.at) in
    let e = lining_stop s c.args.trustees c.args.groups c.loop-mask.mask-index c.loop-mask.self.line c.loop-mask.above c.loop-mask.mask-items c.loop-mask.invariant.1 (omega arith) _ (sym (at_line (λ x l. first_refusal (line_checks x l)) _ _ _ _ sh ln) ∙ c.in_err-above.ensures.value) in
    rw (p.1, p.2) e

pub loop-mask-preserved : goal.loop-mask-preserved
loop-mask-preserved c =
    let s = c.args.self.now.sheet.now in
    let w = c.in_ok-above.ensures.value in
    let sh : c.next_line.new.self.sheet.now ≡ s = c.next_line.ensures.0 ∙ c.loop-mask.invariant.0 in
    let ln : c.next_line.new.self.line ≡ c.loop-mask.mask-index + 2 = omega (arith, c.next_line.ensures.1, c.loop-mask.invariant.1.at) in (
      c.group.ensures.moved.0 ∙ sh,
      lining_next s c.args.trustees c.args.groups c.loop-mask.mask-index c.loop-mask.self.line c.loop-mask.above c.loop-mask.mask-items c.loop-mask.invariant.1 (omega arith)
          (sym (at_line (λ x l. first_refusal (line_checks x l)) _ _ _ _ sh ln) ∙ w.0) _ (w.1.0 ∙ at_line mask_at _ _ _ _ sh ln) w.1.1 w.1.2 _ (c.group.ensures.moved.1 ∙ c.next_line.ensures.1),
    )

pub returns : goal.returns
returns c = lining_all _ _ _ _ _ _ _ _ _ c.loop-mask.invariant.1 (omega arith) refl (kept_length c.args.groups (replicate 70 0) c.loop-mask.mask-items c.requires.place.1.1 (c.loop-mask.auto.mask-items ∙ taken_length c.args.groups (replicate 70 0) c.requires.place.1.1))
