use Rattle.std.proofs.Common.{◌≡◌, ◌≤◌, Some, None, is_some, unwrap_or, sym, refl, ap, ◌∙◌, arith}
use Rattle.std.proofs.lemmas.Result.{err_from_is_err_and}
use Rattle.plan_sheet.specs.declared.refusal.Refusal.TheVariants.{Members}
use Rattle.checks.specs.Checks.{first_refusal}
use Rattle.plan_sheet.specs.Checks.{field_checks, worth, field_at}
use Rattle.plan_sheet.proofs.Chosen.{ok_or_is}
use Rattle.plan_sheet.proofs.Groups.{going_start, going_at, going_stop, going_next, going_all}
use Rattle.plan_sheet.proofs.cursor.Cursor.group.Goals as goal

pub loop-init : goal.loop-init
loop-init c = (refl, refl, going_start _ _ _ _ _ _ c.requires.field c.new-tally.ensures.0 c.new-tally.ensures.1, omega arith)

pub returns-in_err-trustee : goal.returns-in_err-trustee
returns-in_err-trustee c =
    let p = err_from_is_err_and c.from_residual.result c.from_residual.ensures.1 in
    let w = c.in_err-trustee.ensures in
    let s = c.args.self.now.sheet.now in
    let l = c.args.self.now.line in
    let f = c.loop.self.field in
    let i0 = c.loop.invariant.0 in
    let i1 = c.loop.invariant.1 in
    let n = c.requires.trustees.1 in
    let b : first_refusal (field_checks s l f) ≡ Some c.in_err-trustee.field-0.0 = cc in
    let le : f ≤ 8 = omega arith in
    let e = going_stop s l c.args.trustees f c.loop.tally.floor (unwrap_or c.loop.tally.mask 0) (is_some c.loop.tally.mask) c.loop.invariant.2 le c.in_err-trustee.field-0.0 b in
    record { value = rw (p.1, p.2) e; moved = (c.next.ensures.moved.0 ∙ i0, c.next.ensures.moved.1 ∙ i1) }

pub loop-preserved : goal.loop-preserved
loop-preserved c =
    let w = c.in_ok-trustee.ensures in
    let w0 = w.0 in
    let w1 = w.1 in
    let s = c.args.self.now.sheet.now in
    let l = c.args.self.now.line in
    let f = c.loop.self.field in
    let i0 = c.loop.invariant.0 in
    let i1 = c.loop.invariant.1 in
    let n = c.requires.trustees.1 in
    let b : first_refusal (field_checks s l f) ≡ None = cc in
    let le : f ≤ 8 = omega arith in
    let t = unwrap_or c.in_ok-trustee.trustee 0 in
    let te : t ≡ worth (field_at 3 s l f) = cc in
    let g = going_next s l c.args.trustees f c.loop.tally.floor (unwrap_or c.loop.tally.mask 0) (is_some c.loop.tally.mask) c.loop.invariant.2 le b t te
    c.with-tally.result.floor (unwrap_or c.with-tally.result.mask 0) (is_some c.with-tally.result.mask)
    c.with-tally.ensures.order c.with-tally.ensures.mask (c.with-tally.ensures.below c.args.trustees c.loop.invariant.2.under w.1.1) in
    (c.next.ensures.moved.0 ∙ i0, c.next.ensures.moved.1 ∙ i1, going_at _ _ _ _ _ _ _ _ (sym c.next.ensures.moved.2) g, omega arith)

pub returns : goal.returns
returns c =
    let f : c.loop.self.field ≡ 9 = omega arith in
    let a = going_all c.args.self.now.sheet.now c.args.self.now.line c.args.trustees c.loop.tally.floor (unwrap_or c.loop.tally.mask 0) c.args.above (is_some c.loop.tally.mask) (going_at _ _ _ _ _ _ _ _ f c.loop.invariant.2) c.requires.above in
    record {
      value = ok_or_is c.above.result (Members c.loop.self.line) c.ok_or.result _ _ c.ok_or.ensures.value
          (λ n. a.1 (rw n at c.above.ensures) ∙ ap (λ k. Some (Members k)) (sym c.loop.invariant.1))
          (λ m s. let r = rw s at c.above.ensures in let z = a.0 r.0 in (z.0, (r.1 ∙ z.1, omega (arith, r.1, z.2), omega (arith, r.1, z.3))));
      moved = (c.loop.invariant.0, c.loop.invariant.1);
    }
