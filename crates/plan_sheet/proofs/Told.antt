-- What the reader's answers say of plans.
use Rattle.std.proofs.Common.{◌≡◌, ℕ, ◌+◌, ◌-◌, ◌^◌, true, false, ◌&&◌, eqb, leb, List, map, length, take, Some, None, Option, sym, ap, ◌∙◌, subst, arith}
use Rattle.std.specs.List.{flat_map, range_with_len}
use Rattle.checks.specs.Checks.{first_refusal}
use Rattle.std.proofs.lemmas.List.{ext_get_or, length-take-le, get_or-take}
use Rattle.std.proofs.lemmas.Option.{none-some}
use Rattle.plan.specs.Shape.{Shape, Valid}
use Rattle.plan_sheet.specs.declared.refusal.Refusal.{Refusal}
use Rattle.plan_sheet.specs.declared.refusal.Refusal.TheVariants.{Groups}
use Rattle.plan_sheet.specs.Written.{written}
use Rattle.plan_sheet.specs.Checks.{formed, line_checks, line_count, mask_at, Headed, Lined, checks}
use Rattle.plan_sheet.specs.Law.{plan_of}
use Rattle.plan_sheet.proofs.Fields.{groups_most}
use Rattle.plan_sheet.proofs.Law.{length_from}
use Rattle.plan_sheet.proofs.Lines.{stop_groups, past_groups, fits_is, fits_count}
use Rattle.plan_sheet.proofs.Soundness.{sound, get_or_from}
use Rattle.plan_sheet.proofs.Completeness.{complete, shape}

pub no_plan : (s : List ℕ) (e : Refusal) → first_refusal (checks s) ≡ Some e → (q : Shape) → Valid q → s ≡ written q → ⊥
no_plan s e f q v is = none-some e (sym (ap (λ x. first_refusal (checks x)) is ∙ (complete q v).0) ∙ f)

-- a sheet of whole lines whose heading passes
module _ (s : List ℕ) (whole : formed s ≡ true) (n h w m : ℕ) (head : Headed s n h w m) where
  pub wrong_count : false ≡ (eqb (m + 1) (line_count s) && leb m (2 ^ h)) → first_refusal (checks s) ≡ Some Groups
  wrong_count e = stop_groups s whole head.passed Groups (fits_is s m h head.m_is head.h_is false e)

  -- and that has as many group lines as it says
  module _ (fits : true ≡ (eqb (m + 1) (line_count s) && leb m (2 ^ h))) where
    pub lines_decide : (o : Option Refusal) → first_refusal (flat_map (line_checks s) (range_with_len 2 m)) ≡ o → first_refusal (checks s) ≡ o
    lines_decide o e =
        let count : line_count s - 1 ≡ m = omega (arith, (fits_count s m h fits).0) in
        past_groups s whole head.passed (fits_is s m h head.m_is head.h_is true fits) ∙ ap (λ k. first_refusal (flat_map (line_checks s) (range_with_len 2 k))) count ∙ e

    module _ (masks : List ℕ) (lines : Lined s n m masks) where
      pub passes : first_refusal (checks s) ≡ None
      passes = lines_decide None lines.passed

      masks_are : take m masks ≡ map (mask_at s) (range_with_len 2 m)
      masks_are =
          let few = groups_most m head.m_in in
          let long : length (take m masks) ≡ m = length-take-le m masks (omega (arith, lines.long)) in
          ext_get_or 0 (take m masks) (map (mask_at s) (range_with_len 2 m)) (long ∙ sym (length_from (mask_at s) 2 m))
          (λ i l. get_or-take m masks i 0 (omega arith) ∙ lines.each i (omega arith) ∙ sym (get_or_from (mask_at s) 2 m i (omega arith)))

      -- the plan that is read is the one that the sheet says
      pub says : plan_of s ≡ shape n h w (take (m - 0) masks)
      says =
          let all : m ≡ m - 0 = omega arith in
          let parts = sym (masks_are ∙ ap (λ k. map (mask_at s) (range_with_len 2 k)) head.m_is) in
          (λ i. shape (sym head.n_is i) (sym head.h_is i) (sym head.w_is i) (parts i)) ∙ ap (λ k. shape n h w (take k masks)) all

      pub valid : Valid (shape n h w (take (m - 0) masks))
      valid = subst Valid says (sound s passes).0

      pub is_written : s ≡ written (shape n h w (take (m - 0) masks))
      is_written = (sound s passes).1 ∙ ap written says

      pub only : (q : Shape) → Valid q → s ≡ written q → shape n h w (take (m - 0) masks) ≡ q
      only q v e = sym says ∙ ap plan_of e ∙ (complete q v).1
