-- A number of the heading, read at its place.
use Rattle.std.proofs.Common.{◌≡◌, ℕ, ◌+◌, Bool, true, false, List, [], ◌∷◌, ◌++◌, is_some, Some, None, Option, unwrap_or, sym, refl, ap, ◌∙◌}
use Rattle.checks.specs.Checks.{first_refusal}
use Rattle.checks.proofs.Ordered.{before, behind}
use Rattle.columns.specs.Number.{number}
use Rattle.plan_sheet.specs.declared.refusal.Refusal.{Refusal}
use Rattle.plan_sheet.specs.declared.refusal.Refusal.TheVariants.{NoNumber, OutOfRange}
use Rattle.sizes.specs.Sizes.{is_height, is_width}
use Rattle.plan.specs.Shape.{is_trustees, is_groups}
use Rattle.plan_sheet.specs.Checks.{field_at, worth, quantity_checks, heading_checks}
use Rattle.plan_sheet.proofs.Passing.{both_pass}

-- a field that holds a number
module _ (range : ℕ → Bool) (l f : ℕ) (bytes : List ℕ) (v : ℕ) (is : number bytes ≡ Some v) where
  quantity_checked : first_refusal (quantity_checks range l f bytes) ≡ first_refusal ((range v, OutOfRange l f) ∷ [])
  unfolding quantity_checks
  quantity_checked = ap (λ o. first_refusal ((is_some o, NoNumber l f) ∷ (range (unwrap_or o 0), OutOfRange l f) ∷ [])) is

  pub quantity_in : range v ≡ true → first_refusal (quantity_checks range l f bytes) ≡ None
  quantity_in e = quantity_checked ∙ ap (λ b. first_refusal ((b, OutOfRange l f) ∷ [])) e

  pub quantity_out : range v ≡ false → first_refusal (quantity_checks range l f bytes) ≡ Some (OutOfRange l f)
  quantity_out e = quantity_checked ∙ ap (λ b. first_refusal ((b, OutOfRange l f) ∷ [])) e

pub worth_is : (bytes : List ℕ) (v : ℕ) → number bytes ≡ Some v → worth bytes ≡ v
worth_is bytes v is = ap (λ o. unwrap_or o 0) is

-- the cursor stands at field f of the heading of a sheet
abbrev pub Stands : List ℕ → ℕ → List ℕ → ℕ → ℕ → Type 0
Stands s f sheet line field = (sheet ≡ s) × (line ≡ 1) × (field ≡ f)

pub standing : (s : List ℕ) {line field : ℕ} → line ≡ 1 → field ≡ 1 → Stands s 1 s line field
standing s l f = (refl, l, f)

pub onward : {s sheet sheet' : List ℕ} {f line field line' field' : ℕ} → Stands s f sheet line field → (sheet' ≡ sheet) × (line' ≡ line) × (field' ≡ field + 1) → Stands s (f + 1) sheet' line' field'
onward a m = (m.0 ∙ a.0, m.1 ∙ a.1, m.2 ∙ ap (λ k. k + 1) a.2)

at_place : {X : Type 0} (F : List ℕ → ℕ → ℕ → X) {s sheet : List ℕ} {f line field : ℕ} → Stands s f sheet line field → F sheet line field ≡ F s 1 f
at_place F {s} {sheet} {f} {line} {field} a = λ i. F (a.0 i) (a.1 i) (a.2 i)

pub answer_there : (range : ℕ → Bool) {s sheet : List ℕ} {f line field : ℕ} {o : Option Refusal} → Stands s f sheet line field → first_refusal (quantity_checks range line field (field_at 6 sheet line field)) ≡ o → first_refusal (quantity_checks range 1 f (field_at 6 s 1 f)) ≡ o
answer_there range a e = sym (at_place (λ x l k. first_refusal (quantity_checks range l k (field_at 6 x l k))) a) ∙ e

pub worth_there : {s sheet : List ℕ} {f line field n : ℕ} → Stands s f sheet line field → n ≡ worth (field_at 6 sheet line field) → n ≡ worth (field_at 6 s 1 f)
worth_there a e = e ∙ at_place (λ x l k. worth (field_at 6 x l k)) a

-- the four fields one after the other: the first that is refused, or none
module _ (s : List ℕ) where
  abbrev n : List (Bool × Refusal)
  n = quantity_checks is_trustees 1 1 (field_at 6 s 1 1)

  abbrev h : List (Bool × Refusal)
  h = quantity_checks is_height 1 2 (field_at 6 s 1 2)

  abbrev w : List (Bool × Refusal)
  w = quantity_checks is_width 1 3 (field_at 6 s 1 3)

  abbrev m : List (Bool × Refusal)
  m = quantity_checks is_groups 1 4 (field_at 6 s 1 4)

  pub stop_trustees : {e : Refusal} → first_refusal n ≡ Some e → first_refusal (heading_checks s) ≡ Some e
  stop_trustees {e} x = before (n ++ h ++ w) m e (before (n ++ h) w e (before n h e x))

  pub stop_height : {e : Refusal} → first_refusal n ≡ None → first_refusal h ≡ Some e → first_refusal (heading_checks s) ≡ Some e
  stop_height {e} a x = before (n ++ h ++ w) m e (before (n ++ h) w e (behind n h a ∙ x))

  pub stop_width : {e : Refusal} → first_refusal n ≡ None → first_refusal h ≡ None → first_refusal w ≡ Some e → first_refusal (heading_checks s) ≡ Some e
  stop_width {e} a b x = before (n ++ h ++ w) m e (behind (n ++ h) w (both_pass n h a b) ∙ x)

  pub groups_decide : {o : Option Refusal} → first_refusal n ≡ None → first_refusal h ≡ None → first_refusal w ≡ None → first_refusal m ≡ o → first_refusal (heading_checks s) ≡ o
  groups_decide a b c x = behind (n ++ h ++ w) m (both_pass (n ++ h) w (both_pass n h a b) c) ∙ x
