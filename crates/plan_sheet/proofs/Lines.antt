-- The steps of the loops over the lines of a sheet.
use Rattle.std.proofs.Common.{◌≡◌, ℕ, ◌+◌, ◌-◌, ◌^◌, ◌<◌, ◌≤◌, Bool, true, false, ◌&&◌, eqb, leb, List, [], ◌∷◌, ◌++◌, length, get_or, set, take, drop, Some, None, sym, ap, ◌∙◌, subst, ⊎_elim, arith}
use Rattle.std.proofs.lemmas.List.{get_or_append_left, get_or-set_same, get_or-set_other, length-set, length-take-le, length-append, length-drop}
use Rattle.std.proofs.lemmas.Bool.{ne_eqb, cond-false, cases_eq, and_parts, eqb-true, leb-true}
use Rattle.std.specs.List.{flat_map, range_with_len}
use Rattle.checks.specs.Checks.{first_refusal}
use Rattle.checks.proofs.Ordered.{before, behind}
use Rattle.plan.specs.Shape.{Within, Rising}
use Rattle.plan_sheet.specs.declared.refusal.Refusal.{Refusal}
use Rattle.plan_sheet.specs.declared.refusal.Refusal.TheVariants.{Layout, Groups}
use Rattle.plan_sheet.specs.Checks.{formed, line_checks, line_count, mask_at, above_at, Lined, heading_checks, groups_check, checks, m_of, h_of}
use Rattle.plan_sheet.proofs.Passing.{both_pass}
use Rattle.plan_sheet.proofs.Groups.{from_next}

pub above_next : (s : List ℕ) (i : ℕ) → above_at s ((i + 1) + 2) ≡ mask_at s (i + 2)
above_next s i =
    let e : ((i + 1) + 2) - 1 ≡ i + 2 = omega arith in
    cond-false (eqb ((i + 1) + 2) 2) 0 (mask_at s (((i + 1) + 2) - 1)) (ne_eqb _ _ (λ x. omega arith)) ∙ ap (mask_at s) e

-- i of m group lines are read
pub record Lining (s : List ℕ) (n m i line above : ℕ) (masks : List ℕ) : Type 0 where
  pub at : line ≡ i + 1
  pub long : m ≤ length masks
  pub rest : first_refusal (flat_map (line_checks s) (range_with_len 2 m)) ≡ first_refusal (flat_map (line_checks s) (range_with_len (i + 2) (m - i)))
  pub last : above ≡ above_at s (i + 2)
  pub each : (g : ℕ) → g < i → get_or masks g 0 ≡ mask_at s (g + 2)
  pub within : Within (2 ^ n) i masks
  pub rising : Rising i masks

module _ (s : List ℕ) (n m i line above : ℕ) (masks : List ℕ) (z : Lining s n m i line above masks) (h : i < m) where
  abbrev behind_it : List (Bool × Refusal)
  behind_it = flat_map (line_checks s) (range_with_len ((i + 1) + 2) (m - (i + 1)))

  -- the next line, and those behind it
  lining_split : first_refusal (flat_map (line_checks s) (range_with_len 2 m)) ≡ first_refusal (line_checks s (i + 2) ++ behind_it)
  lining_split =
      let e : (i + 2) + 1 ≡ (i + 1) + 2 = omega arith in
      let k : (m - i) - 1 ≡ m - (i + 1) = omega arith in
      z.rest ∙ ap (λ ls. first_refusal (flat_map (line_checks s) ls)) (from_next (i + 2) (m - i) (omega arith) ∙ ap (λ a. (i + 2) ∷ range_with_len a ((m - i) - 1)) e ∙ ap (λ a. (i + 2) ∷ range_with_len ((i + 1) + 2) a) k)

  pub lining_stop : (e : Refusal) → first_refusal (line_checks s (i + 2)) ≡ Some e → first_refusal (flat_map (line_checks s) (range_with_len 2 m)) ≡ Some e
  lining_stop e f = lining_split ∙ before (line_checks s (i + 2)) behind_it e f

  pub lining_next : first_refusal (line_checks s (i + 2)) ≡ None → (mask : ℕ) → mask ≡ mask_at s (i + 2) → above < mask → mask < 2 ^ n
      → (line' : ℕ) → line' ≡ line + 1 → Lining s n m (i + 1) line' mask (set masks i mask)
  lining_next f mask me lt un line' le =
      let in_range : i < length masks = omega (arith, z.long) in
      let here : get_or (set masks i mask) i 0 ≡ mask = get_or-set_same masks i mask 0 in_range in
      let there : (g : ℕ) → g < i → get_or (set masks i mask) g 0 ≡ get_or masks g 0 = λ g l. get_or-set_other masks i g mask 0 (λ e. omega arith) in
      record {
        at = omega (arith, z.at);
        long = omega (arith, length-set masks i mask, z.long);
        rest = lining_split ∙ behind (line_checks s (i + 2)) behind_it f;
        last = me ∙ sym (above_next s i);
        each = λ g l. ⊎_elim (λ (e : g ≡ i). subst (λ x. get_or (set masks i mask) x 0 ≡ mask_at s (x + 2)) (sym e) (here ∙ me)) (λ (ne : g ≡ i → ⊥). there g (omega arith) ∙ z.each g (omega arith)) (cases_eq g i);
        within = λ g l. ⊎_elim (λ (e : g ≡ i). subst (λ x. (1 ≤ get_or (set masks i mask) x 0) × (get_or (set masks i mask) x 0 < 2 ^ n)) (sym e) (omega (arith, here), omega (arith, here))) (λ (ne : g ≡ i → ⊥). (omega (arith, there g (omega arith), (z.within g (omega arith)).0), omega (arith, there g (omega arith), (z.within g (omega arith)).1))) (cases_eq g i);
        rising = λ g l. ⊎_elim (λ (e : g + 1 ≡ i). subst (λ x. get_or (set masks i mask) g 0 < get_or (set masks i mask) x 0) (sym e) (omega (arith, here, there g (omega arith), z.each g (omega arith), z.last, subst (λ x. above_at s (x + 2) ≡ mask_at s (g + 2)) e (above_next s g)))) (λ (ne : g + 1 ≡ i → ⊥). omega (arith, there g (omega arith), there (g + 1) (omega arith), z.rising g (omega arith))) (cases_eq (g + 1) i);
      }

-- the masks of m lines, written to the front of some
pub taken_length : (m : ℕ) (masks : List ℕ) → m ≤ length masks → length (take (m - 0) (drop 0 masks)) ≡ m
taken_length m masks h = let e : m - 0 ≡ m = omega arith in ap (λ k. length (take k masks)) e ∙ length-take-le m masks h

pub kept_length : (m : ℕ) (masks front : List ℕ) → m ≤ length masks → length front ≡ m → length (front ++ drop (m - 0) (drop 0 masks)) ≡ length masks
kept_length m masks front h l =
    let e : m - 0 ≡ m = omega arith in
    length-append front (drop (m - 0) (drop 0 masks)) ∙ omega (arith, ap (λ k. length (drop k masks)) e, length-drop m masks)

pub lining_all : (s : List ℕ) (n m i line above : ℕ) (masks rest all : List ℕ) → Lining s n m i line above masks → i ≡ m → all ≡ masks ++ rest → length all ≡ 70 → Lined s n m all
lining_all s n m i line above masks rest all z e is long =
    let k : m - i ≡ 0 = omega arith in
    let front : (g : ℕ) → g < m → get_or all g 0 ≡ get_or masks g 0 = λ g h. ap (λ x. get_or x g 0) is ∙ get_or_append_left masks rest 0 g (omega (arith, z.long)) in
    record {
      passed = z.rest ∙ ap (λ j. first_refusal (flat_map (line_checks s) (range_with_len (i + 2) j))) k;
      each = λ g h. front g h ∙ z.each g (omega arith);
      within = λ g h. (omega (arith, front g h, (z.within g (omega arith)).0), omega (arith, front g h, (z.within g (omega arith)).1));
      rising = λ g h. omega (arith, front g (omega arith), front (g + 1) h, z.rising g (omega arith));
      long = long;
    }

-- the four parts of a sheet's checks, in their order
module _ (s : List ℕ) where
  abbrev form : List (Bool × Refusal)
  form = (formed s, Layout) ∷ []

  abbrev pub lines : List (Bool × Refusal)
  lines = flat_map (line_checks s) (range_with_len 2 (line_count s - 1))

  form_stops : formed s ≡ false → first_refusal form ≡ Some Layout
  form_stops f = ap (λ b. first_refusal ((b, Layout) ∷ [])) f

  form_passes : formed s ≡ true → first_refusal form ≡ None
  form_passes f = ap (λ b. first_refusal ((b, Layout) ∷ [])) f

  pub stop_form : formed s ≡ false → first_refusal (checks s) ≡ Some Layout
  unfolding checks
  stop_form f = before (form ++ heading_checks s ++ groups_check s ∷ []) lines Layout (before (form ++ heading_checks s) (groups_check s ∷ []) Layout (before form (heading_checks s) Layout (form_stops f)))

  pub stop_heading : formed s ≡ true → (e : Refusal) → first_refusal (heading_checks s) ≡ Some e → first_refusal (checks s) ≡ Some e
  unfolding checks
  stop_heading f e h = before (form ++ heading_checks s ++ groups_check s ∷ []) lines e (before (form ++ heading_checks s) (groups_check s ∷ []) e (behind form (heading_checks s) (form_passes f) ∙ h))

  pub stop_groups : formed s ≡ true → first_refusal (heading_checks s) ≡ None → (e : Refusal) → first_refusal (groups_check s ∷ []) ≡ Some e → first_refusal (checks s) ≡ Some e
  unfolding checks
  stop_groups f h e g = before (form ++ heading_checks s ++ groups_check s ∷ []) lines e (behind (form ++ heading_checks s) (groups_check s ∷ []) (both_pass form (heading_checks s) (form_passes f) h) ∙ g)

  pub past_groups : formed s ≡ true → first_refusal (heading_checks s) ≡ None → first_refusal (groups_check s ∷ []) ≡ None → first_refusal (checks s) ≡ first_refusal lines
  unfolding checks
  past_groups f h g = behind (form ++ heading_checks s ++ groups_check s ∷ []) lines (both_pass (form ++ heading_checks s) (groups_check s ∷ []) (both_pass form (heading_checks s) (form_passes f) h) g)

pub at_line : {X : Type 0} (F : List ℕ → ℕ → X) (s s' : List ℕ) (l l' : ℕ) → s ≡ s' → l ≡ l' → F s l ≡ F s' l'
at_line F s s' l l' p q = ap (λ x. F x l) p ∙ ap (F s') q

module _ (s : List ℕ) (g h : ℕ) (gm : g ≡ m_of s) (hm : h ≡ h_of s) where
  pub fits_is : (b : Bool) → b ≡ (eqb (g + 1) (line_count s) && leb g (2 ^ h)) → first_refusal (groups_check s ∷ []) ≡ first_refusal ((b, Groups) ∷ [])
  fits_is b e = sym (ap (λ x. first_refusal ((x, Groups) ∷ [])) (e ∙ ap (λ x. eqb (x + 1) (line_count s) && leb x (2 ^ h)) gm ∙ ap (λ x. eqb (m_of s + 1) (line_count s) && leb (m_of s) (2 ^ x)) hm))

pub fits_count : (s : List ℕ) (g h : ℕ) → true ≡ (eqb (g + 1) (line_count s) && leb g (2 ^ h)) → (g + 1 ≡ line_count s) × (g ≤ 2 ^ h)
fits_count s g h e = let p = and_parts _ _ (sym e) in (eqb-true _ _ p.0, leb-true _ _ p.1)
