-- The checks of a sheet rise by the places that they name.
use Rattle.std.proofs.Common.{◌≡◌, ℕ, zero, suc, ◌+◌, ◌-◌, ◌*◌, ◌<◌, ◌≤◌, Bool, true, false, cond, eqb, ◌⊎◌, List, [], ◌∷◌, ◌++◌, is_some, Some, None, Option, sym, ap, ◌∙◌, subst, ⊎_elim, slice_get, arith}
use Rattle.std.specs.List.{flat_map, range_with_len}
use Rattle.std.proofs.lemmas.Bool.{ne_eqb, cond-false, cases_order, false≢true}
use Rattle.std.proofs.lemmas.Option.{none-some, same_Some}
use Rattle.checks.proofs.Ordered.{refuser}
use Rattle.columns.specs.Number.{number}
use Rattle.plan_sheet.specs.declared.refusal.Refusal.{Refusal}
use Rattle.plan_sheet.specs.declared.refusal.Refusal.TheVariants.{Layout, NoNumber, OutOfRange}
use Rattle.sizes.specs.Sizes.{is_height, is_width}
use Rattle.plan.specs.Shape.{is_trustees, is_groups}
use Rattle.plan_sheet.specs.Checks.{field_at, worth, formed, quantity_checks, heading_checks, groups_check, entry_checks, field_checks, members_check, line_checks, line_count, checks}
use Rattle.plan_sheet.specs.Order.{rank, InPlace}

-- checks whose ranks rise from one number on to below another
abbrev Ranked : ℕ → List (Bool × Refusal) → ℕ → Type 0
Ranked low [] high = low ≤ high
Ranked low (check ∷ checks) high = (low ≤ rank check.1) × Ranked (rank check.1 + 1) checks high

lower : (a b c : ℕ) (xs : List (Bool × Refusal)) → a ≤ b → Ranked b xs c → Ranked a xs c
lower a b c [] l r = omega arith
lower a b c (x ∷ xs) l r = (omega (arith, r.0), r.1)

joined : (a b c : ℕ) (xs ys : List (Bool × Refusal)) → Ranked a xs b → Ranked b ys c → Ranked a (xs ++ ys) c
joined a b c [] ys r q = lower a b c ys r q
joined a b c (x ∷ xs) ys r q = (r.0, joined (rank x.1 + 1) b c xs ys r.1 q)

-- a part for each of k numbers from a on, each between its bounds
spread : (bound : ℕ → ℕ) (part : ℕ → List (Bool × Refusal)) (a k : ℕ) → ((g : ℕ) → 1 ≤ g → Ranked (bound g) (part g) (bound (g + 1))) → 1 ≤ a
    → Ranked (bound a) (flat_map part (range_with_len a k)) (bound (a + k))
spread bound part a zero h l = let e : a ≡ a + 0 = omega arith in omega (arith, ap bound e)
spread bound part a (suc k) h l =
    let e : (a + 1) + k ≡ a + suc k = omega arith in
    joined (bound a) (bound (a + 1)) (bound (a + suc k)) (part a) (flat_map part (range_with_len (a + 1) k)) (h a l)
    (subst (λ n. Ranked (bound (a + 1)) (flat_map part (range_with_len (a + 1) k)) (bound n)) e (spread bound part (a + 1) k h (omega arith)))

-- the two checks of a field
field_ranked : (l f : ℕ) (number range : Bool) → 1 ≤ f → Ranked (100 * l + 10 * f) ((number, NoNumber l f) ∷ (range, OutOfRange l f) ∷ []) (100 * l + 10 * f + 4)
field_ranked l f number range low =
    let e : cond (eqb f 0) 9 f ≡ f = cond-false (eqb f 0) 9 f (ne_eqb f 0 (λ z. omega arith)) in
    (omega (arith, e), (omega arith, omega (arith, e)))

quantity_ranked : (range : ℕ → Bool) (f : ℕ) (bytes : List ℕ) → 1 ≤ f → Ranked (100 + 10 * f) (quantity_checks range 1 f bytes) (100 + 10 * f + 4)
unfolding quantity_checks
quantity_ranked range f bytes low = field_ranked 1 f (is_some (number bytes)) (range (worth bytes)) low

module _ (s : List ℕ) (l : ℕ) where
  entry_ranked : (f : ℕ) → 1 ≤ f → Ranked (100 * l + 10 * f) (field_checks s l f) (100 * l + 10 * (f + 1))
  unfolding entry_checks
  entry_ranked f low = let r = field_ranked l f true true low in (r.0, (r.1.0, omega (arith, r.1.1)))

  line_ranked : Ranked (100 * l) (line_checks s l) (100 * (l + 1))
  unfolding line_checks
  line_ranked =
      let fields = spread (λ f. 100 * l + 10 * f) (field_checks s l) 1 8 entry_ranked (omega arith) in
      joined (100 * l) (100 * l + 10 * 9) (100 * (l + 1)) (flat_map (field_checks s l) (range_with_len 1 8)) (members_check s l ∷ [])
      (lower (100 * l) (100 * l + 10 * 1) (100 * l + 10 * 9) (flat_map (field_checks s l) (range_with_len 1 8)) (omega arith) fields)
      (omega arith, omega arith)

sheet_ranked : (s : List ℕ) → Ranked 0 (checks s) (100 * (2 + (line_count s - 1)))
unfolding checks
sheet_ranked s =
    let n = quantity_checks is_trustees 1 1 (field_at 6 s 1 1) in
    let h = quantity_checks is_height 1 2 (field_at 6 s 1 2) in
    let w = quantity_checks is_width 1 3 (field_at 6 s 1 3) in
    let m = quantity_checks is_groups 1 4 (field_at 6 s 1 4) in
    let form : List (Bool × Refusal) = (formed s, Layout) ∷ [] in
    let lines = flat_map (line_checks s) (range_with_len 2 (line_count s - 1)) in
    let two = joined 110 114 124 n h (quantity_ranked is_trustees 1 (field_at 6 s 1 1) (omega arith)) (lower 114 120 124 h (omega arith) (quantity_ranked is_height 2 (field_at 6 s 1 2) (omega arith))) in
    let three = joined 110 124 134 (n ++ h) w two (lower 124 130 134 w (omega arith) (quantity_ranked is_width 3 (field_at 6 s 1 3) (omega arith))) in
    let four = joined 110 134 144 (n ++ h ++ w) m three (lower 134 140 144 m (omega arith) (quantity_ranked is_groups 4 (field_at 6 s 1 4) (omega arith))) in
    let head = joined 0 110 144 form (heading_checks s) (omega arith, omega arith) four in
    let counted = joined 0 144 200 (form ++ heading_checks s) (groups_check s ∷ []) head (omega arith, omega arith) in
    joined 0 200 (100 * (2 + (line_count s - 1))) (form ++ heading_checks s ++ groups_check s ∷ []) lines counted
    (spread (λ l. 100 * l) (line_checks s) 2 (line_count s - 1) (λ l low. line_ranked s l) (omega arith))

-- what rising checks say of two of them
from_low : (a b : ℕ) (xs : List (Bool × Refusal)) → Ranked a xs b → (i : ℕ) (x : Bool × Refusal) → slice_get xs i ≡ Some x → a ≤ rank x.1
from_low a b [] r i x e = absurd (none-some x e)
from_low a b (y ∷ ys) r zero x e = omega (arith, r.0, ap (λ (z : Bool × Refusal). rank z.1) (same_Some y x e))
from_low a b (y ∷ ys) r (suc i) x e = omega (arith, r.0, from_low (rank y.1 + 1) b ys r.1 i x e)

rises : (a b : ℕ) (xs : List (Bool × Refusal)) → Ranked a xs b → (i j : ℕ) (x y : Bool × Refusal) → i < j → slice_get xs i ≡ Some x → slice_get xs j ≡ Some y → rank x.1 < rank y.1
rises a b [] r i j x y l e f = absurd (none-some x e)
rises a b (z ∷ zs) r i zero x y l e f = absurd (omega arith)
rises a b (z ∷ zs) r zero (suc j) x y l e f = omega (arith, ap (λ (z : Bool × Refusal). rank z.1) (same_Some z x e), from_low (rank z.1 + 1) b zs r.1 j y f)
rises a b (z ∷ zs) r (suc i) (suc j) x y l e f = rises (rank z.1 + 1) b zs r.1 i j x y (omega arith) e f

pub in_place : InPlace
in_place = record {
  rising = λ s i j a b l e f. rises 0 _ (checks s) (sheet_ranked s) i j a b l e f;
  lowest = λ s e h i r f.
      let first = refuser (checks s) e h in
      ⊎_elim
      (λ (same : first.0 ≡ i). omega (arith, ap (λ (o : Option (Bool × Refusal)). of_check o) (sym first.1.fails ∙ ap (slice_get (checks s)) same ∙ f)))
      (λ (o : (first.0 < i) ⊎ (i < first.0)).
      ⊎_elim
      (λ (l : first.0 < i). omega (arith, rises 0 _ (checks s) (sheet_ranked s) first.0 i (false, e) (false, r) l first.1.fails f))
      (λ (l : i < first.0). absurd (false≢true (first.1.before i (false, r) l f)))
      o)
      (cases_order first.0 i);
}
  where
    of_check : Option (Bool × Refusal) → ℕ
    of_check None = 0
    of_check (Some check) = rank check.1
