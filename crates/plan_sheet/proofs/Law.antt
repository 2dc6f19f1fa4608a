-- A sheet that passes is the one sheet of a plan.
use Rattle.std.proofs.Common.{◌≡◌, ℕ, zero, suc, ◌+◌, ◌-◌, ◌*◌, ◌%◌, ◌^◌, ◌<◌, ◌≤◌, Bool, true, List, [], ◌∷◌, ◌++◌, map, length, get_or, take, drop, is_some, Some, None, Option, unwrap_or, sym, refl, ap, ◌∙◌, mul-one, mul-add, arith, take-add}
use Rattle.std.specs.List.{flat_map, range_with_len}
use Rattle.std.proofs.lemmas.List.{take-append-drop, drop-drop, take_more, get_or-drop, length-take-le, length-drop, drop_all}
use Rattle.std.proofs.lemmas.Bool.{eqb-true, leb-true, and_parts, false≢true}
use Rattle.checks.specs.Checks.{first_refusal}
use Rattle.plan_sheet.specs.declared.refusal.Refusal.TheVariants.{Layout}
use Rattle.plan.specs.Shape.{is_trustees, is_groups}
use Rattle.sizes.specs.Sizes.{is_height, is_width}
use Rattle.columns.specs.Number.{right, number}
use Rattle.plan_sheet.specs.Written.{group_line}
use Rattle.plan_sheet.specs.Checks.{formed, fed, field_at, worth, quantity_checks, field_checks, entries, mask_at, line_checks, members_check, heading_checks, groups_check, line_count, checks, n_of, h_of, w_of, m_of}
use Rattle.plan_sheet.proofs.Passing.{first_passes, parts_pass, each_passes}
use Rattle.plan_sheet.proofs.Lines.{lines}
use Rattle.plan_sheet.proofs.Cells.{cell, Under, field_is, entries_written}
use Rattle.plan.proofs.Tested.{tested_at}
use Rattle.columns.proofs.Text.{number_is}
use Rattle.plan_sheet.proofs.Fields.{place_next}

-- fields one after another
pub pieces : (w base : ℕ) (s : List ℕ) (f k : ℕ) → 1 ≤ f → take (w * k) (drop (base + w * (f - 1)) s) ≡ flat_map (λ g. take w (drop (base + w * (g - 1)) s)) (range_with_len f k)
pieces w base s f zero h = let z : w * zero ≡ 0 = omega arith in ap (λ j. take j (drop (base + w * (f - 1)) s)) z
pieces w base s f (suc k) h =
    let here = base + w * (f - 1) in
    let e : suc k ≡ 1 + k = omega arith in
    let n : w * suc k ≡ w + w * k = ap (λ j. w * j) e ∙ mul-add w 1 k ∙ ap (λ z. z + w * k) (mul-one w) in
    let f1 : (f + 1) - 1 ≡ f = omega arith in
    let on : here + w ≡ base + w * ((f + 1) - 1) = omega (arith, place_next w f h, ap (λ j. w * j) f1) in
    ap (λ j. take j (drop here s)) n ∙ take-add w (w * k) (drop here s) ∙ ap (λ xs. take w (drop here s) ++ xs) (ap (take (w * k)) (drop-drop w here s ∙ ap (λ j. drop j s) on) ∙ pieces w base s (f + 1) k (omega arith))

-- joined over equal parts
pub joined_same : (F : ℕ → List ℕ) (G : ℕ → List ℕ) (V : ℕ → ℕ) (a k : ℕ) → ((g : ℕ) → a ≤ g → g < a + k → F g ≡ G (V g)) → flat_map F (range_with_len a k) ≡ flat_map G (map V (range_with_len a k))
joined_same F G V a zero h = refl
joined_same F G V a (suc k) h = ap (λ xs. xs ++ flat_map F (range_with_len (a + 1) k)) (h a (omega arith) (omega arith)) ∙ ap (λ xs. G (V a) ++ xs) (joined_same F G V (a + 1) k (λ g l u. h g (omega arith) (omega arith)))

pub length_from : (V : ℕ → ℕ) (a k : ℕ) → length (map V (range_with_len a k)) ≡ k
length_from V a zero = refl
length_from V a (suc k) = ap suc (length_from V (a + 1) k)

pub under_from : (n : ℕ) (V : ℕ → ℕ) (a k : ℕ) → ((g : ℕ) → a ≤ g → g < a + k → V g ≤ n) → Under n (map V (range_with_len a k))
under_from n V a zero h = tt
under_from n V a (suc k) h = (h a (omega arith) (omega arith), under_from n V (a + 1) k (λ g l u. h g (omega arith) (omega arith)))

-- a line of 24 columns and a line feed
pub line_is : (s : List ℕ) (l : ℕ) → 1 ≤ l → 25 * l ≤ length s → fed s l ≡ true → drop (25 * (l - 1)) s ≡ (take 24 (drop (25 * (l - 1)) s) ++ 10 ∷ []) ++ drop (25 * ((l + 1) - 1)) s
line_is s l low long f =
    let b = 25 * (l - 1) in
    let rest = drop b s in
    let lf : get_or rest 24 0 ≡ 10 = get_or-drop b s 24 0 ∙ eqb-true _ _ f in
    let more : take 25 rest ≡ take 24 rest ++ get_or rest 24 0 ∷ [] = take_more rest 24 0 (omega (arith, length-drop b s)) in
    let on : b + 25 ≡ 25 * ((l + 1) - 1) = omega arith in
    sym (take-append-drop 25 rest) ∙ ap (λ xs. xs ++ drop 25 rest) (more ∙ ap (λ c. take 24 rest ++ c ∷ []) lf) ∙ ap (λ xs. (take 24 rest ++ 10 ∷ []) ++ xs) (drop-drop 25 b s ∙ ap (λ j. drop j s) on)

pub field_long : (w : ℕ) (s : List ℕ) (l g : ℕ) → 1 ≤ g → w * g ≤ 24 → 1 ≤ l → 25 * l ≤ length s → length (field_at w s l g) ≡ w
field_long w s l g g1 short low long =
    length-take-le w (drop (25 * (l - 1) + w * (g - 1)) s) (omega (arith, length-drop (25 * (l - 1) + w * (g - 1)) s, place_next w g g1))

module _ (s : List ℕ) (n-small : n_of s ≤ 8) where
  -- a group line that passes
  pub group_is : (l : ℕ) → 1 ≤ l → 25 * l ≤ length s → fed s l ≡ true → first_refusal (line_checks s l) ≡ None → take 24 (drop (25 * (l - 1)) s) ++ 10 ∷ [] ≡ group_line (mask_at s l)
  unfolding line_checks
  group_is l low long f h =
      let p = parts_pass (flat_map (field_checks s l) (range_with_len 1 8)) (members_check s l ∷ []) h in
      let m = first_passes _ _ _ p.1 in
      let o = and_parts _ _ m.0 in
      let one = λ (g : ℕ) (a : 1 ≤ g) (b : g < 1 + 8). field_is (n_of s) l g (field_at 3 s l g) (field_long 3 s l g a (omega arith) low long) (each_passes (field_checks s l) 1 8 p.0 g a b) in
      let under : Under 8 (entries s l 1 8) = under_from 8 (λ g. worth (field_at 3 s l g)) 1 8 (λ g a b. omega (arith, (one g a b).1)) in
      let zero-place : 25 * (l - 1) ≡ 25 * (l - 1) + 3 * (1 - 1) = omega arith in
      ap (λ xs. xs ++ 10 ∷ []) (ap (λ j. take 24 (drop j s)) zero-place ∙ pieces 3 (25 * (l - 1)) s 1 8 (omega arith) ∙ joined_same (field_at 3 s l) cell (λ g. worth (field_at 3 s l g)) 1 8 (λ g a b. (one g a b).0) ∙ entries_written (entries s l 1 8) refl o.0 under)

  -- all group lines from one on
  pub groups_are : (l k : ℕ) → 1 ≤ l → 25 * (l - 1) + 25 * k ≡ length s → ((g : ℕ) → l ≤ g → g < l + k → fed s g ≡ true) → ((g : ℕ) → l ≤ g → g < l + k → first_refusal (line_checks s g) ≡ None)
      → drop (25 * (l - 1)) s ≡ flat_map group_line (map (mask_at s) (range_with_len l k))
  groups_are l zero low long f h = drop_all (25 * (l - 1)) s (omega arith)
  groups_are l (suc k) low long f h =
      let fl = f l (omega arith) (omega arith) in
      line_is s l low (omega arith) fl
      ∙ ap (λ xs. xs ++ drop (25 * ((l + 1) - 1)) s) (group_is l low (omega arith) fl (h l (omega arith) (omega arith)))
      ∙ ap (λ xs. group_line (mask_at s l) ++ xs) (groups_are (l + 1) k (omega arith) (omega arith) (λ g a b. f g (omega arith) (omega arith)) (λ g a b. h g (omega arith) (omega arith)))

pub from_some : (o : Option ℕ) → is_some o ≡ true → o ≡ Some (unwrap_or o 0)
from_some None e = absurd (false≢true e)
from_some (Some x) e = refl

-- a number of the heading that passes
pub quantity_is : (range : ℕ → Bool) (l f : ℕ) (bytes : List ℕ) → length bytes ≡ 6 → first_refusal (quantity_checks range l f bytes) ≡ None → (bytes ≡ right 6 (worth bytes)) × (range (worth bytes) ≡ true)
unfolding quantity_checks
quantity_is range l f bytes long h =
    let a = first_passes _ _ _ h in
    let b = first_passes _ _ _ a.1 in
    let w = number_is bytes (worth bytes) (omega arith) (from_some (number bytes) a.0) in
    (w.0 ∙ ap (λ k. right k (worth bytes)) long, b.0)

-- what it means that a sheet passes, part by part
pub record Passed (s : List ℕ) : Type 0 where
  pub whole : length s ≡ 25 * line_count s
  pub feeds : (l : ℕ) → 1 ≤ l → l < 1 + line_count s → fed s l ≡ true
  pub n_in : is_trustees (n_of s) ≡ true
  pub h_in : is_height (h_of s) ≡ true
  pub w_in : is_width (w_of s) ≡ true
  pub m_in : is_groups (m_of s) ≡ true
  pub n_field : field_at 6 s 1 1 ≡ right 6 (n_of s)
  pub h_field : field_at 6 s 1 2 ≡ right 6 (h_of s)
  pub w_field : field_at 6 s 1 3 ≡ right 6 (w_of s)
  pub m_field : field_at 6 s 1 4 ≡ right 6 (m_of s)
  pub count : m_of s + 1 ≡ line_count s
  pub keys : m_of s ≤ 2 ^ h_of s
  pub lines : (l : ℕ) → 2 ≤ l → l < 2 + m_of s → first_refusal (line_checks s l) ≡ None

pub passed : (s : List ℕ) → first_refusal (checks s) ≡ None → Passed s
unfolding checks
passed s e =
    let all = parts_pass ((formed s, Layout) ∷ [] ++ heading_checks s ++ groups_check s ∷ []) (lines s) e in
    let front = parts_pass ((formed s, Layout) ∷ [] ++ heading_checks s) (groups_check s ∷ []) all.0 in
    let two = parts_pass ((formed s, Layout) ∷ []) (heading_checks s) front.0 in
    let a = first_passes _ _ _ two.0 in
    let c = first_passes _ _ _ front.1 in
    let form = and_parts _ _ a.0 in
    let size = and_parts _ _ form.0 in
    let rem : length s % 25 ≡ 0 = eqb-true _ _ size.0 in
    let long : 50 ≤ length s = leb-true _ _ size.1 in
    let n = quantity_checks is_trustees 1 1 (field_at 6 s 1 1) in
    let h = quantity_checks is_height 1 2 (field_at 6 s 1 2) in
    let w = quantity_checks is_width 1 3 (field_at 6 s 1 3) in
    let q4 = parts_pass (n ++ h ++ w) (quantity_checks is_groups 1 4 (field_at 6 s 1 4)) two.1 in
    let q3 = parts_pass (n ++ h) w q4.0 in
    let q2 = parts_pass n h q3.0 in
    let f1 = quantity_is is_trustees 1 1 (field_at 6 s 1 1) (field_long 6 s 1 1 (omega arith) (omega arith) (omega arith) (omega arith)) q2.0 in
    let f2 = quantity_is is_height 1 2 (field_at 6 s 1 2) (field_long 6 s 1 2 (omega arith) (omega arith) (omega arith) (omega arith)) q2.1 in
    let f3 = quantity_is is_width 1 3 (field_at 6 s 1 3) (field_long 6 s 1 3 (omega arith) (omega arith) (omega arith) (omega arith)) q3.1 in
    let f4 = quantity_is is_groups 1 4 (field_at 6 s 1 4) (field_long 6 s 1 4 (omega arith) (omega arith) (omega arith) (omega arith)) q4.1 in
    let g = and_parts _ _ c.0 in
    let cnt : m_of s + 1 ≡ line_count s = eqb-true _ _ g.0 in
    let k : line_count s - 1 ≡ m_of s = omega arith in
    let each = each_passes (line_checks s) 2 (line_count s - 1) all.1 in
    record {
      whole = omega arith;
      feeds = tested_at (fed s) 1 (line_count s) form.1;
      n_in = f1.1;
      h_in = f2.1;
      w_in = f3.1;
      m_in = f4.1;
      n_field = f1.0;
      h_field = f2.0;
      w_field = f3.0;
      m_field = f4.0;
      count = cnt;
      keys = leb-true _ _ g.1;
      lines = λ l low high. each l low (omega (arith, k));
    }
