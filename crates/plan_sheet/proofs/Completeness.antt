-- The sheet of a plan passes, and says that plan.
use Rattle.std.proofs.Common.{◌≡◌, ℕ, zero, suc, ◌+◌, ◌-◌, ◌*◌, ◌%◌, ◌^◌, ◌<◌, ◌≤◌, Bool, true, ◌&&◌, ◌||◌, eqb, ltb, leb, List, [], ◌∷◌, ◌++◌, map, length, get_or, drop, is_some, Some, None, unwrap_or, sym, refl, ap, ◌∙◌, subst, ⊎_elim, append_assoc, arith}
use Rattle.std.specs.List.{flat_map, range_with_len, list_all}
use Rattle.std.proofs.lemmas.List.{drop_at, drop-drop, length-append, append-nil}
use Rattle.std.proofs.lemmas.Bool.{eq-eqb, ne_eqb, le-leb, lt-ltb, leb-true, eqb-true, or_cases, or_right, and_from, and_parts, cond-false, cases_eq}
use Rattle.checks.specs.Checks.{first_refusal}
use Rattle.plan_sheet.specs.declared.refusal.Refusal.TheVariants.{NoNumber, OutOfRange, Members, Groups}
use Rattle.plan.specs.Shape.{Shape, Valid, is_trustees, is_groups}
use Rattle.sizes.specs.Sizes.{is_height, is_width}
use Rattle.columns.specs.Number.{right, number}
use Rattle.plan_sheet.specs.Written.{written, heading, group_line}
use Rattle.plan_sheet.specs.Entries.{orderly, mask_of}
use Rattle.plan_sheet.specs.Checks.{fed, formed, field_at, worth, quantity_checks, field_checks, entry_checks, entries, mask_at, above_at, line_checks, members_check, heading_checks, groups_check, line_count, checks, h_of, w_of, m_of}
use Rattle.columns.specs.Number.{blank}
use Rattle.plan_sheet.specs.Law.{plan_of, Complete}
use Rattle.columns.proofs.Text.{number_right, length_right}
use Rattle.plan_sheet.proofs.Cells.{cell}
use Rattle.plan_sheet.proofs.Passing.{both_pass, all_pass}
use Rattle.plan_sheet.proofs.Headings.{groups_decide}
use Rattle.plan_sheet.proofs.Lines.{past_groups, above_next}
use Rattle.plan_sheet.proofs.Tables.{spread, Spread, spreads, length_cell}
use Rattle.plan_sheet.proofs.Places.{length_joined, part_at, fed_is, field_at_is, map_from, all_tested}

-- a number in its range passes, and is read
pub quantity_reads : (range : ℕ → Bool) (l f v : ℕ) (bytes : List ℕ) → bytes ≡ right 6 v → v < 1000000000 → range v ≡ true → (first_refusal (quantity_checks range l f bytes) ≡ None) × (worth bytes ≡ v)
unfolding quantity_checks
quantity_reads range l f v bytes e small h =
    let n : number bytes ≡ Some v = ap number e ∙ number_right 6 v small in
    (ap (λ o. first_refusal ((is_some o, NoNumber l f) ∷ (range (unwrap_or o 0), OutOfRange l f) ∷ [])) n ∙ ap (λ b. first_refusal ((b, OutOfRange l f) ∷ [])) h, ap (λ o. unwrap_or o 0) n)

-- so is an entry
pub entry_reads : (n l f t : ℕ) → t ≤ n → n ≤ 8 → (first_refusal (entry_checks n l f (cell t)) ≡ None) × (worth (cell t) ≡ t)
unfolding entry_checks
entry_reads n l f t h n8 =
    ⊎_elim (λ (e : t ≡ 0). subst (λ x. (first_refusal (entry_checks n l f (cell x)) ≡ None) × (worth (cell x) ≡ x)) (sym e) (refl, refl))
    (λ (ne : t ≡ 0 → ⊥).
    let c : cell t ≡ right 3 t = cond-false (eqb t 0) _ (right 3 t) (ne_eqb t 0 ne) in
    let r : number (right 3 t) ≡ Some t = number_right 3 t (omega arith) in
    let w : worth (right 3 t) ≡ t = ap (λ o. unwrap_or o 0) r in
    let a : (blank (right 3 t) || is_some (number (right 3 t))) ≡ true = or_right _ _ (ap is_some r) in
    let b : (blank (right 3 t) || (leb 1 (worth (right 3 t)) && leb (worth (right 3 t)) n)) ≡ true = or_right _ _ (and_from (leb 1 (worth (right 3 t))) (leb (worth (right 3 t)) n) (le-leb 1 (worth (right 3 t)) (omega (arith, w))) (le-leb (worth (right 3 t)) n (omega (arith, w)))) in
    (ap (λ x. first_refusal (entry_checks n l f x)) c ∙ ap (λ x. first_refusal ((x, NoNumber l f) ∷ (blank (right 3 t) || (leb 1 (worth (right 3 t)) && leb (worth (right 3 t)) n), OutOfRange l f) ∷ [])) a ∙ ap (λ x. first_refusal ((x, OutOfRange l f) ∷ [])) b, ap worth c ∙ w))
    (cases_eq t 0)

abbrev pub shape : ℕ → ℕ → ℕ → List ℕ → Shape
shape n h w ms = record { trustees = n; height = h; width = w; masks = ms }

module _ (n h w : ℕ) (ms : List ℕ) (v : Valid (shape n h w ms)) where
  abbrev m : ℕ
  m = length ms

  abbrev sheet : List ℕ
  sheet = heading n h w m ++ flat_map group_line ms

  n_range : (1 ≤ n) × (n ≤ 8)
  n_range = let q = and_parts _ _ v.trustees_in in (leb-true _ _ q.0, leb-true _ _ q.1)

  m_range : (1 ≤ m) × (m ≤ 70)
  m_range = let q = and_parts _ _ v.groups_in in (leb-true _ _ q.0, leb-true _ _ q.1)

  h_small : h ≤ 10
  h_small = ⊎_elim (λ (a : eqb h 5 ≡ true). omega (arith, eqb-true _ _ a)) (λ (b : eqb h 10 ≡ true). omega (arith, eqb-true _ _ b)) (or_cases _ _ v.height_in)

  w_small : w ≤ 8
  w_small = ⊎_elim (λ (a : eqb w 1 ≡ true). omega (arith, eqb-true _ _ a)) (λ (x : (eqb w 2 || (eqb w 4 || eqb w 8)) ≡ true). ⊎_elim (λ (a : eqb w 2 ≡ true). omega (arith, eqb-true _ _ a)) (λ (y : (eqb w 4 || eqb w 8) ≡ true). ⊎_elim (λ (a : eqb w 4 ≡ true). omega (arith, eqb-true _ _ a)) (λ (a : eqb w 8 ≡ true). omega (arith, eqb-true _ _ a)) (or_cases _ _ y)) (or_cases _ _ x)) (or_cases _ _ v.width_in)

  abbrev four : List ℕ
  four = n ∷ h ∷ w ∷ m ∷ []

  four_long : (i : ℕ) → i < 4 → length (right 6 (get_or four i 0)) ≡ 6
  four_long zero l = length_right 6 n 3 (omega arith) (omega arith) (omega arith) (omega (arith, n_range.1))
  four_long (suc zero) l = length_right 6 h 3 (omega arith) (omega arith) (omega arith) (omega (arith, h_small))
  four_long (suc (suc zero)) l = length_right 6 w 3 (omega arith) (omega arith) (omega arith) (omega (arith, w_small))
  four_long (suc (suc (suc zero))) l = length_right 6 m 3 (omega arith) (omega arith) (omega arith) (omega (arith, m_range.1))
  four_long (suc (suc (suc (suc i)))) l = absurd (omega arith)

  spread_at : (i : ℕ) → i < m → Spread n (get_or ms i 0) (spread (get_or ms i 0))
  spread_at i l = spreads n (get_or ms i 0) n_range.0 n_range.1 (v.within i l).1

  cells_long : (i : ℕ) → i < m → (j : ℕ) → j < length (spread (get_or ms i 0)) → length (cell (get_or (spread (get_or ms i 0)) j 0)) ≡ 3
  cells_long i l j k = length_cell _ (omega (arith, (spread_at i l).under j (omega (arith, (spread_at i l).long)), n_range.1))

  line_long : (i : ℕ) → i < m → length (group_line (get_or ms i 0)) ≡ 25
  line_long i l =
      ap length (spread_at i l).text ∙ length-append (flat_map cell (spread (get_or ms i 0))) (10 ∷ []) ∙ omega (arith, length_joined cell 3 (spread (get_or ms i 0)) (cells_long i l), (spread_at i l).long)

  heading_long : length (heading n h w m) ≡ 25
  heading_long = length-append (flat_map (right 6) four) (10 ∷ []) ∙ omega (arith, length_joined (right 6) 6 four four_long)

  sheet_long : length sheet ≡ 25 * (m + 1)
  sheet_long = length-append (heading n h w m) (flat_map group_line ms) ∙ omega (arith, heading_long, length_joined group_line 25 ms line_long)

  -- the heading's text, and that of group i
  head_text : drop (25 * (1 - 1)) sheet ≡ flat_map (right 6) four ++ (10 ∷ flat_map group_line ms)
  head_text = append_assoc (flat_map (right 6) four) (10 ∷ []) (flat_map group_line ms)

  line_text : (i : ℕ) → i < m → (more : List ℕ) × (drop (25 * ((i + 2) - 1)) sheet ≡ flat_map cell (spread (get_or ms i 0)) ++ (10 ∷ more))
  line_text i l =
      let r = part_at group_line 25 ms [] line_long i l in
      let e : 25 * ((i + 2) - 1) ≡ 25 + 25 * i = omega arith in
      (r.0, ap (λ j. drop j sheet) e ∙ sym (drop-drop (25 * i) 25 sheet) ∙ ap (drop (25 * i)) (drop_at (heading n h w m) (flat_map group_line ms) 25 heading_long ∙ sym (append-nil (flat_map group_line ms))) ∙ r.1 ∙ ap (λ xs. xs ++ r.0) (spread_at i l).text ∙ append_assoc (flat_map cell (spread (get_or ms i 0))) (10 ∷ []) r.0)

  q_at : (range : ℕ → Bool) (f : ℕ) → 1 ≤ f → f < 5 → get_or four (f - 1) 0 < 1000000000 → range (get_or four (f - 1) 0) ≡ true → (first_refusal (quantity_checks range 1 f (field_at 6 sheet 1 f)) ≡ None) × (worth (field_at 6 sheet 1 f) ≡ get_or four (f - 1) 0)
  q_at range f a b c d = quantity_reads range 1 f (get_or four (f - 1) 0) (field_at 6 sheet 1 f) (field_at_is sheet 1 6 (right 6) four (flat_map group_line ms) head_text four_long f a b) c d

  q1 : (first_refusal (quantity_checks is_trustees 1 1 (field_at 6 sheet 1 1)) ≡ None) × (worth (field_at 6 sheet 1 1) ≡ n)
  q1 = q_at is_trustees 1 (omega arith) (omega arith) (omega (arith, n_range.1)) v.trustees_in

  q2 : (first_refusal (quantity_checks is_height 1 2 (field_at 6 sheet 1 2)) ≡ None) × (worth (field_at 6 sheet 1 2) ≡ h)
  q2 = q_at is_height 2 (omega arith) (omega arith) (omega (arith, h_small)) v.height_in

  q3 : (first_refusal (quantity_checks is_width 1 3 (field_at 6 sheet 1 3)) ≡ None) × (worth (field_at 6 sheet 1 3) ≡ w)
  q3 = q_at is_width 3 (omega arith) (omega arith) (omega (arith, w_small)) v.width_in

  q4 : (first_refusal (quantity_checks is_groups 1 4 (field_at 6 sheet 1 4)) ≡ None) × (worth (field_at 6 sheet 1 4) ≡ m)
  q4 = q_at is_groups 4 (omega arith) (omega arith) (omega (arith, m_range.1)) v.groups_in

  heads : first_refusal (heading_checks sheet) ≡ None
  heads = groups_decide sheet q1.0 q2.0 q3.0 q4.0

  count : line_count sheet ≡ m + 1
  count = omega (arith, sheet_long)

  fed_line : (i : ℕ) → i < m → fed sheet (i + 2) ≡ true
  fed_line i l = let t = line_text i l in fed_is sheet (i + 2) 3 cell (spread (get_or ms i 0)) t.0 t.1 (cells_long i l) (omega (arith, (spread_at i l).long))

  fed_each : (g : ℕ) → 1 ≤ g → g < 1 + line_count sheet → fed sheet g ≡ true
  fed_each g a b =
      ⊎_elim (λ (e : g ≡ 1). ap (fed sheet) e ∙ fed_is sheet 1 6 (right 6) four (flat_map group_line ms) head_text four_long refl)
      (λ (ne : g ≡ 1 → ⊥). let e : g ≡ (g - 2) + 2 = omega arith in ap (fed sheet) e ∙ fed_line (g - 2) (omega (arith, count)))
      (cases_eq g 1)

  is_formed : formed sheet ≡ true
  is_formed =
      and_from (eqb (length sheet % 25) 0 && leb 50 (length sheet)) (list_all (fed sheet) (range_with_len 1 (line_count sheet)))
      (and_from (eqb (length sheet % 25) 0) (leb 50 (length sheet)) (eq-eqb (length sheet % 25) 0 (omega (arith, sheet_long))) (le-leb 50 (length sheet) (omega (arith, sheet_long, m_range.0))))
      (all_tested (fed sheet) 1 (line_count sheet) fed_each)

  fits : first_refusal (groups_check sheet ∷ []) ≡ None
  fits = ap (λ b. first_refusal ((b, Groups) ∷ [])) (and_from (eqb (m_of sheet + 1) (line_count sheet)) (leb (m_of sheet) (2 ^ h_of sheet)) (eq-eqb (m_of sheet + 1) (line_count sheet) (omega (arith, q4.1, count))) (le-leb (m_of sheet) (2 ^ h_of sheet) (omega (arith, q4.1, ap (λ k. 2 ^ k) q2.1, v.keys_for_all))))

  -- the entries of group i
  entry_is : (i : ℕ) → i < m → (g : ℕ) → 1 ≤ g → g < 9 → (first_refusal (field_checks sheet (i + 2) g) ≡ None) × (worth (field_at 3 sheet (i + 2) g) ≡ get_or (spread (get_or ms i 0)) (g - 1) 0)
  entry_is i l g a b =
      let es = spread (get_or ms i 0) in
      let t = line_text i l in
      let is : field_at 3 sheet (i + 2) g ≡ cell (get_or es (g - 1) 0) = field_at_is sheet (i + 2) 3 cell es t.0 t.1 (cells_long i l) g a (omega (arith, (spread_at i l).long)) in
      let r = entry_reads n (i + 2) g (get_or es (g - 1) 0) ((spread_at i l).under (g - 1) (omega arith)) n_range.1 in
      (ap (λ x. first_refusal (entry_checks x (i + 2) g (field_at 3 sheet (i + 2) g))) q1.1 ∙ ap (λ x. first_refusal (entry_checks n (i + 2) g x)) is ∙ r.0, ap worth is ∙ r.1)

  entries_are : (i : ℕ) → i < m → entries sheet (i + 2) 1 8 ≡ spread (get_or ms i 0)
  entries_are i l =
      let es = spread (get_or ms i 0) in
      let V : ℕ → ℕ = λ g. worth (field_at 3 sheet (i + 2) g) in
      ap (λ k. map V (range_with_len 1 k)) (sym (spread_at i l).long) ∙ map_from V 1 es (λ j k. let e : (j + 1) - 1 ≡ j = omega arith in (entry_is i l (j + 1) (omega arith) (omega (arith, (spread_at i l).long))).1 ∙ ap (λ x. get_or es x 0) e)

  mask_is : (i : ℕ) → i < m → mask_at sheet (i + 2) ≡ get_or ms i 0
  mask_is i l = ap mask_of (entries_are i l) ∙ (spread_at i l).sum

  above_is : (i : ℕ) → i < m → above_at sheet (i + 2) < get_or ms i 0
  above_is zero l = (v.within 0 l).0
  above_is (suc i) l =
      let e : suc i ≡ i + 1 = omega arith in
      let up : get_or ms i 0 < get_or ms (i + 1) 0 = v.rising i (omega arith) in
      omega (arith, ap (λ k. above_at sheet (k + 2)) e, above_next sheet i, mask_is i (omega arith), up, ap (λ k. get_or ms k 0) e)

  line_passes : (i : ℕ) → i < m → first_refusal (line_checks sheet (i + 2)) ≡ None
  unfolding line_checks
  line_passes i l =
      both_pass (flat_map (field_checks sheet (i + 2)) (range_with_len 1 8)) (members_check sheet (i + 2) ∷ [])
      (all_pass (field_checks sheet (i + 2)) 1 8 (λ g a b. (entry_is i l g a (omega arith)).0))
      (ap (λ b. first_refusal ((b, Members (i + 2)) ∷ [])) (and_from (orderly (Some 0) (entries sheet (i + 2) 1 8)) (ltb (above_at sheet (i + 2)) (mask_at sheet (i + 2))) (ap (orderly (Some 0)) (entries_are i l) ∙ (spread_at i l).order) (lt-ltb (above_at sheet (i + 2)) (mask_at sheet (i + 2)) (omega (arith, above_is i l, mask_is i l)))))

  passes : first_refusal (checks sheet) ≡ None
  passes =
      let e : line_count sheet - 1 ≡ m = omega (arith, count) in
      past_groups sheet is_formed heads fits
      ∙ ap (λ k. first_refusal (flat_map (line_checks sheet) (range_with_len 2 k))) e
      ∙ all_pass (line_checks sheet) 2 m (λ g a b. let k : g ≡ (g - 2) + 2 = omega arith in ap (λ x. first_refusal (line_checks sheet x)) k ∙ line_passes (g - 2) (omega arith))

  says : plan_of sheet ≡ shape n h w ms
  says =
      let M = map (mask_at sheet) (range_with_len 2 (m_of sheet)) in
      let masks : M ≡ ms = ap (λ k. map (mask_at sheet) (range_with_len 2 k)) q4.1 ∙ map_from (mask_at sheet) 2 ms mask_is in
      ap (λ x. shape x (h_of sheet) (w_of sheet) M) q1.1 ∙ ap (λ x. shape n x (w_of sheet) M) q2.1 ∙ ap (λ x. shape n h x M) q3.1 ∙ ap (shape n h w) masks

  pub complete_here : (first_refusal (checks (written (shape n h w ms))) ≡ None) × (plan_of (written (shape n h w ms)) ≡ shape n h w ms)
  unfolding written
  complete_here = (passes, says)

pub complete : Complete
complete p v = complete_here p.trustees p.height p.width p.masks v
