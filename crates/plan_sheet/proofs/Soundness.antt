-- A sheet that passes is the one sheet of the plan that it says.
use Rattle.std.proofs.Common.{◌≡◌, ℕ, zero, suc, ◌+◌, ◌^◌, ◌<◌, ◌≤◌, List, [], ◌∷◌, ◌++◌, map, length, get_or, take, drop, sym, ap, ◌∙◌, arith}
use Rattle.std.specs.List.{flat_map, range_with_len}
use Rattle.std.proofs.lemmas.Bool.{ltb-true, and_parts}
use Rattle.plan.specs.Shape.{Valid, is_groups}
use Rattle.columns.specs.Number.{right}
use Rattle.plan_sheet.specs.Written.{written, heading, group_line}
use Rattle.plan_sheet.specs.Checks.{field_at, worth, field_checks, entries, mask_at, above_at, line_checks, members_check, n_of, h_of, w_of, m_of}
use Rattle.plan_sheet.specs.Law.{plan_of, Sound}
use Rattle.plan_sheet.proofs.Lines.{above_next}
use Rattle.plan_sheet.proofs.Fields.{trustees_most}
use Rattle.plan_sheet.proofs.Passing.{first_passes, parts_pass, each_passes}
use Rattle.plan_sheet.proofs.Cells.{field_is, mask_under}
use Rattle.plan_sheet.proofs.Law.{Passed, passed, field_long, under_from, length_from, line_is, pieces, groups_are}

pub get_or_from : (V : ℕ → ℕ) (a k g : ℕ) → g < k → get_or (map V (range_with_len a k)) g 0 ≡ V (g + a)
get_or_from V a zero g h = absurd (omega arith)
get_or_from V a (suc k) zero h = let e : a ≡ 0 + a = omega arith in ap V e
get_or_from V a (suc k) (suc g) h = let e : g + (a + 1) ≡ suc g + a = omega arith in get_or_from V (a + 1) k g (omega arith) ∙ ap V e

module _ (s : List ℕ) (z : Passed s) where
  pub mask_in : (l : ℕ) → 2 ≤ l → l < 2 + m_of s → (above_at s l < mask_at s l) × (mask_at s l < 2 ^ n_of s)
  unfolding line_checks
  mask_in l low high =
      let n8 = trustees_most (n_of s) z.n_in in
      let p = parts_pass (flat_map (field_checks s l) (range_with_len 1 8)) (members_check s l ∷ []) (z.lines l low high) in
      let o = and_parts _ _ (first_passes _ _ _ p.1).0 in
      let one = λ (g : ℕ) (a : 1 ≤ g) (b : g < 1 + 8). field_is (n_of s) l g (field_at 3 s l g) (field_long 3 s l g a (omega arith) (omega arith) (omega (arith, z.whole, z.count))) (each_passes (field_checks s l) 1 8 p.0 g a b) in
      let u = under_from (n_of s) (λ g. worth (field_at 3 s l g)) 1 8 (λ g a b. (one g a b).1) in
      let v = under_from 8 (λ g. worth (field_at 3 s l g)) 1 8 (λ g a b. omega (arith, (one g a b).1)) in
      let m = mask_under (n_of s) 0 (entries s l 1 8) n8 (omega arith) o.0 u v in
      (ltb-true _ _ o.1, omega (arith, m))

  pub valid : Valid (plan_of s)
  valid =
      let long : length (map (mask_at s) (range_with_len 2 (m_of s))) ≡ m_of s = length_from (mask_at s) 2 (m_of s) in
      let at = get_or_from (mask_at s) 2 (m_of s) in
      record {
        trustees_in = z.n_in;
        height_in = z.h_in;
        width_in = z.w_in;
        groups_in = ap is_groups long ∙ z.m_in;
        keys_for_all = omega (arith, z.keys);
        within = λ g h. let i = mask_in (g + 2) (omega arith) (omega arith) in (omega (arith, i.0, at g (omega arith)), omega (arith, i.1, at g (omega arith)));
        rising = λ g h. let i = mask_in ((g + 1) + 2) (omega arith) (omega arith) in omega (arith, i.0, above_next s g, at g (omega arith), at (g + 1) (omega arith));
      }

  pub heading_is : take 24 s ≡ flat_map (right 6) (n_of s ∷ h_of s ∷ w_of s ∷ m_of s ∷ [])
  heading_is =
      pieces 6 0 s 1 4 (omega arith)
      ∙ ap (λ x. x ++ (field_at 6 s 1 2 ++ (field_at 6 s 1 3 ++ (field_at 6 s 1 4 ++ [])))) z.n_field
      ∙ ap (λ x. right 6 (n_of s) ++ (x ++ (field_at 6 s 1 3 ++ (field_at 6 s 1 4 ++ [])))) z.h_field
      ∙ ap (λ x. right 6 (n_of s) ++ (right 6 (h_of s) ++ (x ++ (field_at 6 s 1 4 ++ [])))) z.w_field
      ∙ ap (λ x. right 6 (n_of s) ++ (right 6 (h_of s) ++ (right 6 (w_of s) ++ (x ++ [])))) z.m_field

  pub sheet_is : s ≡ written (plan_of s)
  unfolding written
  sheet_is =
      let long : m_of s ≡ length (map (mask_at s) (range_with_len 2 (m_of s))) = sym (length_from (mask_at s) 2 (m_of s)) in
      let rest = flat_map group_line (map (mask_at s) (range_with_len 2 (m_of s))) in
      line_is s 1 (omega arith) (omega (arith, z.whole, z.count)) (z.feeds 1 (omega arith) (omega (arith, z.count)))
      ∙ ap (λ x. (x ++ 10 ∷ []) ++ drop 25 s) heading_is
      ∙ ap (λ x. heading (n_of s) (h_of s) (w_of s) (m_of s) ++ x) (groups_are s (trustees_most (n_of s) z.n_in) 2 (m_of s) (omega arith) (omega (arith, z.whole, z.count)) (λ g a b. z.feeds g (omega arith) (omega (arith, z.count))) z.lines)
      ∙ ap (λ m. heading (n_of s) (h_of s) (w_of s) m ++ rest) long

pub sound : Sound
sound s h = (valid s (passed s h), sheet_is s (passed s h))
