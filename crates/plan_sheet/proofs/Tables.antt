-- The 256 masks: their members, spread over eight fields.
use Rattle.std.proofs.Common.{◌≡◌, ℕ, zero, suc, ◌+◌, ◌-◌, ◌*◌, ◌^◌, ◌<◌, ◌≤◌, Bool, true, not, ◌&&◌, ◌||◌, eqb, ltb, leb, List, [], ◌∷◌, ◌++◌, length, get_or, replicate, Some, sym, refl, ap, ◌∙◌, ⊎_elim, append_assoc, arith, pow_mono}
use Rattle.std.specs.List.{flat_map, range_with_len, list_all}
use Rattle.std.proofs.lemmas.List.Sums.{AllPass-from_list_all}
use Rattle.std.proofs.lemmas.List.{length-append, length-replicate, replicate-append-replicate}
use Rattle.std.proofs.lemmas.Bool.{eqb-true, leb-true, ltb-true, lt-ltb, ne_eqb, cond-false, and_parts, or_cases, not-true, cases_eq, true≢false}
use Rattle.columns.specs.Number.{spaces, right}
use Rattle.plan_sheet.specs.Written.{group_line}
use Rattle.plan.specs.Members.{members}
use Rattle.plan_sheet.specs.Entries.{orderly, mask_of}
use Rattle.columns.proofs.Text.{length_right}
use Rattle.plan_sheet.proofs.Cells.{cell}
use Rattle.plan.proofs.Tested.{tested_at}

-- the entries of a mask, 0 for a blank
abbrev pub spread : ℕ → List ℕ
spread mask = members mask ++ replicate (8 - length (members mask)) 0

abbrev pub spread_well : ℕ → Bool
spread_well mask =
    (leb (length (members mask)) 8 && list_all (λ t. ltb 0 t) (members mask))
    && ((orderly (Some 0) (spread mask) && eqb (mask_of (spread mask)) mask)
    && list_all (λ n. not (ltb mask (2 ^ n)) || list_all (λ t. leb t n) (spread mask)) (range_with_len 1 8))

pub all_spread_well : list_all spread_well (range_with_len 0 256) ≡ true
unfolding members
all_spread_well = refl

pub blanks_are : (r : ℕ) → flat_map cell (replicate r 0) ≡ spaces (3 * r)
blanks_are zero = refl
blanks_are (suc r) = let k : 3 + 3 * r ≡ 3 * suc r = omega arith in ap (λ xs. spaces 3 ++ xs) (blanks_are r) ∙ replicate-append-replicate 3 (3 * r) 32 ∙ ap spaces k

pub cells_are : (ms : List ℕ) (r : ℕ) → list_all (λ t. ltb 0 t) ms ≡ true → flat_map cell (ms ++ replicate r 0) ≡ flat_map (right 3) ms ++ spaces (3 * r)
cells_are [] r h = blanks_are r
cells_are (t ∷ ts) r h =
    let p = and_parts _ _ h in
    let pos : 0 < t = ltb-true _ _ p.0 in
    ap (λ xs. xs ++ flat_map cell (ts ++ replicate r 0)) (cond-false (eqb t 0) (spaces 3) (right 3 t) (ne_eqb t 0 (λ e. omega arith))) ∙ ap (λ xs. right 3 t ++ xs) (cells_are ts r p.1) ∙ sym (append_assoc (right 3 t) (flat_map (right 3) ts) (spaces (3 * r)))

pub length_cell : (t : ℕ) → t ≤ 8 → length (cell t) ≡ 3
length_cell t h =
    ⊎_elim (λ (e : t ≡ 0). ap (λ x. length (cell x)) e) (λ (ne : t ≡ 0 → ⊥). ap length (cond-false (eqb t 0) (spaces 3) (right 3 t) (ne_eqb t 0 ne)) ∙ length_right 3 t 1 (omega arith) (omega arith) (omega arith) (omega arith)) (cases_eq t 0)

pub record Spread (n mask : ℕ) (es : List ℕ) : Type 0 where
  pub long : length es ≡ 8
  pub order : orderly (Some 0) es ≡ true
  pub sum : mask_of es ≡ mask
  pub text : group_line mask ≡ flat_map cell es ++ 10 ∷ []
  pub under : (i : ℕ) → i < 8 → get_or es i 0 ≤ n

pub spreads : (n mask : ℕ) → 1 ≤ n → n ≤ 8 → mask < 2 ^ n → Spread n mask (spread mask)
spreads n mask n1 n8 small =
    let top : 2 ^ n ≤ 2 ^ 8 = pow_mono n8 in
    let ms = members mask in
    let t = and_parts _ _ (tested_at spread_well 0 256 all_spread_well mask (omega arith) (omega arith)) in
    let a = and_parts _ _ t.0 in
    let b = and_parts _ _ t.1 in
    let c = and_parts _ _ b.0 in
    let short : length ms ≤ 8 = leb-true _ _ a.0 in
    let all : length (spread mask) ≡ 8 = length-append ms (replicate (8 - length ms) 0) ∙ omega (arith, length-replicate {A = ℕ} (8 - length ms) 0) in
    let low = tested_at (λ k. not (ltb mask (2 ^ k)) || list_all (λ t. leb t k) (spread mask)) 1 8 b.1 n (omega arith) (omega arith) in
    let in-n : list_all (λ t. leb t n) (spread mask) ≡ true = ⊎_elim (λ (x : not (ltb mask (2 ^ n)) ≡ true). absurd (true≢false (sym (lt-ltb mask (2 ^ n) small) ∙ not-true _ x))) (λ (x : list_all (λ t. leb t n) (spread mask) ≡ true). x) (or_cases _ _ low) in
    let k : 3 * (8 - length ms) ≡ 24 - 3 * length ms = omega arith in
    record {
      long = all;
      order = c.0;
      sum = eqb-true _ _ c.1;
      text = ap (λ xs. xs ++ 10 ∷ []) (sym (cells_are ms (8 - length ms) a.1 ∙ ap (λ j. flat_map (right 3) ms ++ spaces j) k));
      under = λ i l. leb-true _ _ (AllPass-from_list_all (λ t. leb t n) (spread mask) in-n i 0 (omega arith));
    }
