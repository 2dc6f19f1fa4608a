-- The eight fields of a group line, and the mask that they write.
use Rattle.std.proofs.Common.{◌≡◌, ℕ, zero, suc, ◌+◌, ◌-◌, ◌*◌, ◌/◌, ◌%◌, ◌^◌, ◌<◌, ◌≤◌, true, false, cond, ◌&&◌, eqb, ltb, leb, List, [], ◌∷◌, ◌++◌, length, is_some, Some, None, Option, unwrap_or, sym, refl, ap, ◌∙◌, ⊎_elim, append_assoc, mul_assoc, mul-one, mul-add, arith, pow_mono}
use native.Mathlib.Nat.{pow-succ'}
use Rattle.std.specs.List.{flat_map}
use Rattle.std.proofs.lemmas.Nat.{pow-add}
use Rattle.std.proofs.lemmas.List.{replicate-append-replicate, nil_from_length}
use Rattle.std.proofs.lemmas.Bool.{ne_eqb, eqb-true, leb-true, ltb-true, cond-false, and_parts, or_cases, cases_Bool, false≢true}
use Rattle.checks.specs.Checks.{first_refusal}
use Rattle.columns.specs.Number.{spaces, right, unpadded, read_on, plain, number, blank}
use Rattle.plan.specs.Members.{members, members_from}
use Rattle.plan.proofs.Membership.{members_zero}
use Rattle.plan_sheet.specs.Entries.{orderly, bit, mask_of}
use Rattle.plan_sheet.specs.Checks.{worth, entry_checks}
use Rattle.columns.proofs.Text.{padded, number_is}
use Rattle.plan_sheet.proofs.Passing.{first_passes}
use Rattle.plan_sheet.proofs.Groups.{bit_some, pow_double}

-- how an entry is written, 0 for a blank
abbrev pub cell : ℕ → List ℕ
cell t = cond (eqb t 0) (spaces 3) (right 3 t)

abbrev pub filled : List ℕ → List ℕ
filled [] = []
filled (t ∷ ts) = cond (eqb t 0) [] (t ∷ filled ts)

abbrev pub Under : ℕ → List ℕ → Type 0
Under n [] = Unit {0}
Under n (t ∷ ts) = (t ≤ n) × Under n ts

-- a field that passes is its entry, written
pub field_is : (n l f : ℕ) (bytes : List ℕ) → length bytes ≡ 3 → first_refusal (entry_checks n l f bytes) ≡ None → (bytes ≡ cell (worth bytes)) × (worth bytes ≤ n)
unfolding entry_checks
field_is n l f bytes long h =
    let a = first_passes _ _ _ h in
    let b = first_passes _ _ _ a.1 in
    ⊎_elim
    (λ (y : blank bytes ≡ true).
    let e : length (unpadded bytes) ≡ 0 = eqb-true _ _ y in
    let u : unpadded bytes ≡ [] = nil_from_length (unpadded bytes) e in
    let none : worth bytes ≡ 0 = ap (λ xs. unwrap_or (cond (plain xs) (Some (read_on 0 xs)) None) 0) u in
    let k : length bytes - length (unpadded bytes) ≡ 3 = omega arith in
    ((padded bytes).1 ∙ ap (λ j. spaces j ++ unpadded bytes) k ∙ ap (λ xs. spaces 3 ++ xs) u ∙ ap cell (sym none), omega (arith, none)))
    (λ (y : blank bytes ≡ false).
    let some : is_some (number bytes) ≡ true = ⊎_elim (λ (z : blank bytes ≡ true). absurd (false≢true (sym y ∙ z))) (λ (z : is_some (number bytes) ≡ true). z) (or_cases _ _ a.0) in
    let range : (leb 1 (worth bytes) && leb (worth bytes) n) ≡ true = ⊎_elim (λ (z : blank bytes ≡ true). absurd (false≢true (sym y ∙ z))) (λ (z : (leb 1 (worth bytes) && leb (worth bytes) n) ≡ true). z) (or_cases _ _ b.0) in
    let r = and_parts _ _ range in
    let is : number bytes ≡ Some (worth bytes) = from_some (number bytes) some in
    let w = number_is bytes (worth bytes) (omega arith) is in
    let low : 1 ≤ worth bytes = leb-true _ _ r.0 in
    (w.0 ∙ ap (λ k. right k (worth bytes)) long ∙ sym (cond-false (eqb (worth bytes) 0) (spaces 3) (right 3 (worth bytes)) (ne_eqb _ _ (λ e. omega arith))), leb-true _ _ r.1))
    (cases_Bool (blank bytes))
  where
    from_some : (o : Option ℕ) → is_some o ≡ true → o ≡ Some (unwrap_or o 0)
    from_some None e = absurd (false≢true e)
    from_some (Some x) e = refl

-- nothing stands behind a blank
pub zeros : (ts : List ℕ) → orderly None ts ≡ true → (mask_of ts ≡ 0) × (flat_map cell ts ≡ spaces (3 * length ts))
zeros [] o = (refl, refl)
zeros (zero ∷ ts) o =
    let r = zeros ts o in
    let k : 3 + 3 * length ts ≡ 3 * suc (length ts) = omega arith in
    (omega (arith, r.0), ap (λ xs. spaces 3 ++ xs) r.1 ∙ replicate-append-replicate 3 (3 * length ts) 32 ∙ ap spaces k)
zeros (suc t ∷ ts) o = absurd (false≢true (sym (cond-false (eqb (suc t) 0) (orderly None ts) false (ne_eqb (suc t) 0 (λ e. omega arith))) ∙ o))

-- the lowest member comes first
pub skip : (j k K a X y : ℕ) → K ≡ j + suc k → X ≡ 2 ^ j * (1 + 2 * y) → members_from K a X ≡ (a + j) ∷ members_from k (a + (j + 1)) y
skip j k zero a X y e x = absurd (omega arith)
skip zero k (suc K) a X y e x =
    let Kk : K ≡ k = omega arith in
    let odd : X % 2 ≡ 1 = omega arith in
    let half : X / 2 ≡ y = omega arith in
    let a0 : a ≡ a + 0 = omega arith in
    ap (λ r. cond (eqb r 1) (a ∷ members_from K (a + 1) (X / 2)) (members_from K (a + 1) (X / 2))) odd ∙ ap (λ z. a ∷ members_from K (a + 1) z) half ∙ ap (λ z. a ∷ members_from z (a + 1) y) Kk ∙ ap (λ z. z ∷ members_from k (a + 1) y) a0
skip (suc j) k (suc K) a X y e x =
    let twice : X ≡ 2 * (2 ^ j * (1 + 2 * y)) = x ∙ ap (λ z. z * (1 + 2 * y)) (pow-succ' 2 j) ∙ mul_assoc 2 (2 ^ j) (1 + 2 * y) in
    let even : X % 2 ≡ 0 = omega arith in
    let half : X / 2 ≡ 2 ^ j * (1 + 2 * y) = omega arith in
    let a1 : (a + 1) + j ≡ a + suc j = omega arith in
    let a2 : (a + 1) + (j + 1) ≡ a + (suc j + 1) = omega arith in
    ap (λ r. cond (eqb r 1) (a ∷ members_from K (a + 1) (X / 2)) (members_from K (a + 1) (X / 2))) even ∙ skip j k K (a + 1) (X / 2) y (omega arith) half ∙ ap (λ z. z ∷ members_from k ((a + 1) + (j + 1)) y) a1 ∙ ap (λ z. (a + suc j) ∷ members_from k z y) a2

-- rising entries: the mask, its members, and what is written
pub rise : (floor : ℕ) (es : List ℕ) → floor ≤ 8 → orderly (Some floor) es ≡ true → Under 8 es
    → (x : ℕ) × (mask_of es ≡ 2 ^ floor * x) × (members_from (8 - floor) (floor + 1) x ≡ filled es) × (length (filled es) ≤ length es)
    × (flat_map cell es ≡ flat_map (right 3) (filled es) ++ spaces (3 * (length es - length (filled es))))
rise floor [] fl o u = (0, omega arith, members_zero (8 - floor) (floor + 1), omega arith, refl)
rise floor (zero ∷ ts) fl o u =
    let z = zeros ts o in
    let k : 3 + 3 * length ts ≡ 3 * (suc (length ts) - 0) = omega arith in
    (0, omega (arith, z.0), members_zero (8 - floor) (floor + 1), omega arith, ap (λ xs. spaces 3 ++ xs) z.1 ∙ replicate-append-replicate 3 (3 * length ts) 32 ∙ ap spaces k)
rise floor (suc t ∷ ts) fl o u =
    let nz : eqb (suc t) 0 ≡ false = ne_eqb (suc t) 0 (λ e. omega arith) in
    let p = and_parts _ _ (sym (cond-false (eqb (suc t) 0) (orderly None ts) (ltb floor (suc t) && orderly (Some (suc t)) ts) nz) ∙ o) in
    let lt : floor < suc t = ltb-true _ _ p.0 in
    let t8 : suc t ≤ 8 = u.0 in
    let r = rise (suc t) ts t8 p.1 u.1 in
    let y = r.0 in
    let j = t - floor in
    let x = 2 ^ j * (1 + 2 * y) in
    let fill : filled (suc t ∷ ts) ≡ suc t ∷ filled ts = cond-false (eqb (suc t) 0) [] (suc t ∷ filled ts) nz in
    let t1 : suc t - 1 ≡ floor + j = omega arith in
    let b : bit (suc t) ≡ 2 ^ floor * 2 ^ j = bit_some (suc t) (omega arith) ∙ ap (λ k. 2 ^ k) t1 ∙ pow-add 2 floor j in
    let t2 : suc t ≡ (floor + j) + 1 = omega arith in
    let m : mask_of ts ≡ (2 ^ floor * 2 ^ j) * (2 * y) = r.1 ∙ ap (λ k. 2 ^ k * y) t2 ∙ ap (λ z. z * y) (pow-add 2 (floor + j) 1 ∙ ap (λ z. z * 2) (pow-add 2 floor j)) ∙ mul_assoc (2 ^ floor * 2 ^ j) 2 y in
    let whole : bit (suc t) + mask_of ts ≡ 2 ^ floor * x = ap (λ z. z + mask_of ts) b ∙ ap (λ z. 2 ^ floor * 2 ^ j + z) m ∙ ap (λ z. z + (2 ^ floor * 2 ^ j) * (2 * y)) (sym (mul-one (2 ^ floor * 2 ^ j))) ∙ sym (mul-add (2 ^ floor * 2 ^ j) 1 (2 * y)) ∙ mul_assoc (2 ^ floor) (2 ^ j) (1 + 2 * y) in
    let less : length ts - length (filled ts) ≡ suc (length ts) - suc (length (filled ts)) = omega arith in
    let first-is : members_from (8 - floor) (floor + 1) x ≡ ((floor + 1) + j) ∷ members_from (8 - suc t) ((floor + 1) + (j + 1)) y = skip j (8 - suc t) (8 - floor) (floor + 1) x y (omega arith) refl in
    let c1 : (floor + 1) + j ≡ suc t = omega arith in
    let c2 : (floor + 1) + (j + 1) ≡ suc t + 1 = omega arith in (
      x,
      whole,
      first-is ∙ ap (λ z. z ∷ members_from (8 - suc t) ((floor + 1) + (j + 1)) y) c1 ∙ ap (λ z. suc t ∷ members_from (8 - suc t) z y) c2 ∙ ap (λ z. suc t ∷ z) r.2 ∙ sym fill,
      omega (arith, ap length fill, r.3),
      ap (λ z. z ++ flat_map cell ts) (cond-false (eqb (suc t) 0) (spaces 3) (right 3 (suc t)) nz) ∙ ap (λ z. right 3 (suc t) ++ z) r.4 ∙ sym (append_assoc (right 3 (suc t)) (flat_map (right 3) (filled ts)) (spaces (3 * (length ts - length (filled ts))))) ∙ ap (λ k. flat_map (right 3) (suc t ∷ filled ts) ++ spaces (3 * k)) less ∙ ap (λ fs. flat_map (right 3) fs ++ spaces (3 * (suc (length ts) - length fs))) (sym fill),
    )

-- eight rising entries are written as their mask's members
pub entries_written : (es : List ℕ) → length es ≡ 8 → orderly (Some 0) es ≡ true → Under 8 es
    → flat_map cell es ≡ flat_map (right 3) (members (mask_of es)) ++ spaces (24 - 3 * length (members (mask_of es)))
unfolding members
entries_written es long o u =
    let r = rise 0 es (omega arith) o u in
    let x : mask_of es ≡ r.0 = omega (arith, r.1) in
    let ms : members (mask_of es) ≡ filled es = ap members x ∙ r.2 in
    let k : 3 * (length es - length (filled es)) ≡ 24 - 3 * length (filled es) = omega (arith, r.3) in
    r.4 ∙ ap (λ j. flat_map (right 3) (filled es) ++ spaces j) k ∙ ap (λ fs. flat_map (right 3) fs ++ spaces (24 - 3 * length fs)) (sym ms)

-- rising entries of n trustees have a mask below 2^n
pub mask_under : (n floor : ℕ) (es : List ℕ) → n ≤ 8 → floor ≤ n → orderly (Some floor) es ≡ true → Under n es → Under 8 es → mask_of es + 2 ^ floor ≤ 2 ^ n
mask_under n floor [] n8 fl o u v = let p = pow_mono fl in omega arith
mask_under n floor (zero ∷ ts) n8 fl o u v = let p = pow_mono fl in omega (arith, (zeros ts o).0)
mask_under n floor (suc t ∷ ts) n8 fl o u v =
    let p = and_parts _ _ (sym (cond-false (eqb (suc t) 0) (orderly None ts) (ltb floor (suc t) && orderly (Some (suc t)) ts) (ne_eqb (suc t) 0 (λ e. omega arith))) ∙ o) in
    let lt : floor < suc t = ltb-true _ _ p.0 in
    let le : floor ≤ suc t - 1 = omega arith in
    let q = pow_mono le in
    let r = mask_under n (suc t) ts n8 u.0 p.1 u.1 v.1 in
    omega (arith, bit_some (suc t) (omega arith), pow_double (suc t) (omega arith), q, r)
