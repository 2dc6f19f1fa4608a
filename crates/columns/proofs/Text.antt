-- A field is a number just if it is that number written right-justified.
use Rattle.std.proofs.Common.{◌≡◌, ℕ, zero, suc, ◌-◌, ◌^◌, ◌<◌, ◌≤◌, true, false, cond, not, ◌||◌, eqb, leb, List, [], ◌∷◌, ◌++◌, length, get_or, Some, None, decimal, sym, refl, ap, ◌∙◌, ⊎_elim, arith, rules}
use native.Mathlib.Nat.{pow-le-pow_right}
use Rattle.std.specs.Str.{all_ascii_digits}
use Rattle.std.specs.Char.{is_ascii_digit}
use Rattle.std.proofs.lemmas.Str.Parse.{IsNumeralModel, numerals_by_fold, tells_all_ascii_digits, digits_value_short}
use Rattle.std.proofs.lemmas.Fmt.{decimal-digits_value, digits_decimal, digits_value-decimal, decimal_nonempty, first_decimal, length-decimal-le, decimal_digit}
use Rattle.std.proofs.lemmas.List.{length-append, length-replicate}
use Rattle.std.proofs.lemmas.Bool.{ne_eqb, eqb-true, eqb-false, leb-true, ltb-true, lt-ltb, le-leb, cond-true, cond-false, cond_both, and_parts, and_from, or_cases, or_left, or_right, not-true, not_from_false, cases_Bool, cases_lt}
use Rattle.std.proofs.lemmas.Option.{none-some}
use Rattle.columns.specs.Number.{spaces, right, unpadded, read_on, plain, number}

pub own : IsNumeralModel (λ ds. all_ascii_digits ds ≡ true) (read_on 0)
own = numerals_by_fold _ tells_all_ascii_digits read_on (search rules)

-- a field is its leading spaces and the rest
pub padded : (f : List ℕ) → (length (unpadded f) ≤ length f) × (f ≡ spaces (length f - length (unpadded f)) ++ unpadded f)
padded [] = (omega arith, refl)
padded (c ∷ cs) =
    cond_both (eqb c 32) (unpadded cs) (c ∷ cs) (λ u. (length u ≤ suc (length cs)) × ((c ∷ cs) ≡ spaces (suc (length cs) - length u) ++ u))
    (λ e. let r = padded cs in
    let k : suc (length cs - length (unpadded cs)) ≡ suc (length cs) - length (unpadded cs) = omega (arith, r.0) in
    (omega (arith, r.0), ap (λ x. x ∷ cs) (eqb-true c 32 e) ∙ ap (λ xs. 32 ∷ xs) r.1 ∙ ap (λ j. spaces j ++ unpadded cs) k))
    (λ e. let k : zero ≡ suc (length cs) - suc (length cs) = omega arith in (omega arith, ap (λ j. spaces j ++ (c ∷ cs)) k))

-- what a number field is
pub number_is : (f : List ℕ) (v : ℕ) → length f ≤ 9 → number f ≡ Some v → (f ≡ right (length f) v) × (v < 1000000000)
number_is f v short e =
    let ds = unpadded f in
    let p = padded f in
    ⊎_elim
    (λ (y : plain ds ≡ true).
    let v-is : read_on 0 ds ≡ v = let q = sym (cond-true (plain ds) (Some (read_on 0 ds)) None y) ∙ e in cc in
    let q = and_parts _ _ y in
    let r = and_parts _ _ q.0 in
    let some : 0 < length ds = ltb-true _ _ r.0 in
    let lead : get_or ds 0 0 ≡ 48 → length ds ≡ 1 = λ z. ⊎_elim (λ (a : leb (length ds) 1 ≡ true). omega (arith, leb-true _ _ a)) (λ (b : not (eqb (get_or ds 0 0) 48) ≡ true). absurd (eqb-false _ _ (not-true _ b) z)) (or_cases _ _ r.1) in
    let low : read_on 0 ds < 10 ^ 9 = digits_value_short own ds 9 q.1 (omega (arith, p.0)) in
    let d : decimal v ≡ ds = ap decimal (sym v-is) ∙ decimal-digits_value own ds q.1 some lead (omega arith) in
    (p.1 ∙ ap (λ xs. spaces (length f - length xs) ++ xs) (sym d), omega (arith, v-is)))
    (λ (n : plain ds ≡ false). absurd (none-some _ (sym (cond-false (plain ds) (Some (read_on 0 ds)) None n) ∙ e)))
    (cases_Bool (plain ds))

-- leading spaces go
pub unpadded_spaces : (k : ℕ) (ds : List ℕ) → unpadded (spaces k ++ ds) ≡ unpadded ds
unpadded_spaces zero ds = refl
unpadded_spaces (suc k) ds = unpadded_spaces k ds

pub unpadded_digits : (ds : List ℕ) → all_ascii_digits ds ≡ true → unpadded ds ≡ ds
unpadded_digits [] h = refl
unpadded_digits (c ∷ cs) h = let low : 48 ≤ c = leb-true 48 c (and_parts (leb 48 c) (leb c 57) (and_parts (is_ascii_digit c) (all_ascii_digits cs) h).0).0 in cond-false (eqb c 32) (unpadded cs) (c ∷ cs) (ne_eqb c 32 (λ e. omega arith))

-- a number that is written so is read so
pub number_right : (w v : ℕ) → v < 1000000000 → number (right w v) ≡ Some v
number_right w v small =
    let big : v < 2 ^ 64 = omega arith in
    let ds = decimal v in
    let dig : all_ascii_digits ds ≡ true = digits_decimal own v big in
    let u : unpadded (right w v) ≡ ds = unpadded_spaces (w - length ds) ds ∙ unpadded_digits ds dig in
    let lead : (leb (length ds) 1 || not (eqb (get_or ds 0 0) 48)) ≡ true = ⊎_elim
    (λ (z : v < 10). or_left _ _ (le-leb (length ds) 1 (omega (arith, ap length (decimal_digit v z)))))
    (λ (z : 10 ≤ v). or_right _ _ (not_from_false _ (ne_eqb (get_or ds 0 0) 48 (λ e. let z : 48 < get_or ds 0 0 = first_decimal v (omega arith) big in omega arith))))
    (cases_lt v 10) in
    let pl : plain ds ≡ true = and_from _ _ (and_from _ _ (lt-ltb 0 (length ds) (decimal_nonempty v big)) lead) dig in
    ap (λ xs. cond (plain xs) (Some (read_on 0 xs)) None) u ∙ cond-true (plain ds) (Some (read_on 0 ds)) None pl ∙ ap (λ n. Some n) (digits_value-decimal own v big)

pub length_right : (w v k : ℕ) → 0 < k → k ≤ w → k ≤ 9 → v < 10 ^ k → length (right w v) ≡ w
length_right w v k pos kw k9 small =
    let ten : 10 ^ k ≤ 10 ^ 9 = pow-le-pow_right (omega arith) {i = k} {j = 9} (omega arith) in
    let big : v < 2 ^ 64 = omega arith in
    let short : length (decimal v) ≤ k = length-decimal-le k v pos small big in
    length-append (spaces (w - length (decimal v))) (decimal v) ∙ omega (arith, length-replicate {A = ℕ} (w - length (decimal v)) 32)
