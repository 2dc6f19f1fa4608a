-- Where the fields and lines of a joined text stand.
use Rattle.std.proofs.Common.{◌≡◌, ℕ, zero, suc, ◌+◌, ◌-◌, ◌*◌, ◌<◌, ◌≤◌, Bool, true, List, [], ◌∷◌, ◌++◌, map, length, get_or, take, drop, sym, refl, ap, ◌∙◌, append_assoc, mul-one, mul-add, arith}
use Rattle.std.specs.List.{flat_map, range_with_len, list_all}
use Rattle.std.proofs.lemmas.List.{take_at, drop_at, drop-drop, get_or_at, get_or-drop, length-append}
use Rattle.std.proofs.lemmas.Bool.{eq-eqb, and_from}
use Rattle.plan_sheet.specs.Checks.{fed, field_at}

pub times_suc : (w k : ℕ) → w * suc k ≡ w + w * k
times_suc w k = let e : suc k ≡ 1 + k = omega arith in ap (λ j. w * j) e ∙ mul-add w 1 k ∙ ap (λ z. z + w * k) (mul-one w)

pub length_joined : (F : ℕ → List ℕ) (w : ℕ) (xs : List ℕ) → ((i : ℕ) → i < length xs → length (F (get_or xs i 0)) ≡ w) → length (flat_map F xs) ≡ w * length xs
length_joined F w [] h = omega arith
length_joined F w (x ∷ xs) h = length-append (F x) (flat_map F xs) ∙ omega (arith, h 0 (omega arith), length_joined F w xs (λ i l. h (suc i) (omega arith)), times_suc w (length xs))

-- the text from a part on
pub part_at : (F : ℕ → List ℕ) (w : ℕ) (xs rest : List ℕ) → ((i : ℕ) → i < length xs → length (F (get_or xs i 0)) ≡ w) → (i : ℕ) → i < length xs
    → (more : List ℕ) × (drop (w * i) (flat_map F xs ++ rest) ≡ F (get_or xs i 0) ++ more)
part_at F w [] rest h i l = absurd (omega arith)
part_at F w (x ∷ xs) rest h zero l = let z : w * zero ≡ 0 = omega arith in (flat_map F xs ++ rest, ap (λ j. drop j ((F x ++ flat_map F xs) ++ rest)) z ∙ append_assoc (F x) (flat_map F xs) rest)
part_at F w (x ∷ xs) rest h (suc i) l =
    let r = part_at F w xs rest (λ j k. h (suc j) (omega arith)) i (omega arith) in
    (r.0, ap (λ j. drop j ((F x ++ flat_map F xs) ++ rest)) (times_suc w i) ∙ ap (drop (w + w * i)) (append_assoc (F x) (flat_map F xs) rest) ∙ sym (drop-drop (w * i) w (F x ++ (flat_map F xs ++ rest))) ∙ ap (drop (w * i)) (drop_at (F x) (flat_map F xs ++ rest) w (h 0 (omega arith))) ∙ r.1)

-- a line whose text is known
module _ (s : List ℕ) (l w : ℕ) (F : ℕ → List ℕ) (xs more : List ℕ) (is : drop (25 * (l - 1)) s ≡ flat_map F xs ++ (10 ∷ more)) (each : (i : ℕ) → i < length xs → length (F (get_or xs i 0)) ≡ w) where
  pub fed_is : w * length xs ≡ 24 → fed s l ≡ true
  fed_is e = eq-eqb _ _ (sym (get_or-drop (25 * (l - 1)) s 24 0) ∙ ap (λ ys. get_or ys 24 0) is ∙ get_or_at (flat_map F xs) 10 more 0 24 (length_joined F w xs each ∙ e))

  pub field_at_is : (g : ℕ) → 1 ≤ g → g < 1 + length xs → field_at w s l g ≡ F (get_or xs (g - 1) 0)
  field_at_is g low high =
      let r = part_at F w xs (10 ∷ more) each (g - 1) (omega arith) in
      ap (take w) (sym (drop-drop (w * (g - 1)) (25 * (l - 1)) s) ∙ ap (drop (w * (g - 1))) is ∙ r.1) ∙ take_at (F (get_or xs (g - 1) 0)) r.0 w (each (g - 1) (omega arith))

pub map_from : (V : ℕ → ℕ) (a : ℕ) (es : List ℕ) → ((i : ℕ) → i < length es → V (i + a) ≡ get_or es i 0) → map V (range_with_len a (length es)) ≡ es
map_from V a [] h = refl
map_from V a (x ∷ xs) h =
    let z : a ≡ 0 + a = omega arith in
    ap (λ y. y ∷ map V (range_with_len (a + 1) (length xs))) (ap V z ∙ h 0 (omega arith)) ∙ ap (λ ys. x ∷ ys) (map_from V (a + 1) xs (λ i l. let e : i + (a + 1) ≡ suc i + a = omega arith in ap V e ∙ h (suc i) (omega arith)))

pub all_tested : (test : ℕ → Bool) (a k : ℕ) → ((g : ℕ) → a ≤ g → g < a + k → test g ≡ true) → list_all test (range_with_len a k) ≡ true
all_tested test a zero h = refl
all_tested test a (suc k) h = and_from _ _ (h a (omega arith) (omega arith)) (all_tested test (a + 1) k (λ g l u. h g (omega arith) (omega arith)))
