-- Where each label stands among the rows of a part.
use Rattle.std.proofs.Common.{◌≡◌, ℕ, ◌+◌, ◌-◌, ◌*◌, ◌/◌, ◌%◌, ◌^◌, ◌<◌, ◌≤◌, Bool, true, false, cond, ◌&&◌, eqb, ltb, Some, None, Option, sym, refl, ap, ◌∙◌, subst, ⊎_elim, mul_comm, arith}
use Rattle.std.proofs.lemmas.Nat.{pow_pos, div-add-mod', div-mul-add, mod-mul-add, mul-add-lt, div_below, mod_below}
use Rattle.std.proofs.lemmas.Bool.{and_parts, and_from, cases_lt, cond_both, cond-true, cond-false, eqb-true, lt-ltb, le-ltb, ltb-true}
use Rattle.std.proofs.lemmas.Option.{none-some, same_Some}
use Rattle.lms.specs.Scheme.{components, positions}
use Rattle.layout.specs.Part.{part_rows}
use Rattle.pads.specs.declared.label.Label.{Label}
use Rattle.pads.specs.Labelled.{prefix_label, check_row_label, path_label, chain_label, label_at, row_of}

pub positive : (w : ℕ) → 0 < 2 ^ w
positive w = pow_pos w

-- a choice that gives a row: here, or later
chosen : {X : Type 0} (b : Bool) (m n : ℕ) (later : Option ℕ) → cond b (Some m) later ≡ Some n → (b ≡ true → m ≡ n → X) → (later ≡ Some n → X) → X
chosen true m n later e here behind = here refl (same_Some m n e)
chosen false m n later e here behind = behind e

-- a label with these parts
is_label : (l : Label) (kind i j : ℕ) → l.kind ≡ kind → l.i ≡ i → l.j ≡ j → record { kind = kind; key = l.key; i = i; j = j } ≡ l
is_label l kind i j a b c = λ t. record { kind = sym a t; key = l.key; i = sym b t; j = sym c t }

module _ (k h w : ℕ) where
  abbrev C : ℕ
  C = components w

  abbrev P : ℕ
  P = positions w

  -- ---- the label at each place
  module _ (key : ℕ) where
    at_check : (i : ℕ) → i < k → label_at k h w key (1 + i) ≡ check_row_label key i
    at_check i l =
        let e : (1 + i) - 1 ≡ i = omega arith in
        cond-false (ltb (1 + i) 1) _ _ (le-ltb _ _ (omega arith)) ∙ cond-true (ltb (1 + i) (1 + k)) _ _ (lt-ltb _ _ (omega arith)) ∙ ap (check_row_label key) e

    at_path : (i : ℕ) → i < h → label_at k h w key (1 + k + i) ≡ path_label key i
    at_path i l =
        let e : (1 + k + i) - (1 + k) ≡ i = omega arith in
        cond-false (ltb (1 + k + i) 1) _ _ (le-ltb _ _ (omega arith)) ∙ cond-false (ltb (1 + k + i) (1 + k)) _ _ (le-ltb _ _ (omega arith))
        ∙ cond-true (ltb (1 + k + i) (1 + k + h)) _ _ (lt-ltb _ _ (omega arith)) ∙ ap (path_label key) e

    at_chain : (i j : ℕ) → j < P → label_at k h w key (1 + k + h + i * P + j) ≡ chain_label key i j
    at_chain i j l =
        let n = 1 + k + h + i * P + j in
        let e : n - (1 + k + h) ≡ i * P + j = omega arith in
        cond-false (ltb n 1) _ _ (le-ltb _ _ (omega arith)) ∙ cond-false (ltb n (1 + k)) _ _ (le-ltb _ _ (omega arith)) ∙ cond-false (ltb n (1 + k + h)) _ _ (le-ltb _ _ (omega arith))
        ∙ ap (λ m. chain_label key (m / P) (m % P)) e
        ∙ (λ t. chain_label key (div-mul-add i P j l t) (mod-mul-add i P j l t))

    -- what holds of the prefix's row, of each check row, each level of the path, and each position of each chain, holds of each row of a part
    pub each_row : (Q : ℕ → Label → Type 0)
        → Q 0 (prefix_label key)
        → ((i : ℕ) → i < k → Q (1 + i) (check_row_label key i))
        → ((i : ℕ) → i < h → Q (1 + k + i) (path_label key i))
        → ((i j : ℕ) → i < C → j < P → Q (1 + k + h + i * P + j) (chain_label key i j))
        → (n : ℕ) → n < part_rows h w k → Q n (label_at k h w key n)
    each_row Q prefix check path chain n l =
        let Holds : ℕ → Type 0 = λ m. Q m (label_at k h w key m) in
        ⊎_elim
        (λ (a : n < 1). let e : 0 ≡ n = omega arith in subst Holds e prefix)
        (λ (a : 1 ≤ n).
        ⊎_elim
        (λ (b : n < 1 + k).
        let i = n - 1 in
        let e : 1 + i ≡ n = omega arith in
        let m : i < k = omega arith in
        subst Holds e (subst (Q (1 + i)) (sym (at_check i m)) (check i m)))
        (λ (b : 1 + k ≤ n).
        ⊎_elim
        (λ (c : n < 1 + k + h).
        let i = n - (1 + k) in
        let e : 1 + k + i ≡ n = omega arith in
        let m : i < h = omega arith in
        subst Holds e (subst (Q (1 + k + i)) (sym (at_path i m)) (path i m)))
        (λ (c : 1 + k + h ≤ n).
        let m = n - (1 + k + h) in
        let i = m / P in
        let j = m % P in
        let small : m < C * P = omega arith in
        let i-in : i < C = div_below m P C (positive w) small in
        let j-in : j < P = mod_below m P (positive w) in
        let e : 1 + k + h + i * P + j ≡ n = omega (arith, div-add-mod' m P) in
        subst Holds e (subst (Q (1 + k + h + i * P + j)) (sym (at_chain i j j-in)) (chain i j i-in j-in)))
        (cases_lt n (1 + k + h)))
        (cases_lt n (1 + k)))
        (cases_lt n 1)

    -- ---- the place of each label
    pub of_check : (i : ℕ) → i < k → row_of k h w (check_row_label key i) ≡ Some (1 + i)
    of_check i l = cond-true (eqb 5 5 && (ltb i k && eqb 0 0)) (Some (1 + i)) _ (and_from (ltb i k) _ (lt-ltb i k l) refl)

    pub of_path : (i : ℕ) → i < h → row_of k h w (path_label key i) ≡ Some (1 + k + i)
    of_path i l = cond-true (eqb 1 1 && (ltb i h && eqb 0 0)) (Some (1 + k + i)) _ (and_from (ltb i h) _ (lt-ltb i h l) refl)

    pub of_chain : (i j : ℕ) → i < C → j < P → row_of k h w (chain_label key i j) ≡ Some (1 + k + h + i * P + j)
    of_chain i j l m = cond-true (eqb 2 2 && (ltb i C && ltb j P)) (Some (1 + k + h + i * P + j)) None (and_from (ltb i C) _ (lt-ltb i C l) (lt-ltb j P m))

    pub there : (n : ℕ) → n < part_rows h w k → row_of k h w (label_at k h w key n) ≡ Some n
    there = each_row (λ n l. row_of k h w l ≡ Some n) refl of_check of_path of_chain

    -- every row's label is of the key
    pub of_key : (n : ℕ) → (label_at k h w key n).key ≡ key
    of_key n =
        let is : Label → Type 0 = λ l. l.key ≡ key in
        cond_both (ltb n 1) _ _ is (λ a. refl) (λ a.
        cond_both (ltb n (1 + k)) _ _ is (λ b. refl) (λ b.
        cond_both (ltb n (1 + k + h)) (path_label key (n - (1 + k))) (chain_label key ((n - (1 + k + h)) / P) ((n - (1 + k + h)) % P)) is (λ c. refl) (λ c. refl)))

  -- what holds of these four holds of each label that has a row
  pub each_label : (l : Label) (Q : ℕ → Label → Type 0)
      → Q 0 (prefix_label l.key)
      → ((i : ℕ) → i < k → Q (1 + i) (check_row_label l.key i))
      → ((i : ℕ) → i < h → Q (1 + k + i) (path_label l.key i))
      → ((i j : ℕ) → i < C → j < P → Q (1 + k + h + i * P + j) (chain_label l.key i j))
      → (n : ℕ) → row_of k h w l ≡ Some n → Q n l
  each_label l Q prefix check path chain n e =
      chosen (eqb l.kind 4 && (eqb l.i 0 && eqb l.j 0)) 0 n _ e
      (λ b z.
      let q = and_parts (eqb l.kind 4) _ b in
      let r = and_parts (eqb l.i 0) _ q.1 in
      subst (λ m. Q m l) z (subst (Q 0) (is_label l 4 0 0 (eqb-true _ _ q.0) (eqb-true _ _ r.0) (eqb-true _ _ r.1)) prefix))
      (λ e5. chosen (eqb l.kind 5 && (ltb l.i k && eqb l.j 0)) (1 + l.i) n _ e5
      (λ b z.
      let q = and_parts (eqb l.kind 5) _ b in
      let r = and_parts (ltb l.i k) _ q.1 in
      subst (λ m. Q m l) z (subst (Q (1 + l.i)) (is_label l 5 l.i 0 (eqb-true _ _ q.0) refl (eqb-true _ _ r.1)) (check l.i (ltb-true l.i k r.0))))
      (λ e1. chosen (eqb l.kind 1 && (ltb l.i h && eqb l.j 0)) (1 + k + l.i) n _ e1
      (λ b z.
      let q = and_parts (eqb l.kind 1) _ b in
      let r = and_parts (ltb l.i h) _ q.1 in
      subst (λ m. Q m l) z (subst (Q (1 + k + l.i)) (is_label l 1 l.i 0 (eqb-true _ _ q.0) refl (eqb-true _ _ r.1)) (path l.i (ltb-true l.i h r.0))))
      (λ e2. chosen (eqb l.kind 2 && (ltb l.i C && ltb l.j P)) (1 + k + h + l.i * P + l.j) n None e2
      (λ b z.
      let q = and_parts (eqb l.kind 2) _ b in
      let r = and_parts (ltb l.i C) _ q.1 in
      subst (λ m. Q m l) z (subst (Q (1 + k + h + l.i * P + l.j)) (is_label l 2 l.i l.j (eqb-true _ _ q.0) refl refl) (chain l.i l.j (ltb-true l.i C r.0) (ltb-true l.j P r.1))))
      (λ none. absurd (none-some n none)))))

  -- a label's row is one of its key's part
  pub row_inside : (n : ℕ) (l : Label) → row_of k h w l ≡ Some n → n < part_rows h w k
  row_inside n l =
      each_label l (λ m _. m < part_rows h w k) (omega arith) (λ i m. omega arith) (λ i m. omega arith)
      (λ i j m o. omega (arith, mul-add-lt i P j C m o, mul_comm P C)) n

  -- and has the label
  pub back : (n : ℕ) (l : Label) → row_of k h w l ≡ Some n → (n < part_rows h w k) × (label_at k h w l.key n ≡ l)
  back n l e = (
    row_inside n l e,
    each_label l (λ m x. label_at k h w l.key m ≡ x) refl (at_check l.key) (at_path l.key) (λ i j m o. at_chain l.key i j o) n e,
  )
