-- One line written over the first unused one.
use Rattle.std.proofs.Common.{◌≡◌, ℕ, zero, suc, ◌+◌, ◌*◌, ◌^◌, ◌<◌, ◌≤◌, Bool, true, false, cond, not, ◌||◌, eqb, leb, List, [], ◌∷◌, ◌++◌, length, Some, None, Option, take, drop, set, sym, refl, ap, subst, ◌∙◌, inr, append_assoc, arith, take-add}
use Rattle.std.specs.List.{cons_option, list_any, IsDistinct}
use Rattle.std.specs.Cmp.{nat_eq_equiv}
use Rattle.std.proofs.lemmas.Map.Keys.{IsDistinct-cons, IsDistinct-head, IsDistinct-tail}
use Rattle.std.proofs.lemmas.List.{take-append-drop, length-take-le, length-drop, drop-drop}
use Rattle.std.proofs.lemmas.Bool.{cond-true, cond-false, or_from, or_parts, leb-false, not-false}
use Rattle.checks.specs.Checks.{first_refusal}
use Rattle.ledger.specs.Spend.{checks, Spends}
use Rattle.ledger.proofs.Checked.{accepts}
use Rattle.ledger.proofs.Trees.{tree_spends}
use Rattle.tape.specs.Lines.{lines, line_of, line_key, unused, listed, lists, blanks, FirstUnused, spent_on, flat, with_line}
use Rattle.tape.specs.Tapes.{of_tape}
use Rattle.tape.proofs.Taping.{Small, each_fails, finds_none, key_of_line, used_line, unused_is, lines_cons, flat_lines, length_line}

-- ---- the bytes
lines_front : (b : List ℕ) → 6 ≤ length b → lines b ≡ take 6 b ∷ lines (drop 6 b)
lines_front b h = ap lines (sym (take-append-drop 6 b)) ∙ lines_cons (take 6 b) (drop 6 b) (length-take-le 6 b h)

put_at : ℕ → List ℕ → List ℕ → List ℕ
put_at zero line b = line ++ drop 6 b
put_at (suc i) line b = take 6 b ++ put_at i line (drop 6 b)

put_is : (i : ℕ) (line b : List ℕ) → put_at i line b ≡ take (6 * i) b ++ (line ++ drop 6 (drop (6 * i) b))
unfolding put_at
put_is zero line b = refl
put_is (suc i) line b =
    let e : 6 * suc i ≡ 6 + 6 * i = omega arith in
    ap (λ t. take 6 b ++ t) (put_is i line (drop 6 b))
    ∙ sym (append_assoc (take 6 b) (take (6 * i) (drop 6 b)) (line ++ drop 6 (drop (6 * i) (drop 6 b))))
    ∙ ap (λ t. t ++ (line ++ drop 6 (drop (6 * i) (drop 6 b)))) (sym (take-add 6 (6 * i) b))
    ∙ ap (λ t. take (6 + 6 * i) b ++ (line ++ drop 6 t)) (drop-drop (6 * i) 6 b)
    ∙ ap (λ k. take k b ++ (line ++ drop 6 (drop k b))) (sym e)

lines_put : (i : ℕ) (line b : List ℕ) → length line ≡ 6 → 6 * i + 6 ≤ length b → lines (put_at i line b) ≡ set (lines b) i line
unfolding put_at
lines_put zero line b six h = lines_cons line (drop 6 b) six ∙ ap (λ ls. set ls 0 line) (sym (lines_front b (omega arith)))
lines_put (suc i) line b six h =
    let long : 6 ≤ length b = omega arith in
    lines_cons (take 6 b) (put_at i line (drop 6 b)) (length-take-le 6 b long)
    ∙ ap (λ ls. take 6 b ∷ ls) (lines_put i line (drop 6 b) six (omega (arith, length-drop 6 b)))
    ∙ ap (λ ls. set ls (suc i) line) (sym (lines_front b long))

-- ---- the lines
or_swap : (a b c : Bool) → (a || (b || c)) ≡ (b || (a || c))
or_swap true true c = refl
or_swap true false c = refl
or_swap false b c = refl

spent_is : (ls : List (List ℕ)) (i key : ℕ) → FirstUnused ls i → spent_on ls key ≡ set ls i (line_of key)
spent_is [] i key f = absurd f
spent_is (l ∷ ls) zero key f = cond-true (unused l) (line_of key ∷ ls) (l ∷ spent_on ls key) f
spent_is (l ∷ ls) (suc i) key f = cond-false (unused l) (line_of key ∷ ls) (l ∷ spent_on ls key) f.0 ∙ ap (λ t. l ∷ t) (spent_is ls i key f.1)

lists_set : (ls : List (List ℕ)) (i key k : ℕ) → FirstUnused ls i → Small key → lists (set ls i (line_of key)) k ≡ (eqb k key || lists ls k)
lists_set [] i key k f s = absurd f
lists_set (l ∷ ls) zero key k f s =
    ap (λ o. list_any (eqb k) (cons_option o (listed ls))) (key_of_line key s)
    ∙ ap (λ x. eqb k key || list_any (eqb k) (cons_option (line_key x) (listed ls))) (sym (unused_is l f))
lists_set (l ∷ ls) (suc i) key k f s = past (line_key l) (lists_set ls i key k f.1 s)
  where
    past : (o : Option ℕ) → list_any (eqb k) (listed (set ls i (line_of key))) ≡ (eqb k key || list_any (eqb k) (listed ls)) →
        list_any (eqb k) (cons_option o (listed (set ls i (line_of key)))) ≡ (eqb k key || list_any (eqb k) (cons_option o (listed ls)))
    past None e = e
    past (Some n) e = ap (λ b. eqb k n || b) e ∙ or_swap (eqb k n) (eqb k key) (list_any (eqb k) (listed ls))

blanks_set : (ls : List (List ℕ)) (i key : ℕ) → FirstUnused ls i → Small key → blanks (set ls i (line_of key)) + 1 ≡ blanks ls
blanks_set [] i key f s = absurd f
blanks_set (l ∷ ls) zero key f s =
    let new : ◌≡◌ {A = ℕ} (cond (unused (line_of key)) 1 0) 0 = cond-false (unused (line_of key)) 1 0 (used_line key s) in
    let old : ◌≡◌ {A = ℕ} (cond (unused l) 1 0) 1 = cond-true (unused l) 1 0 f in
    omega (arith, new, old)
blanks_set (l ∷ ls) (suc i) key f s = omega (arith, blanks_set ls i key f.1 s)

-- keys that are listed stay distinct where one more is written that is none of them
distinct_set : (ls : List (List ℕ)) (i key : ℕ) → FirstUnused ls i → Small key → IsDistinct eqb (listed ls) → lists ls key ≡ false → IsDistinct eqb (listed (set ls i (line_of key)))
distinct_set [] i key f s d absent = absurd f
distinct_set (l ∷ ls) zero key f s d absent =
    let blank : line_key l ≡ None = ap line_key (unused_is l f) in
    let rest : IsDistinct eqb (listed ls) = subst (λ o. IsDistinct eqb (cons_option o (listed ls))) blank d in
    let none : lists ls key ≡ false = ap (λ o. list_any (eqb key) (cons_option o (listed ls))) (sym blank) ∙ absent in
    subst (λ o. IsDistinct eqb (cons_option o (listed ls))) (sym (key_of_line key s)) (IsDistinct-cons eqb key (listed ls) (each_fails (eqb key) (listed ls) none) rest)
distinct_set (l ∷ ls) (suc i) key f s d absent = past (line_key l) (λ rest none. distinct_set ls i key f.1 s rest none) d absent
  where
    past : (o : Option ℕ) → (IsDistinct eqb (listed ls) → lists ls key ≡ false → IsDistinct eqb (listed (set ls i (line_of key)))) →
        IsDistinct eqb (cons_option o (listed ls)) → list_any (eqb key) (cons_option o (listed ls)) ≡ false →
        IsDistinct eqb (cons_option o (listed (set ls i (line_of key))))
    past None go d none = go d none
    past (Some n) go d none =
        let parts = or_parts (eqb key n) (list_any (eqb key) (listed ls)) none in
        let other : eqb n key ≡ false = nat_eq_equiv.symm n key ∙ parts.0 in
        let before = finds_none (eqb n) (listed ls) (IsDistinct-head eqb n (listed ls) d) in
        let after : lists (set ls i (line_of key)) n ≡ false = lists_set ls i key n f.1 s ∙ or_from _ _ other before in
        IsDistinct-cons eqb n (listed (set ls i (line_of key))) (each_fails (eqb n) _ after) (go (IsDistinct-tail eqb n (listed ls) d) parts.1)

-- ---- a spend
module _ (intact : Bool) (h : ℕ) (bytes : List ℕ) (key : ℕ) (free : (not intact || (leb (2 ^ h) key || lists (lines bytes) key)) ≡ false) where
  pub is_intact : intact ≡ true
  is_intact = not-false intact (or_parts _ _ free).0

  pub key_below : key < 2 ^ h
  key_below = leb-false _ _ (or_parts _ _ (or_parts _ _ free).1).0

  module _ (i : ℕ) (fits : 6 * i + 6 ≤ length bytes) (first : FirstUnused (lines bytes) i) (small : Small key) where
    some_room : (cond intact (blanks (lines bytes)) 0 ≡ 0) → ⊥
    some_room e = omega (arith, cond-true intact (blanks (lines bytes)) 0 is_intact, blanks_set (lines bytes) i key first small)

    pub accepted : first_refusal (checks (of_tape intact h bytes) key) ≡ None
    accepted = accepts (of_tape intact h bytes) key free some_room

    module _ (after : List ℕ) (put : after ≡ take (6 * i) bytes ++ (line_of key ++ drop 6 (drop (6 * i) bytes))) where
      lines_after : lines after ≡ set (lines bytes) i (line_of key)
      lines_after = ap lines (put ∙ sym (put_is i (line_of key) bytes)) ∙ lines_put i (line_of key) bytes (length_line key small) fits

      pub after_is : after ≡ with_line bytes key
      after_is = sym (flat_lines after) ∙ ap flat (lines_after ∙ sym (spent_is (lines bytes) i key first))

      pub distinct : IsDistinct eqb (listed (lines bytes)) → IsDistinct eqb (listed (lines after))
      distinct d =
          let absent : lists (lines bytes) key ≡ false = (or_parts _ _ (or_parts _ _ free).1).1 in
          subst (λ ls. IsDistinct eqb (listed ls)) (sym lines_after) (distinct_set (lines bytes) i key first small d absent)

      pub spends : Spends (of_tape intact h bytes) key (of_tape intact h after)
      spends = tree_spends intact h key (lists (lines bytes)) (lists (lines after)) (blanks (lines bytes)) (blanks (lines after)) accepted (λ k. ap (λ ls. lists ls k) lines_after ∙ lists_set (lines bytes) i key k first small)
          (inr (omega (arith, cond-true intact (blanks (lines after)) 0 is_intact, cond-true intact (blanks (lines bytes)) 0 is_intact, ap blanks lines_after, blanks_set (lines bytes) i key first small)))
