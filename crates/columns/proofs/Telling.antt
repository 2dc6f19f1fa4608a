-- The laws of fields.
use Rattle.std.proofs.Common.{◌≡◌, ℕ, ◌-◌, ◌^◌, ◌<◌, ◌≤◌, true, false, eqb, leb, List, [], ◌++◌, length, Some, None, sym, ap, ◌∙◌, ⊎_elim, arith}
use native.Mathlib.Nat.{pow-le-pow_right}
use Rattle.std.proofs.lemmas.Bool.{eqb-true, leb-true, le-leb, cond-true, cond-false, cases_Bool}
use Rattle.std.proofs.lemmas.List.{append-nil, nil_from_length}
use Rattle.std.proofs.lemmas.Option.{none-some}
use Rattle.columns.specs.Number.{spaces, right, unpadded, number, number_in, blank}
use Rattle.columns.specs.Laws.{Fields}
use Rattle.columns.proofs.Text.{padded, number_is, number_right, length_right, unpadded_spaces}

-- of at most nine columns
short : (field : List ℕ) (n : ℕ) → number_in field ≡ Some n → (length field ≤ 9) × (number field ≡ Some n)
short field n e =
    let test = leb (length field) 9 in
    ⊎_elim
    (λ (y : test ≡ true). (leb-true (length field) 9 y, sym (cond-true test (number field) None y) ∙ e))
    (λ (f : test ≡ false). absurd (none-some n (sym (cond-false test (number field) None f) ∙ e)))
    (cases_Bool test)

reads : (field : List ℕ) (n : ℕ) → number_in field ≡ Some n → (length field ≤ 9) × (field ≡ right (length field) n)
reads field n e = let s = short field n e in (s.0, (number_is field n s.0 s.1).0)

writes : (columns n : ℕ) → 0 < columns → columns ≤ 9 → n < 10 ^ columns → (length (right columns n) ≡ columns) × (number_in (right columns n) ≡ Some n)
writes columns n some few small =
    let all : 10 ^ columns ≤ 10 ^ 9 = pow-le-pow_right (omega arith) {i = columns} {j = 9} few in
    let long = length_right columns n columns some (omega arith) few small in
    (long, cond-true (leb (length (right columns n)) 9) (number (right columns n)) None (le-leb (length (right columns n)) 9 (omega (arith, long))) ∙ number_right columns n (omega (arith, all)))

-- a blank text is spaces
pub spaces_are : (xs : List ℕ) → blank xs ≡ true → xs ≡ spaces (length xs)
spaces_are xs e =
    let none : unpadded xs ≡ [] = nil_from_length (unpadded xs) (eqb-true _ _ e) in
    let all : length xs - length (unpadded xs) ≡ length xs = omega (arith, ap length none) in
    (padded xs).1 ∙ ap (λ k. spaces k ++ unpadded xs) all ∙ ap (λ ys. spaces (length xs) ++ ys) none ∙ append-nil (spaces (length xs))

empty : (columns : ℕ) → blank (spaces columns) ≡ true
empty columns = ap blank (sym (append-nil (spaces columns))) ∙ ap (λ xs. eqb (length xs) 0) (unpadded_spaces columns [])

pub fields : Fields
fields = record { reads = reads; writes = writes; bare = spaces_are; empty = empty }
