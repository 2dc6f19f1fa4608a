-- What the chains that read a field give.
use Rattle.std.proofs.Common.{◌≡◌, ℕ, suc, ◌+◌, ◌-◌, ◌*◌, ◌^◌, ◌≤◌, ◌<◌, Bool, true, false, cond, not, ◌&&◌, eqb, leb, ltb, List, [], ◌∷◌, ◌++◌, map, fold, Iter, Bor, length, take, drop, Some, None, Option, unwrap_or, sym, refl, ap, ◌∙◌, ⊎_elim, arith}
use Rattle.std.specs.Str.{all_ascii_digits}
use Rattle.std.specs.Char.{is_ascii_digit}
use Rattle.std.specs.List.{list_all, position_or_len}
use Rattle.std.specs.Iterator.{Yields, CallableAtEachTurn}
use Rattle.std.proofs.lemmas.Bool.{cond-true, cond-false, cases_lt, lt-ltb, le-ltb, leb-true, and_parts, and_from}
use Rattle.std.proofs.lemmas.List.{take_rest, drop_all, length-append, map_push}
use Rattle.std.proofs.lemmas.Fn.{serves_by, fronts}
use Rattle.std.proofs.lemmas.Str.Parse.{digits_value_short}
use Rattle.columns.specs.Number.{unpadded, read_on}
use Rattle.columns.proofs.Text.{own}

pub digits_all : (xs : List ℕ) → list_all is_ascii_digit xs ≡ all_ascii_digits xs
digits_all [] = refl
digits_all (x ∷ xs) = ap (λ b. is_ascii_digit x && b) (digits_all xs)

abbrev pub blanks : List ℕ → ℕ
blanks xs = position_or_len (λ x. not (eqb x 32)) xs

dropped : (xs : List ℕ) → drop (blanks xs) xs ≡ unpadded xs
dropped [] = refl
dropped (x ∷ xs) = step (dropped xs) (eqb x 32)
  where
    step : drop (blanks xs) xs ≡ unpadded xs → (blank : Bool) → drop (cond (not (not blank)) (1 + blanks xs) 0) (x ∷ xs) ≡ cond blank (unpadded xs) (x ∷ xs)
    step rest true = let s : 1 + blanks xs ≡ suc (blanks xs) = omega arith in ap (λ k. drop k (x ∷ xs)) s ∙ rest
    step rest false = refl

pub behind_blanks : (xs : List ℕ) (found : Option ℕ) (n : ℕ) → found ≡ cond (ltb (blanks xs) (length xs)) (Some (blanks xs)) None → n ≡ unwrap_or found (length xs) → take (length xs - n) (drop n xs) ≡ unpadded xs
behind_blanks xs found n e is =
    take_rest xs n
    ∙ ⊎_elim
    (λ (l : blanks xs < length xs). ap (λ k. drop k xs) (is ∙ ap (λ o. unwrap_or o (length xs)) (e ∙ cond-true _ _ _ (lt-ltb _ _ l))) ∙ dropped xs)
    (λ (l : length xs ≤ blanks xs).
    let none : n ≡ length xs = is ∙ ap (λ o. unwrap_or o (length xs)) (e ∙ cond-false _ _ _ (le-ltb _ _ l)) in
    drop_all n xs (omega arith) ∙ sym (drop_all (blanks xs) xs l) ∙ dropped xs)
    (cases_lt (blanks xs) (length xs))

-- ---- the chain that adds up digits
pub folded : (n : ℕ) (ds : List ℕ) → fold (λ n d. n * 10 + (d - 48)) n ds ≡ read_on n ds
folded n [] = refl
folded n (d ∷ ds) = folded (n * 10 + (d - 48)) ds

-- one more digit at the end
read_push : (n : ℕ) (ds : List ℕ) (d : ℕ) → read_on n (ds ++ d ∷ []) ≡ read_on n ds * 10 + (d - 48)
read_push n [] d = refl
read_push n (c ∷ ds) d = read_push (n * 10 + (c - 48)) ds d

-- a digit among digits, and those before it
before : (ds : List ℕ) (d : ℕ) (more : List ℕ) → all_ascii_digits (ds ++ d ∷ more) ≡ true → (all_ascii_digits ds ≡ true) × (48 ≤ d) × (d ≤ 57)
before [] d more h =
    let q = and_parts (leb 48 d) (leb d 57) (and_parts (is_ascii_digit d) (all_ascii_digits more) h).0 in
    (refl, leb-true 48 d q.0, leb-true d 57 q.1)
before (c ∷ ds) d more h =
    let p = and_parts (is_ascii_digit c) (all_ascii_digits (ds ++ d ∷ more)) h in
    let r = before ds d more p.1 in
    (and_from _ _ p.0 r.0, r.1, r.2)

abbrev here : Bor ℕ → ℕ
here d = d.now

-- what was taken of a slice, and what is left
taken : (ds : List (Bor ℕ)) (s t : Iter ℕ) → Yields fronts s ds t → s.rest.now ≡ map here ds ++ t.rest.now
taken [] s t y = ap (λ i. i.rest.now) y
taken (d ∷ ds) s t y = y.1 ∙ ap (λ l. d.now ∷ l) (taken ds y.0 t y.2)

-- before each of at most nine digits the number has at most eight
pub served : {F : Type 0} {R : F × ℕ → Bor ℕ → F × ℕ → Type 0} {Q : F × ℕ → Bor ℕ → Type 0} {f : F} (s : Iter ℕ) (ds : List ℕ) → s.rest.now ≡ ds → all_ascii_digits ds ≡ true → length ds ≤ 9
    → ((p : F × ℕ) (d : Bor ℕ) (q : F × ℕ) → R p d q → q.1 ≡ p.1 * 10 + (d.now - 48))
    → ((p : F × ℕ) (d : Bor ℕ) → p.1 < 10 ^ 8 → 48 ≤ d.now → d.now ≤ 57 → Q p d)
    → CallableAtEachTurn {P = F × ℕ} fronts R Q s (f, 0)
served {F} {R} {Q} {f} s ds is digits few adds asks = serves_by R (λ xs q. q.1 ≡ read_on 0 (map here xs))
    (λ xs p d q j r. adds p d q r ∙ ap (λ n. n * 10 + (d.now - 48)) j ∙ sym (read_push 0 (map here xs) d.now) ∙ ap (read_on 0) (sym (map_push here xs d)))
    fronts Q s (f, 0) refl
    (λ xs t q d u y e j.
    let all : ds ≡ map here xs ++ d.now ∷ u.rest.now = sym is ∙ taken xs s t y ∙ ap (λ l. map here xs ++ l) e in
    let b = before (map here xs) d.now u.rest.now (sym (ap all_ascii_digits all) ∙ digits) in
    let long : length ds ≡ length (map here xs) + length (d.now ∷ u.rest.now) = ap length all ∙ length-append (map here xs) (d.now ∷ u.rest.now) in
    asks q d (omega (arith, j, digits_value_short own (map here xs) 8 b.0 (omega (arith, few, long)))) b.1 b.2)
