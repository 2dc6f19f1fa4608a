-- Bytes cut into lines, as a reader of six bytes at a time meets them.
use Rattle.std.proofs.Common.{◌≡◌, ℕ, zero, suc, ◌+◌, ◌*◌, ◌<◌, ◌≤◌, Bool, true, false, cond, not, ◌&&◌, eqb, List, [], ◌∷◌, ◌++◌, length, Some, None, Option, MatchOption, ltb, sym, refl, ap, ◌∙◌, subst, ⊎_elim, arith}
use Rattle.std.specs.List.{filter, cons_option, position_or_len}
use Rattle.std.proofs.lemmas.Iterator.{YieldsList}
use Rattle.std.proofs.lemmas.Iterator.Consumers.{YieldsList-from_shown}
use Rattle.std.proofs.lemmas.Bool.{cases_Bool, cond-true, cond-false, ltb-true, ltb-false}
use Rattle.tape.specs.Lines.{lines, line_key, unused, listed, blanks, all_unused, fresh_key, FirstUnused, sound, Reads}
use Rattle.tape.proofs.Taping.{lines_cons}

-- where no whole line is left, one to five bytes are no line in order and no unused one
short : (limit : ℕ) (ys : List ℕ) → length ys < 6 → (eqb (length ys) 0 ≡ sound limit (lines ys)) × (eqb (length ys) 0 ≡ all_unused (lines ys))
unfolding lines
short limit [] h = (refl, refl)
short limit (a ∷ []) h = (refl, refl)
short limit (a ∷ b ∷ []) h = (refl, refl)
short limit (a ∷ b ∷ c ∷ []) h = (refl, refl)
short limit (a ∷ b ∷ c ∷ d ∷ []) h = (refl, refl)
short limit (a ∷ b ∷ c ∷ d ∷ e ∷ []) h = (refl, refl)
short limit (a ∷ b ∷ c ∷ d ∷ e ∷ f ∷ more) h = absurd (omega arith)

-- so the lines are in order, or all unused, just if no byte is left
module _ (xs rest : List ℕ) (end : (length xs < 6) × (rest ≡ xs)) where
  pub rest_sound : (limit : ℕ) → eqb (length rest) 0 ≡ sound limit (lines xs)
  rest_sound limit = ap (λ ys. eqb (length ys) 0) end.1 ∙ (short limit xs end.0).0

  pub rest_unused : eqb (length rest) 0 ≡ all_unused (lines xs)
  rest_unused = ap (λ ys. eqb (length ys) 0) end.1 ∙ (short 0 xs end.0).1

-- what a line that was read settles
module _ (bytes line rest : List ℕ) (read : (length line ≡ 6) × (bytes ≡ line ++ rest)) where
  front : lines bytes ≡ line ∷ lines rest
  front = ap lines read.1 ∙ lines_cons line rest read.0

  pub all_unused_from : (first : Bool) → first ≡ unused line → all_unused (lines bytes) ≡ (first && all_unused (lines rest))
  all_unused_from first u = ap all_unused front ∙ ap (λ b. b && all_unused (lines rest)) (sym u)

module _ (bytes line rest : List ℕ) (limit : ℕ) (read : (length line ≡ 6) × (bytes ≡ line ++ rest)) where
  step : sound limit (lines bytes) ≡ cond (unused line) (all_unused (lines rest)) (fresh_key limit (line_key line) (lines rest) && sound limit (lines rest))
  step = ap (sound limit) (front bytes line rest read)

  pub sound_unused : true ≡ unused line → sound limit (lines bytes) ≡ all_unused (lines rest)
  sound_unused u = step ∙ ap (λ b. cond b (all_unused (lines rest)) (fresh_key limit (line_key line) (lines rest) && sound limit (lines rest))) (sym u)

  pub sound_used : (fresh : Bool) → false ≡ unused line → fresh ≡ fresh_key limit (line_key line) (lines rest) → sound limit (lines bytes) ≡ (fresh && sound limit (lines rest))
  sound_used fresh u f = step ∙ ap (λ b. cond b (all_unused (lines rest)) (fresh_key limit (line_key line) (lines rest) && sound limit (lines rest))) (sym u) ∙ ap (λ b. b && sound limit (lines rest)) (sym f)

-- the whole lines alone
unfoldable pub whole_ones : List ℕ → List (List ℕ)
whole_ones (a ∷ b ∷ c ∷ d ∷ e ∷ f ∷ rest) = (a ∷ b ∷ c ∷ d ∷ e ∷ f ∷ []) ∷ whole_ones rest
whole_ones _ = []

-- what is left over lists no key and is not unused
pub record Cut (xs : List ℕ) : Type 0 where
  pub keys : listed (lines xs) ≡ listed (whole_ones xs)
  pub unused_ones : blanks (lines xs) ≡ blanks (whole_ones xs)
  pub fits : 6 * length (whole_ones xs) ≤ length xs

pub cut : (xs : List ℕ) → Cut xs
unfolding lines whole_ones
cut [] = record { keys = refl; unused_ones = refl; fits = omega arith }
cut (a ∷ []) = record { keys = refl; unused_ones = refl; fits = omega arith }
cut (a ∷ b ∷ []) = record { keys = refl; unused_ones = refl; fits = omega arith }
cut (a ∷ b ∷ c ∷ []) = record { keys = refl; unused_ones = refl; fits = omega arith }
cut (a ∷ b ∷ c ∷ d ∷ []) = record { keys = refl; unused_ones = refl; fits = omega arith }
cut (a ∷ b ∷ c ∷ d ∷ e ∷ []) = record { keys = refl; unused_ones = refl; fits = omega arith }
cut (a ∷ b ∷ c ∷ d ∷ e ∷ f ∷ rest) =
    let line = a ∷ b ∷ c ∷ d ∷ e ∷ f ∷ [] in
    let r = cut rest in
    record {
      keys = ap (cons_option (line_key line)) r.keys;
      unused_ones = ap (λ n. cond (unused line) 1 0 + n) r.unused_ones;
      fits = omega (arith, r.fits);
    }

-- a reader of the bytes gives the whole lines
whole_cons : (line rest : List ℕ) → length line ≡ 6 → whole_ones (line ++ rest) ≡ line ∷ whole_ones rest
unfolding whole_ones
whole_cons [] rest h = absurd (omega arith)
whole_cons (a ∷ []) rest h = absurd (omega arith)
whole_cons (a ∷ b ∷ []) rest h = absurd (omega arith)
whole_cons (a ∷ b ∷ c ∷ []) rest h = absurd (omega arith)
whole_cons (a ∷ b ∷ c ∷ d ∷ []) rest h = absurd (omega arith)
whole_cons (a ∷ b ∷ c ∷ d ∷ e ∷ []) rest h = absurd (omega arith)
whole_cons (a ∷ b ∷ c ∷ d ∷ e ∷ f ∷ []) rest h = refl
whole_cons (a ∷ b ∷ c ∷ d ∷ e ∷ f ∷ g ∷ more) rest h = absurd (omega arith)

module _ {S : Type 0} (bytes : S → List ℕ) where
  pub road : (s : S) → YieldsList (λ s r t. Reads (bytes s) r (bytes t)) (λ line. line) s (whole_ones (bytes s))
  road s = YieldsList-from_shown (λ s r t. Reads (bytes s) r (bytes t)) (λ line. line) (λ s. whole_ones (bytes s))
      (λ s t e. let none : 6 * length (whole_ones (bytes s)) ≤ length (bytes s) = (cut (bytes s)).fits in let short : length (bytes s) < 6 = e.0 in omega arith)
      (λ s x t e. ap whole_ones e.1 ∙ whole_cons x (bytes t) e.0)
      s

-- the first unused one
first_in : (ls : List (List ℕ)) → (position_or_len unused ls < length ls → FirstUnused ls (position_or_len unused ls)) × (length ls ≤ position_or_len unused ls → blanks ls ≡ 0)
first_in [] = (λ h. absurd (omega arith), λ h. refl)
first_in (l ∷ ls) =
    let p = position_or_len unused ls in
    ⊎_elim
    (λ (u : unused l ≡ true).
    let at : position_or_len unused (l ∷ ls) ≡ 0 = ap (λ b. cond (not b) (1 + p) 0) u in
    (λ h. subst (FirstUnused (l ∷ ls)) (sym at) u, λ h. absurd (omega (arith, at))))
    (λ (u : unused l ≡ false).
    let at : position_or_len unused (l ∷ ls) ≡ suc p = ap (λ b. cond (not b) (1 + p) 0) u ∙ omega arith in
    let none : ◌≡◌ {A = ℕ} (cond (unused l) 1 0) 0 = ap (λ b. cond b 1 0) u in
    (λ h. subst (FirstUnused (l ∷ ls)) (sym at) (u, (first_in ls).0 (omega (arith, at))), λ h. let rest = (first_in ls).1 (omega (arith, at)) in omega (arith, none, rest)))
    (cases_Bool (unused l))

first_whole : (xs : List ℕ) (i : ℕ) → FirstUnused (whole_ones xs) i → FirstUnused (lines xs) i
unfolding lines whole_ones
first_whole [] i h = absurd h
first_whole (a ∷ []) i h = absurd h
first_whole (a ∷ b ∷ []) i h = absurd h
first_whole (a ∷ b ∷ c ∷ []) i h = absurd h
first_whole (a ∷ b ∷ c ∷ d ∷ []) i h = absurd h
first_whole (a ∷ b ∷ c ∷ d ∷ e ∷ []) i h = absurd h
first_whole (a ∷ b ∷ c ∷ d ∷ e ∷ f ∷ rest) zero h = h
first_whole (a ∷ b ∷ c ∷ d ∷ e ∷ f ∷ rest) (suc i) h = (h.0, first_whole rest i h.1)

-- where a search for an unused line ends
pub placed : (xs : List ℕ) (r : Option ℕ) → r ≡ cond (ltb (position_or_len unused (whole_ones xs)) (length (whole_ones xs))) (Some (position_or_len unused (whole_ones xs))) None →
    MatchOption r (blanks (lines xs) ≡ 0) (λ i. (6 * i + 6 ≤ length xs) × FirstUnused (lines xs) i)
placed xs r e =
    let ls = whole_ones xs in
    let p = position_or_len unused ls in
    let P : Option ℕ → Type 0 = λ o. MatchOption o (blanks (lines xs) ≡ 0) (λ i. (6 * i + 6 ≤ length xs) × FirstUnused (lines xs) i) in
    ⊎_elim
    (λ (t : ltb p (length ls) ≡ true). let below = ltb-true p (length ls) t in subst P (sym (e ∙ cond-true (ltb p (length ls)) (Some p) None t)) (omega (arith, (cut xs).fits, below), first_whole xs p ((first_in ls).0 below)))
    (λ (f : ltb p (length ls) ≡ false). subst P (sym (e ∙ cond-false (ltb p (length ls)) (Some p) None f)) ((cut xs).unused_ones ∙ (first_in ls).1 (ltb-false p (length ls) f)))
    (cases_Bool (ltb p (length ls)))

-- how many are unused
pub blank_count : (ls : List (List ℕ)) → length (filter unused ls) ≡ blanks ls
blank_count [] = refl
blank_count (l ∷ ls) =
    let fs = filter unused ls in
    ⊎_elim
    (λ (u : unused l ≡ true).
    let kept : length (filter unused (l ∷ ls)) ≡ suc (length fs) = ap (λ b. length (cond b (l ∷ fs) fs)) u in
    let one : ◌≡◌ {A = ℕ} (cond (unused l) 1 0) 1 = ap (λ b. cond b 1 0) u in
    omega (arith, kept, one, blank_count ls))
    (λ (u : unused l ≡ false).
    let kept : length (filter unused (l ∷ ls)) ≡ length fs = ap (λ b. length (cond b (l ∷ fs) fs)) u in
    let none : ◌≡◌ {A = ℕ} (cond (unused l) 1 0) 0 = ap (λ b. cond b 1 0) u in
    omega (arith, kept, none, blank_count ls))
    (cases_Bool (unused l))
