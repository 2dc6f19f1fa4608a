-- What the checks let pass.
use Rattle.std.proofs.Common.{◌≡◌, ℕ, zero, suc, ◌*◌, ◌<◌, true, false, not, eqb, List, [], ◌∷◌, length, get_or, replicate, Some, None, Option, sym, refl, ap, ◌∙◌, ⊎_elim, arith}
use Rattle.std.proofs.lemmas.Bool.{and_parts, and_from, cases_Bool, cond-true, eqb-true, eq-eqb, not-true, not_from_false, true≢false}
use Rattle.std.proofs.lemmas.List.Folds.{list_any_at, list_any_none}
use Rattle.std.proofs.lemmas.List.{get_or_default}
use Rattle.std.proofs.lemmas.List.Sums.{AllPass-from_list_all, list_all-from_AllPass}
use Rattle.std.proofs.lemmas.Slice.Eq.{bytes_eq-Decides}
use Rattle.checks.specs.Checks.{first_refusal}
use Rattle.checks.proofs.Ordered.{passed}
use Rattle.plan.specs.Shape.{Shape}
use Rattle.plan.specs.Keys.{owner}
use Rattle.layout.specs.Table.{rows_of_group}
use Rattle.pads.specs.Source.{Source}
use Rattle.splitting.specs.declared.refusal.Refusal.TheVariants.{Sources, SameChecks, Buffer, NotHeld}
use Rattle.splitting.specs.Sources.{no_source, clash, clashes_any, distinct, source_of, all_hold}
use Rattle.splitting.specs.Split.{members_of, split_checks, part_long, refusal}
use Rattle.splitting.specs.Laws.{Fit}

-- ---- one check after the other
pub record Passed (p : Shape) (sources : List Source) (key n : ℕ) : Type 0 where
  pub number : eqb (length sources) p.trustees ≡ true
  pub apart : distinct sources ≡ true
  pub g : ℕ
  pub owns : owner p key ≡ Some g
  pub long : n ≡ 32 * rows_of_group p g
  pub held : all_hold sources (members_of p g) key ≡ true

pub all_passed : (p : Shape) (sources : List Source) (key n : ℕ) → refusal p sources key n ≡ None → Passed p sources key n
all_passed p sources key n e = from (owner p key) refl e
  where
    from : (o : Option ℕ) → owner p key ≡ o → first_refusal (split_checks p sources key (part_long p n) o) ≡ None → Passed p sources key n
    from None same h = absurd (true≢false (sym (passed (split_checks p sources key (part_long p n) None) h 2 _ refl)))
    from (Some g) same h =
        let pass = passed (split_checks p sources key (part_long p n) (Some g)) h in
        record { number = pass 0 _ refl; apart = pass 1 _ refl; g = g; owns = same; long = eqb-true _ _ (pass 3 _ refl); held = pass 4 _ refl }

-- ---- sources that are told apart
abbrev zeros : List ℕ
zeros = replicate 32 0

abbrev at : List Source → ℕ → Source
at sources i = get_or sources i no_source

-- two that do not clash
abbrev Apart : Source → Source → Type 0
Apart a b = a.held 0 ≡ true → b.held 0 ≡ true → a.check 0 zeros ≡ b.check 0 zeros → ⊥

apart_from : (a b : Source) → clash a b ≡ false → Apart a b
apart_from a b none ha hb e = absurd (true≢false (sym (and_from (a.held 0) _ ha (and_from (b.held 0) _ hb ((bytes_eq-Decides (a.check 0 zeros) (b.check 0 zeros)).1 e))) ∙ none))

clash_from : (a b : Source) → Apart a b → clash a b ≡ false
clash_from a b apart =
    ⊎_elim
    (λ (y : clash a b ≡ true).
    let p = and_parts (a.held 0) _ y in
    let q = and_parts (b.held 0) _ p.1 in
    absurd (apart p.0 q.0 ((bytes_eq-Decides (a.check 0 zeros) (b.check 0 zeros)).0 q.1)))
    (λ (n : clash a b ≡ false). n)
    (cases_Bool (clash a b))

none_clashes : (a : Source) (others : List Source) → clashes_any a others ≡ false → (j : ℕ) → j < length others → clash a (at others j) ≡ false
none_clashes a others none j l =
    ⊎_elim
    (λ (y : clash a (at others j) ≡ true). absurd (true≢false (sym (list_any_at (clash a) others j no_source l y) ∙ none)))
    (λ (n : clash a (at others j) ≡ false). n)
    (cases_Bool (clash a (at others j)))

apart : (sources : List Source) → distinct sources ≡ true → (i j : ℕ) → i < j → j < length sources → Apart (at sources i) (at sources j)
apart [] d i j l m = absurd (omega arith)
apart (a ∷ rest) d zero zero l m = absurd (omega arith)
apart (a ∷ rest) d zero (suc j) l m = apart_from a (at rest j) (none_clashes a rest (not-true _ (and_parts (not (clashes_any a rest)) (distinct rest) d).0) j (omega arith))
apart (a ∷ rest) d (suc i) zero l m = absurd (omega arith)
apart (a ∷ rest) d (suc i) (suc j) l m = apart rest (and_parts (not (clashes_any a rest)) (distinct rest) d).1 i j (omega arith) (omega arith)

distinct_from : (sources : List Source) → ((i j : ℕ) → i < j → j < length sources → Apart (at sources i) (at sources j)) → distinct sources ≡ true
distinct_from [] f = refl
distinct_from (a ∷ rest) f =
    and_from (not (clashes_any a rest)) (distinct rest)
    (not_from_false _ (list_any_none (clash a) rest (λ j d l. ap (clash a) (get_or_default rest j d no_source l) ∙ clash_from a (at rest j) (f 0 (suc j) (omega arith) (omega arith)))))
    (distinct_from rest (λ i j l m. f (suc i) (suc j) (omega arith) (omega arith)))

-- ---- all checks at once
pub fits : (p : Shape) (sources : List Source) (key n : ℕ) → refusal p sources key n ≡ None → Fit p sources key n
fits p sources key n e =
    let all = all_passed p sources key n e in
    record {
      all = eqb-true (length sources) p.trustees all.number;
      apart = apart sources all.apart;
      g = all.g;
      owns = all.owns;
      long = all.long;
      held = λ i l. AllPass-from_list_all (λ t. (source_of sources t).held key) (members_of p all.g) all.held i 0 l;
    }

pub no_refusal : (p : Shape) (sources : List Source) (key n : ℕ) → Fit p sources key n → refusal p sources key n ≡ None
no_refusal p sources key n f =
    let held = list_all-from_AllPass (λ t. (source_of sources t).held key) (members_of p f.g) (λ i d l. ap (λ t. (source_of sources t).held key) (get_or_default (members_of p f.g) i d 0 l) ∙ f.held i l) in
    ap (λ o. first_refusal (split_checks p sources key (part_long p n) o)) f.owns
    ∙ cond-true (eqb (length sources) p.trustees) _ (Some Sources) (eq-eqb (length sources) p.trustees f.all)
    ∙ cond-true (distinct sources) _ (Some SameChecks) (distinct_from sources f.apart)
    ∙ cond-true (eqb n (32 * rows_of_group p f.g)) _ (Some Buffer) (eq-eqb n (32 * rows_of_group p f.g) f.long)
    ∙ cond-true (all_hold sources (members_of p f.g) key) None (Some NotHeld) held
