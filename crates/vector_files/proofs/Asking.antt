-- Questions that are asked one after the other, and the count of what comes of them.
use Rattle.std.proofs.Common.{◌≡◌, ℕ, ◌+◌, ◌<◌, length, take, get_or, All, Bool, true, false, cond, List, [], ◌∷◌, ◌++◌, map, count_by, Option, ap, sym, ◌∙◌, refl, subst, arith, add_assoc, zero-add}
use Rattle.std.proofs.lemmas.List.Sums.{sum_by-append}
use Rattle.std.proofs.lemmas.List.{take_more, map-append}
use Rattle.std.proofs.lemmas.List.Concat.{flat_map-append}
use Rattle.std.proofs.lemmas.List.Elements.{All-append}
use Rattle.std.specs.Prelude.{option_to_list}
use Rattle.std.specs.List.{flat_map}
use Rattle.vector_files.specs.declared.count.Count.{Count}
use Rattle.vector_files.specs.declared.count.Outcome.{Outcome}
use Rattle.vector_files.specs.declared.waiting.Waiting.{Waiting}
use Rattle.vector_files.specs.Field.{NamedValue, Lines}
use Rattle.vector_files.specs.Cases.{Question, Comes, Come, IsAsked, IsKnown, is_case, is_wrong, is_waiting, counted, plus, questions, outcome_of}
use Rattle.vector_files.specs.Cases.Question.{Whole, Line}
use Rattle.vector_files.specs.Waits.{block_waits}
use Rattle.vector_files.specs.declared.count.Outcome.TheVariants.{Waits}

-- ---- counts
same_count : (a b c d e f : ℕ) → a ≡ d → b ≡ e → c ≡ f → (λ (n m k : ℕ). let count : Count = record { cases = n; wrong = m; waiting = k } in count) a b c ≡ (λ (n m k : ℕ). let count : Count = record { cases = n; wrong = m; waiting = k } in count) d e f
same_count a b c d e f p q r = rw (p, q, r) refl

count_on : {A : Type 0} (p : A → Bool) (n : ℕ) (xs ys : List A) → n + count_by p xs + count_by p ys ≡ n + count_by p (xs ++ ys)
count_on p n xs ys = add_assoc n (count_by p xs) (count_by p ys) ∙ ap (λ m. n + m) (sym (sum_by-append (λ x. cond (p x) 1 0) xs ys))

plus_counted : (c : Count) (xs ys : List Outcome) → plus (plus c (counted xs)) (counted ys) ≡ plus c (counted (xs ++ ys))
plus_counted c xs ys = same_count _ _ _ _ _ _ (count_on is_case c.cases xs ys) (count_on is_wrong c.wrong xs ys) (count_on is_waiting c.waiting xs ys)

plus_none : (c : Count) → c ≡ plus c (counted [])
plus_none c =
    let a : c.cases ≡ c.cases + 0 = omega arith in
    let b : c.wrong ≡ c.wrong + 0 = omega arith in
    let d : c.waiting ≡ c.waiting + 0 = omega arith in
    same_count _ _ _ _ _ _ a b d

-- ---- questions
-- one line more of a block
pub line_more : (block items : Lines) (i : ℕ) (line : NamedValue) → i < length items → line ≡ get_or items i line
    → Whole block ∷ map (Line block) (take (i + 1) items) ≡ (Whole block ∷ map (Line block) (take i items)) ++ Line block line ∷ []
line_more block items i line inside is =
    ap (λ qs. Whole block ∷ qs) (ap (map (Line block)) (take_more items i line inside ∙ ap (λ l. take i items ++ l ∷ []) (sym is)) ∙ map-append (Line block) (take i items) (line ∷ []))

-- names that are known in some blocks, and in the one that ended behind them
pub known_ended : (values cases : List (List ℕ)) (first waiting : Waiting) (blocks : List Lines) (block : Option Lines) → waiting ≡ first
    → All (IsKnown values cases first) blocks → All (IsKnown values cases waiting) (option_to_list block) → All (IsKnown values cases first) (blocks ++ option_to_list block)
known_ended values cases first waiting blocks block same before last = All-append (IsKnown values cases first) blocks (option_to_list block) before (subst (λ w. All (IsKnown values cases w) (option_to_list block)) same last)

module _ {S : Type 0} (answers : S → Lines → Option Bool → S → Type 0) (line_answers : S → Lines → List ℕ → Bool → S → Type 0) (cases : List (List ℕ)) (waiting : Waiting) where
  -- some questions, and then others
  come_on : (qs rs : List Question) (os ps : List Outcome) (s m t : S) → Come answers line_answers cases waiting s qs os m → Come answers line_answers cases waiting m rs ps t → Come answers line_answers cases waiting s (qs ++ rs) (os ++ ps) t
  come_on [] rs [] ps s m t before behind = subst (λ x. Come answers line_answers cases waiting x rs ps t) before behind
  come_on [] rs (o ∷ os) ps s m t before behind = absurd before
  come_on (q ∷ qs) rs [] ps s m t before behind = absurd before
  come_on (q ∷ qs) rs (o ∷ os) ps s m t before behind = (before.0, before.1, come_on qs rs os ps before.0 m t before.2 behind)

  -- no question
  pub asked_none : (s : S) (c : Count) → IsAsked answers line_answers cases waiting [] s c s c
  asked_none s c = record { outcomes = []; come = refl; grown = plus_none c }

  -- one question
  pub asked_one : (q : Question) (outcome : Outcome) (s t : S) (c d : Count) → Comes answers line_answers cases waiting s q outcome t → d ≡ plus c (counted (outcome ∷ [])) → IsAsked answers line_answers cases waiting (q ∷ []) s c t d
  asked_one q outcome s t c d comes grown = record { outcomes = outcome ∷ []; come = (t, comes, refl); grown = grown }

  -- some questions, and then others
  pub asked_on : (qs rs : List Question) (s m t : S) (c d e : Count) → IsAsked answers line_answers cases waiting qs s c m d → IsAsked answers line_answers cases waiting rs m d t e
      → IsAsked answers line_answers cases waiting (qs ++ rs) s c t e
  asked_on qs rs s m t c d e before behind =
      record {
        outcomes = before.outcomes ++ behind.outcomes;
        come = come_on qs rs before.outcomes behind.outcomes s m t before.come behind.come;
        grown = behind.grown ∙ ap (λ count. plus count (counted behind.outcomes)) before.grown ∙ plus_counted c before.outcomes behind.outcomes;
      }

  -- a block that waits
  pub asked_waits : (block : Lines) (s t : S) (c d : Count) → block_waits waiting block ≡ true → t ≡ s → d ≡ plus c (counted (Waits ∷ [])) → IsAsked answers line_answers cases waiting (questions waiting block) s c t d
  asked_waits block s t c d waits same grown =
      let alone : questions waiting block ≡ Whole block ∷ [] = rw waits refl in
      let comes : Comes answers line_answers cases waiting s (Whole block) Waits t = rw waits (refl, same) in
      rw alone (asked_one (Whole block) Waits s t c d comes grown)

  -- a block that does not, first as a whole
  pub asked_whole : (block : Lines) (answer : Option Bool) (s t : S) (c d : Count) → block_waits waiting block ≡ false → answers s block answer t → d ≡ plus c (counted (outcome_of answer ∷ [])) → IsAsked answers line_answers cases waiting (Whole block ∷ []) s c t d
  asked_whole block answer s t c d plain answered grown =
      let comes : Comes answers line_answers cases waiting s (Whole block) (outcome_of answer) t = rw plain (answer, answered, refl) in
      asked_one (Whole block) (outcome_of answer) s t c d comes grown

  -- a count from the beginning, added to another
  pub asked_added : (qs : List Question) (s t : S) (c d e : Count) → IsAsked answers line_answers cases waiting qs s (counted []) t d → e ≡ plus c d → IsAsked answers line_answers cases waiting qs s c t e
  asked_added qs s t c d e asked added =
      let grown : plus (counted []) (counted asked.outcomes) ≡ counted asked.outcomes =
      same_count _ _ _ _ _ _ (zero-add (count_by is_case asked.outcomes)) (zero-add (count_by is_wrong asked.outcomes)) (zero-add (count_by is_waiting asked.outcomes)) in
      record { outcomes = asked.outcomes; come = asked.come; grown = added ∙ ap (plus c) (asked.grown ∙ grown) }

-- the questions about some blocks, and then about the one that ended behind them
pub asked_ended : {S : Type 0} (answers : S → Lines → Option Bool → S → Type 0) (line_answers : S → Lines → List ℕ → Bool → S → Type 0) (cases : List (List ℕ)) (first waiting : Waiting) (blocks : List Lines) (block : Option Lines) (s m t : S) (c d e : Count) → waiting ≡ first
    → IsAsked answers line_answers cases first (flat_map (questions first) blocks) s c m d → IsAsked answers line_answers cases waiting (flat_map (questions waiting) (option_to_list block)) m d t e
    → IsAsked answers line_answers cases first (flat_map (questions first) (blocks ++ option_to_list block)) s c t e
asked_ended answers line_answers cases first waiting blocks block s m t c d e same before last =
    let behind = subst (λ w. IsAsked answers line_answers cases w (flat_map (questions w) (option_to_list block)) m d t e) same last in
    rw (flat_map-append (questions first) blocks (option_to_list block)) (asked_on answers line_answers cases first _ _ s m t c d e before behind)
