-- A search through entries that may be there.
use Rattle.std.proofs.Common.{◌≡◌, ℕ, Bool, true, false, cond, List, [], ◌∷◌, length, Some, None, Option, Bor, sym, refl, ap, ◌∙◌, subst, ⊎_elim}
use Rattle.std.specs.Bool.{IsTrue, MatchBool}
use Rattle.std.specs.List.{find, flat_map}
use Rattle.std.specs.Option.{option_map, option_copied}
use Rattle.std.proofs.lemmas.Bool.{cases_Bool}
use Rattle.std.proofs.lemmas.Iterator.{YieldsList}
use Rattle.std.proofs.lemmas.Iterator.Consumers.{YieldsList-from_shown}
use Rattle.helper.specs.declared.entry.Entry.{Entry}
use Rattle.helper.specs.Entries.{is_of, lookup}

abbrev pub kept : Option Entry → List Entry
kept None = []
kept (Some e) = e ∷ []

-- what the iterator of one gives
none_left : (done : Bool) (o : Option Entry) → MatchBool done (◌≡◌ {A = Option (Bor Entry)} None None) (option_copied {T = Entry} None ≡ o) → length (cond done [] (kept o)) ≡ 0
none_left true o m = refl
none_left false o m = ap (λ p. length (kept p)) (sym m)

one_given : (done after : Bool) (o p : Option Entry) (x : Bor Entry) → MatchBool done (Some x ≡ None) (option_copied (Some x) ≡ o) → after ≡ true → cond done [] (kept o) ≡ x.now ∷ cond after [] (kept p)
one_given true after o p x m t = cc
one_given false after o p x m t = ap kept (sym m) ∙ ap (λ b. x.now ∷ cond b [] (kept p)) (sym t)

pub road : {S : Type 0} (item : S → Option Entry) (done : S → Bool) (o : Option Entry) (s : S) → item s ≡ o → done s ≡ false →
    YieldsList (λ s r t. IsTrue (done t) × MatchBool (done s) (r ≡ None) (option_copied r ≡ item s)) (λ y. y.now) s (kept o)
road {S} item done o s e f =
    let shown : S → List Entry = λ t. cond (done t) [] (kept (item t)) in
    let steps : S → Option (Bor Entry) → S → Type 0 = λ s r t. IsTrue (done t) × MatchBool (done s) (r ≡ None) (option_copied r ≡ item s) in
    let all : shown s ≡ kept o = ap (λ b. cond b [] (kept (item s))) f ∙ ap kept e in
    subst (λ ys. YieldsList steps (λ y. y.now) s ys) all (YieldsList-from_shown steps (λ y. y.now) shown (λ s t m. none_left (done s) (item s) m.1) (λ s x t m. one_given (done s) (done t) (item s) (item t) x m.1 m.0) s)

-- the row of the first that is found
looked_up : (es : List (Option Entry)) (key index : ℕ) → option_map (λ e. e.row) (find (is_of key index) (flat_map kept es)) ≡ lookup es key index
looked_up [] key index = refl
looked_up (None ∷ es) key index = looked_up es key index
looked_up (Some e ∷ es) key index =
    let t = is_of key index e in
    let rest = find (is_of key index) (flat_map kept es) in
    ⊎_elim
    (λ (y : t ≡ true). ap (λ b. option_map (λ e. e.row) (cond b (Some e) rest)) y ∙ sym (ap (λ b. cond b (Some e.row) (lookup es key index)) y))
    (λ (n : t ≡ false). ap (λ b. option_map (λ e. e.row) (cond b (Some e) rest)) n ∙ looked_up es key index ∙ sym (ap (λ b. cond b (Some e.row) (lookup es key index)) n))
    (cases_Bool t)

pub row_of : (es : List (Option Entry)) (key index : ℕ) (r o : Option (Bor Entry)) → option_map (λ e. e.now) r ≡ find (is_of key index) (flat_map kept es) → r ≡ o → option_map (λ e. e.row) (option_map (λ e. e.now) o) ≡ lookup es key index
row_of es key index r o found is = ap (λ x. option_map (λ e. e.row) (option_map (λ e. e.now) x)) (sym is) ∙ ap (option_map (λ e. e.row)) found ∙ looked_up es key index
