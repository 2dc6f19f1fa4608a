-- A file of a folder, taken.
use Rattle.std.proofs.Common.{◌≡◌, ℕ, ◌+◌, List, [], All, Bool, Option, ap, sym, ◌∙◌, refl, subst}
use Rattle.std.specs.List.{remove}
use Rattle.vector_files.specs.declared.count.Count.{Count}
use Rattle.vector_files.specs.declared.waiting.Waiting.{Waiting}
use Rattle.vector_files.specs.Cases.{IsAsked, IsKnown, counted, plus, questions_of}
use Rattle.vector_files.specs.Field.{Lines}
use Rattle.vector_files.specs.Folders.{after_run, after_passing, IsRun}
use Rattle.vector_files.specs.Standing.{Standing}
use Rattle.vector_files.specs.Texts.{blocks_of, IsVectorText}
use Rattle.vector_files.proofs.Asking.{asked_added}

-- what a folder is once its fields have changed
pub taken_run : (old seen : Standing) (place n : ℕ) (left : List (List ℕ)) (count : Count) → seen ≡ old → left ≡ remove seen.left place → n ≡ seen.files + 1
    → (let new : Standing = record { path = seen.path; waiting = seen.waiting; left = left; files = n; count = count } in new) ≡ after_run old place count
taken_run old seen place n left count same removed next = rw (removed, next) (ap (λ (folder : Standing). after_run folder place count) same)

pub taken_passing : (old seen : Standing) (place : ℕ) (left : List (List ℕ)) (count : Count) → seen ≡ old → left ≡ remove seen.left place
    → (let new : Standing = record { path = seen.path; waiting = seen.waiting; left = left; files = seen.files; count = count } in new) ≡ after_passing old place count
taken_passing old seen place left count same removed = rw removed (ap (λ (folder : Standing). after_passing folder place count) same)

-- a run from no count
pub run_of : {S : Type 0} (answers : S → Lines → Option Bool → S → Type 0) (line_answers : S → Lines → List ℕ → Bool → S → Type 0) (values cases : List (List ℕ)) (waiting : Waiting) (suite begun after : S) (none more : Count) (text read : List ℕ) (old new : Standing) (place : ℕ)
    → waiting ≡ old.waiting → begun ≡ suite → none ≡ counted [] → read ≡ text
    → IsVectorText read → All (IsKnown values cases waiting) (blocks_of read) → IsAsked answers line_answers cases waiting (questions_of waiting read) begun none after more
    → new ≡ after_run old place (plus old.count more) → IsRun answers line_answers values cases suite old new place
run_of answers line_answers values cases waiting suite begun after none more text read old new place waits begins nothing reads sound known asked taken =
    let count : new.count ≡ plus old.count more = ap (λ (folder : Standing). folder.count) taken in
    let of_text = subst (λ t. IsAsked answers line_answers cases waiting (questions_of waiting t) begun none after more) reads asked in
    let of_suite = subst (λ s. IsAsked answers line_answers cases waiting (questions_of waiting text) s none after more) begins of_text in
    let of_none = subst (λ c. IsAsked answers line_answers cases waiting (questions_of waiting text) suite c after more) nothing of_suite in
    let of_folder = subst (λ w. IsAsked answers line_answers cases w (questions_of w text) suite (counted []) after more) waits of_none in
    record {
      text = text;
      sound = subst IsVectorText reads sound;
      known = subst (λ w. All (IsKnown values cases w) (blocks_of text)) waits (subst (λ t. All (IsKnown values cases waiting) (blocks_of t)) reads known);
      after = after;
      asked = asked_added answers line_answers cases old.waiting _ suite after old.count more new.count of_folder count;
      taken = taken ∙ ap (after_run old place) (sym count);
    }
