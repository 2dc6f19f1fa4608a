-- A folder of vector files, and what has been counted in it.
use Rattle.std.specs.Prelude.{◌≡◌, ℕ, ◌+◌, ◌==◌, Bool, true, List, [], length, position, remove, All, Option, nat_eq, codes, if◌then◌else◌}
use Rattle.std.specs.List.{ends_with}
use Rattle.std.specs.Str.{bytes_eq}
use Rattle.vector_files.specs.declared.count.Count.{Count}
use Rattle.vector_files.specs.declared.verdict.Verdict.{Verdict}
use Rattle.vector_files.specs.declared.verdict.Verdict.TheVariants.{Good, NoFile, Wrong}
use Rattle.vector_files.specs.declared.waiting.Waiting.{Waiting}
use Rattle.vector_files.specs.Cases.{IsAsked, IsKnown, counted, plus, questions_of}
use Rattle.vector_files.specs.Field.{Lines}
use Rattle.vector_files.specs.Standing.{Standing}
use Rattle.vector_files.specs.Texts.{blocks_of, IsVectorText}

-- a name of a vector file
abbrev pub IsVectorFile : List ℕ → Type 0
IsVectorFile name = ends_with nat_eq name (codes ".txt") ≡ true

-- a folder of which no file has been taken
pub record IsNew (folder : Standing) (place : List ℕ) (what : Waiting) : Type 0 where
  pub path : folder.path ≡ place
  pub waiting : folder.waiting ≡ what
  pub left : All IsVectorFile folder.left
  pub files : folder.files ≡ 0
  pub count : folder.count ≡ counted []

-- where a name stands among some, if it does
abbrev pub place_of : List (List ℕ) → List ℕ → Option ℕ
place_of names name = position (λ listed. bytes_eq listed name) names

-- the file at a place was run, and the count is another
abbrev pub after_run : Standing → ℕ → Count → Standing
after_run folder place count = record folder { left = remove folder.left place; files = folder.files + 1; count = count }

-- it was passed over
abbrev pub after_passing : Standing → ℕ → Count → Standing
after_passing folder place count = record folder { left = remove folder.left place; count = count }

-- a file was run: its text is well formed, the names in it are known, the suite was asked all its questions, and the folder's count grew by what came of them
pub record IsRun {S : Type 0} (answers : S → Lines → Option Bool → S → Type 0) (line_answers : S → Lines → List ℕ → Bool → S → Type 0) (values cases : List (List ℕ)) (suite : S) (old new : Standing) (place : ℕ) : Type 0 where
  pub text : List ℕ
  pub sound : IsVectorText text
  pub known : All (IsKnown values cases old.waiting) (blocks_of text)
  pub after : S
  pub asked : IsAsked answers line_answers cases old.waiting (questions_of old.waiting text) suite old.count after new.count
  pub taken : new ≡ after_run old place new.count

-- a file was passed over: its text is well formed, and each block of it is counted as one that waits
pub record IsPassed (old new : Standing) (place : ℕ) : Type 0 where
  pub text : List ℕ
  pub sound : IsVectorText text
  pub taken : new ≡ after_passing old place (plus old.count (record { cases = 0; wrong = 0; waiting = length (blocks_of text) }))

-- the verdict is good if a file was run and no case is wrong
abbrev pub verdict_of : Standing → Verdict
verdict_of folder = if folder.files == 0 then NoFile else (if folder.count.wrong == 0 then Good else Wrong)
