-- What a suite is asked over a text, and what is counted of what comes of it.
use Rattle.std.specs.Prelude.{◌≡◌, ⊤, ℕ, ◌+◌, Bool, true, false, ◌||◌, List, [], ◌∷◌, map, count_by, All, MatchBool, IsTrue, if◌then◌else◌, Option, Some, None}
use Rattle.std.specs.List.{flat_map}
use Rattle.vector_files.specs.declared.count.Count.{Count}
use Rattle.vector_files.specs.declared.count.Outcome.{Outcome}
use Rattle.vector_files.specs.declared.count.Outcome.TheVariants.{Right, Wrong, NoCase, Waits}
use Rattle.vector_files.specs.declared.waiting.Waiting.{Waiting}
use Rattle.vector_files.specs.Field.{NamedValue, Lines}
use Rattle.vector_files.specs.Names.{has, is_remark}
use Rattle.vector_files.specs.Texts.{blocks_of}
use Rattle.vector_files.specs.Waits.{block_waits, line_waits}

-- ---- questions
-- a question is about a block as a whole, or about one of its lines
pub data Question : Type 0 where
  Whole : Lines → Question
  Line : Lines → NamedValue → Question

-- what is asked of a block: first about it, then about its lines, unless it waits
abbrev pub questions : Waiting → Lines → List Question
questions waiting block = Whole block ∷ (if block_waits waiting block then [] else map (Line block) block)

-- what is asked of a text
abbrev pub questions_of : Waiting → List ℕ → List Question
questions_of waiting text = flat_map (questions waiting) (blocks_of text)

-- ---- outcomes
abbrev pub verdict : Bool → Outcome
verdict true = Right
verdict false = Wrong

-- a suite answers whether a case came out, or that there is no case
abbrev pub outcome_of : Option Bool → Outcome
outcome_of None = NoCase
outcome_of (Some right) = verdict right

-- ---- the count
abbrev pub is_case : Outcome → Bool
is_case Right = true
is_case Wrong = true
is_case NoCase = false
is_case Waits = false

abbrev pub is_wrong : Outcome → Bool
is_wrong Right = false
is_wrong Wrong = true
is_wrong NoCase = false
is_wrong Waits = false

abbrev pub is_waiting : Outcome → Bool
is_waiting Right = false
is_waiting Wrong = false
is_waiting NoCase = false
is_waiting Waits = true

-- how many cases there are, how many are wrong, and how many wait
abbrev pub counted : List Outcome → Count
counted outcomes = record { cases = count_by is_case outcomes; wrong = count_by is_wrong outcomes; waiting = count_by is_waiting outcomes }

abbrev pub plus : Count → Count → Count
plus count more = record { cases = count.cases + more.cases; wrong = count.wrong + more.wrong; waiting = count.waiting + more.waiting }

-- what a suite answers on a block and on a line, and in which state each answer leaves it; which lines are cases; and what waits
module _ {S : Type 0} (answers : S → Lines → Option Bool → S → Type 0) (line_answers : S → Lines → List ℕ → Bool → S → Type 0) (cases : List (List ℕ)) (waiting : Waiting) where
  -- what comes of a question
  abbrev pub Comes : S → Question → Outcome → S → Type 0
  Comes s (Whole block) outcome t = MatchBool (block_waits waiting block)
      ((outcome ≡ Waits) × (t ≡ s))
      ((answer : Option Bool) × answers s block answer t × (outcome ≡ outcome_of answer))
  Comes s (Line block line) outcome t = MatchBool (line_waits waiting line.name)
      ((outcome ≡ Waits) × (t ≡ s))
      (MatchBool (has cases line.name)
      ((right : Bool) × line_answers s block line.name right t × (outcome ≡ verdict right))
      ((outcome ≡ NoCase) × (t ≡ s)))

  -- what comes of questions that are asked one after the other: an outcome for each
  abbrev pub Come : S → List Question → List Outcome → S → Type 0
  Come s [] [] t = t ≡ s
  Come s [] (o ∷ os) t = ⊥
  Come s (q ∷ qs) [] t = ⊥
  Come s (q ∷ qs) (o ∷ os) t = (m : S) × Comes s q o m × Come m qs os t

  -- questions were asked, and a count grew by what came of them
  pub record IsAsked (qs : List Question) (s : S) (before : Count) (t : S) (behind : Count) : Type 0 where
    pub outcomes : List Outcome
    pub come : Come s qs outcomes t
    pub grown : behind ≡ plus before (counted outcomes)

-- ---- names
-- a name that a block may have
abbrev pub is_known : List (List ℕ) → List (List ℕ) → Waiting → List ℕ → Bool
is_known values cases waiting name = is_remark name || has values name || has cases name || line_waits waiting name

-- the names of a block's lines are known; what waits is not looked into
abbrev pub IsKnown : List (List ℕ) → List (List ℕ) → Waiting → Lines → Type 0
IsKnown values cases waiting block = MatchBool (block_waits waiting block) ⊤ (All (λ line. IsTrue (is_known values cases waiting line.name)) block)
