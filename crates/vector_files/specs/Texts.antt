-- A vector file's text, cut into blocks.
use Rattle.std.specs.Prelude.{◌≡◌, ℕ, List, [], ◌∷◌, ◌++◌, map, filter, length, Bool, false, not, ◌||◌, nat_eq, ◌==◌, All, codes, Option, None, Some, if◌then◌else◌}
use Rattle.std.specs.List.{slice_split, enumerate_from, starts_with}
use Rattle.std.specs.Str.{trim}
use Rattle.std.specs.Str.Lines.{lines}
use Rattle.vector_files.specs.Field.{Lines}
use Rattle.vector_files.specs.Blocks.{HasValue, named_value, NamesOnce}

-- the lines of a text, numbered from 1
abbrev pub numbered : List ℕ → List (ℕ × List ℕ)
numbered text = enumerate_from 1 (lines text)

-- an empty line ends a block
abbrev pub is_blank : ℕ × List ℕ → Bool
is_blank line = length line.1 == 0

-- a line that begins with # is a comment
abbrev pub is_comment : ℕ × List ℕ → Bool
is_comment line = starts_with nat_eq line.1 (codes "#")

-- a comment says nothing, nor does a line of white space alone
abbrev pub is_silent : ℕ × List ℕ → Bool
is_silent line = is_comment line || (length (trim line.1) == 0)

-- some lines without those that say nothing
abbrev pub said : List (ℕ × List ℕ) → List (ℕ × List ℕ)
said some = filter (λ line. not (is_silent line)) some

-- each line that says something has a value
abbrev pub IsValued : List (ℕ × List ℕ) → Type 0
IsValued some = All (λ line. HasValue line.1) (said some)

-- what some lines say
abbrev pub block_of : List (ℕ × List ℕ) → Lines
block_of some = map (λ line. named_value line.1 line.0) (said some)

-- what stands between the blank lines of a text
abbrev pub parts_of : List ℕ → List (List (ℕ × List ℕ))
parts_of text = slice_split is_blank (numbered text)

-- the blocks of a text: what its parts say, where they say something
abbrev pub blocks_of : List ℕ → List Lines
blocks_of text = filter (λ block. not (length block == 0)) (map block_of (parts_of text))

-- a text that is well formed: each line but blank ones and those that say nothing has a value, and no block has a name twice
pub record IsVectorText (text : List ℕ) : Type 0 where
  pub valued : All IsValued (parts_of text)
  pub once : All NamesOnce (blocks_of text)

-- ---- line by line
-- what stands behind the last blank line, once a line more is read
abbrev pub after_line : Lines → ℕ × List ℕ → Lines
after_line block line = if is_blank line then [] else block ++ block_of (line ∷ [])

-- a block that has ended, if it says something
abbrev pub ended : Lines → Option Lines
ended block = if length block == 0 then None else Some block

-- the block that a line ends, if it ends one
abbrev pub ended_by : Lines → ℕ × List ℕ → Option Lines
ended_by block line = if is_blank line then ended block else None

-- a line was read behind a block, which it ended or made longer: it is well formed, and gives no name twice
pub record IsTaken (before : Lines) (line : ℕ × List ℕ) (after : Lines) (block : Option Lines) : Type 0 where
  pub says : after ≡ after_line before line
  pub ends : block ≡ ended_by before line
  pub valued : is_blank line ≡ false → IsValued (line ∷ [])
  pub once : NamesOnce before → NamesOnce after
