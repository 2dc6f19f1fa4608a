-- What the bytes of a tape say.
use Rattle.std.specs.Prelude.{◌≡◌, ℕ, zero, suc, ◌+◌, ◌*◌, ◌/◌, ◌%◌, Bool, true, false, if◌then◌else◌, not, ◌&&◌, List, [], ◌∷◌, ◌++◌, length, take, drop, flat_map, filter_map, Some, None, Option, MatchOption, ◌<◌, ◌≤◌, ◌==◌, nat_eq, nat_lt, slice_index}
use Rattle.std.specs.List.{list_any, list_all}
use Rattle.columns.specs.Number.{spaces, right, number, blank}

-- the line of a key: its number in 5 columns, and a line feed
abbrev pub line_of : ℕ → List ℕ
line_of key = right 5 key ++ 10 ∷ []

-- the tape on which these keys were spent, one after the other, and that has room for some more
unfoldable pub taped : List ℕ → ℕ → List ℕ
taped keys room = flat_map line_of keys ++ spaces (6 * room)

-- the bytes cut into lines of six; one to five bytes that are left over at the end are a line too
unfoldable pub lines : List ℕ → List (List ℕ)
lines [] = []
lines (a ∷ []) = (a ∷ []) ∷ []
lines (a ∷ b ∷ []) = (a ∷ b ∷ []) ∷ []
lines (a ∷ b ∷ c ∷ []) = (a ∷ b ∷ c ∷ []) ∷ []
lines (a ∷ b ∷ c ∷ d ∷ []) = (a ∷ b ∷ c ∷ d ∷ []) ∷ []
lines (a ∷ b ∷ c ∷ d ∷ e ∷ []) = (a ∷ b ∷ c ∷ d ∷ e ∷ []) ∷ []
lines (a ∷ b ∷ c ∷ d ∷ e ∷ f ∷ rest) = (a ∷ b ∷ c ∷ d ∷ e ∷ f ∷ []) ∷ lines rest

-- one step of a reader: it takes a whole line from the front, or stays where none is left
abbrev pub Reads : List ℕ → Option (List ℕ) → List ℕ → Type 0
Reads bytes read rest = MatchOption read
    ((length bytes < 6) × (rest ≡ bytes))
    (λ line. (length line ≡ 6) × (bytes ≡ line ++ rest))

-- the key that a line lists, if it is a used line
abbrev pub line_key : List ℕ → Option ℕ
line_key line =
    if length line == 6 && slice_index line 5 == 10 then number (take 5 line) else None

-- an unused line is six spaces
abbrev pub unused : List ℕ → Bool
unused line = length line == 6 && blank line

-- the keys that are listed, line by line
abbrev pub listed : List (List ℕ) → List ℕ
listed ls = filter_map line_key ls

-- whether a key is listed
abbrev pub lists : List (List ℕ) → ℕ → Bool
lists ls key = list_any (nat_eq key) (listed ls)

-- how many lines are unused
abbrev pub blanks : List (List ℕ) → ℕ
blanks [] = 0
blanks (line ∷ rest) = (if unused line then 1 else 0) + blanks rest

-- whether all are
abbrev pub all_unused : List (List ℕ) → Bool
all_unused ls = list_all unused ls

-- a key below a limit that no later line lists
abbrev pub fresh_key : ℕ → Option ℕ → List (List ℕ) → Bool
fresh_key limit None rest = false
fresh_key limit (Some key) rest = nat_lt key limit && not (lists rest key)

-- used lines with distinct keys below a limit, and then unused lines
abbrev pub sound : ℕ → List (List ℕ) → Bool
sound limit [] = true
sound limit (line ∷ rest) = if unused line
    then all_unused rest
    else fresh_key limit (line_key line) rest && sound limit rest

-- line i is the first unused one
abbrev pub FirstUnused : List (List ℕ) → ℕ → Type 0
FirstUnused [] i = ⊥
FirstUnused (line ∷ rest) zero = unused line ≡ true
FirstUnused (line ∷ rest) (suc i) = (unused line ≡ false) × FirstUnused rest i

-- the lines after a key's line was written over the first unused one
abbrev pub spent_on : List (List ℕ) → ℕ → List (List ℕ)
spent_on [] key = []
spent_on (line ∷ rest) key = if unused line then line_of key ∷ rest else line ∷ spent_on rest key

-- the bytes of some lines
abbrev pub flat : List (List ℕ) → List ℕ
flat ls = flat_map (λ line. line) ls

-- the bytes of a tape after a key's line was written over its first unused one
abbrev pub with_line : List ℕ → ℕ → List ℕ
with_line bytes key = flat (spent_on (lines bytes) key)

-- a key's line was written over the first unused one: its six bytes, and no other byte
pub record OneLine (before : List ℕ) (key : ℕ) (after : List ℕ) : Type 0 where
  pub at : ℕ
  pub within : 6 * at + 6 ≤ length before
  pub first : FirstUnused (lines before) at
  pub written : after ≡ take (6 * at) before ++ (line_of key ++ drop (6 * at + 6) before)

-- the digit of a number at a power of ten, or a space where the number is smaller
abbrev pub column_of : ℕ → ℕ → ℕ
column_of n unit = if nat_lt n unit then 32 else n / unit % 10 + 48
