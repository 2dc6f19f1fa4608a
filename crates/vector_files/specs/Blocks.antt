-- What a line gives a block, and what a block says of a name.
use Rattle.std.specs.Prelude.{◌≡◌, ⊤, ℕ, Bool, List, [], ◌∷◌, length, map, replicate, codes, Some, Ok, Option, MatchOption, ◌==◌, ◌<◌, ◌≢◌, AllPairs, slice_index, slice_get}
use Rattle.std.specs.List.{find, position_or_len, before_first, after_first, list_any}
use Rattle.std.specs.Option.{option_map, option_map_or}
use Rattle.std.specs.Str.{bytes_eq, trim}
use Rattle.std.specs.Borrow.{Bor}
use Rattle.std.specs.BTreeSet.{BTreeSet, contains_by}
use Rattle.std.specs.Cmp.Lexicographic.{slice_cmp}
use Rattle.std.specs.Ordering.{nat_cmp}
use Rattle.std.specs.Iterator.{DrainsIf}
use Rattle.std.specs.Str.Iter.{split_whitespace_rest, split_whitespace_steps}
use Rattle.std.specs.Str.Parse.{ParsesUnsigned}
use Rattle.std.specs.declared.str.SplitWhitespace.{SplitWhitespace}
use Rattle.vector_files.specs.Field.{NamedValue, Lines}
use Rattle.vector_files.specs.Hex.{decoded}

-- ---- lines
abbrev pub equals : ℕ → Bool
equals c = c == 61

-- a line that has an equals sign
abbrev pub HasValue : List ℕ → Type 0
HasValue text = position_or_len equals text < length text

-- what stands before a line's first equals sign and what stands behind it, without white space at the ends
abbrev pub named_value : List ℕ → ℕ → NamedValue
named_value text line = record { name = trim (before_first equals text); value = trim (after_first equals text); line = line }

-- ---- blocks
abbrev pub names_of : Lines → List (List ℕ)
names_of block = map (λ line. line.name) block

-- the number of the first line, if there is one
abbrev pub first_line : Lines → ℕ
first_line block = option_map_or (λ line. line.line) (slice_get block 0) 0

-- a block has a line of that name
abbrev pub has_name : Lines → List ℕ → Bool
has_name block name = list_any (λ line. bytes_eq line.name name) block

-- no name stands in a block twice
abbrev pub NamesOnce : Lines → Type 0
NamesOnce block = AllPairs (λ a b. a ≢ b) (names_of block)

-- some names are just those of a block
abbrev pub AreNamesOf : BTreeSet (Bor (List ℕ)) → Lines → Type 0
AreNamesOf names block = (name : List ℕ) → contains_by (λ k. slice_cmp nat_cmp name k.now) names ≡ has_name block name

-- ---- values
-- the line of that name, if there is one, and its value
abbrev pub line_of : List ℕ → Lines → Option NamedValue
line_of name block = find (λ line. bytes_eq line.name name) block

abbrev pub value_of : List ℕ → Lines → Option (List ℕ)
value_of name block = option_map (λ line. line.value) (line_of name block)

-- a value that writes a number below 2^32
abbrev pub IsNumber : Option (List ℕ) → ℕ → Type 0
IsNumber value n = (t : List ℕ) × (value ≡ Some t) × ParsesUnsigned {E = ℕ} 32 10 t (Ok n)

-- and one that writes some, with white space between them
abbrev pub IsWords : List ℕ → List (Bor (List ℕ)) → Type 0
IsWords text words = (it : SplitWhitespace) × (split_whitespace_rest it ≡ text) × DrainsIf split_whitespace_steps ⊤ it words

abbrev pub Write : List (Bor (List ℕ)) → List ℕ → Type 0
Write [] [] = ⊤
Write [] (n ∷ ns) = ⊥
Write (w ∷ ws) [] = ⊥
Write (w ∷ ws) (n ∷ ns) = ParsesUnsigned {E = ℕ} 32 10 w.now (Ok n) × Write ws ns

abbrev pub AreNumbers : Option (List ℕ) → List ℕ → Type 0
AreNumbers value ns = (t : List ℕ) × (ws : List (Bor (List ℕ))) × (value ≡ Some t) × IsWords t ws × Write ws ns

-- and one that writes bytes
abbrev pub IsBytes : Option (List ℕ) → List ℕ → Type 0
IsBytes value bytes = (t : List ℕ) × (value ≡ Some t) × (decoded t ≡ Some bytes)

-- a message is given whole, or else as one byte (a zero, if none is written) and how often it comes
abbrev pub IsMessage : Lines → List ℕ → Type 0
IsMessage block bytes = MatchOption (value_of (codes "message") block)
    ((fill : List ℕ) × (n : ℕ) × IsBytes (value_of (codes "message_fill") block) fill × IsNumber (value_of (codes "message_length") block) n × (bytes ≡ replicate n (slice_index fill 0)))
    (λ t. decoded t ≡ Some bytes)
