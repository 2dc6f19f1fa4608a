-- What a cache's entries say.
use Rattle.std.specs.Prelude.{◌≡◌, ℕ, Bool, if◌then◌else◌, ◌&&◌, List, [], ◌∷◌, Some, None, Option, ◌==◌, slice_index_or}
use Rattle.helper.specs.declared.entry.Entry.{Entry}
use Rattle.helper.specs.Holding.{Holding}

-- whether an entry is of that key and index
abbrev pub is_of : ℕ → ℕ → Entry → Bool
is_of key index e = e.key == key && e.index == index

-- the row of the first entry of that key and index
abbrev pub lookup : List (Option Entry) → ℕ → ℕ → Option (List ℕ)
lookup [] key index = None
lookup (None ∷ es) key index = lookup es key index
lookup (Some e ∷ es) key index = if is_of key index e then Some e.row else lookup es key index

-- the row that was found, or another where there is none
abbrev pub found_or : Option (List ℕ) → List ℕ → List ℕ
found_or (Some row) other = row
found_or None other = other

-- the rows of the entries before those below; the numbers are those below
abbrev pub cached : List (Option Entry) → Holding → Holding
cached entries below = record {
  number = below.number;
  row = λ key index. found_or (lookup entries key index) (below.row key index);
}

-- every entry has the row below
abbrev pub Agrees : List (Option Entry) → Holding → Type 0
Agrees entries below =
    (n : ℕ) (e : Entry) → slice_index_or entries n None ≡ Some e → e.row ≡ below.row e.key e.index
