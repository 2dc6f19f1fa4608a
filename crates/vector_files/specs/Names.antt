-- Lists of names.
use Rattle.std.specs.Prelude.{ℕ, List, map, Bool, nat_eq}
use Rattle.std.specs.List.{list_any, starts_with}
use Rattle.std.specs.Str.{bytes_eq}
use Rattle.std.specs.Borrow.{Bor}
use Rattle.vector_files.specs.declared.names.TheConstants.{COMMENTS}

-- what some texts are
abbrev pub texts : List (Bor (List ℕ)) → List (List ℕ)
texts list = map (λ text. text.now) list

-- a list has a name
abbrev pub has : List (List ℕ) → List ℕ → Bool
has list name = list_any (λ listed. bytes_eq listed name) list

-- a name begins with one of some words
abbrev pub begins : List (List ℕ) → List ℕ → Bool
begins words name = list_any (λ word. starts_with nat_eq name word) words

-- a name that any block may have: its value says something to a reader alone
abbrev pub is_remark : List ℕ → Bool
is_remark name = has (map (λ listed. listed.now) COMMENTS) name
