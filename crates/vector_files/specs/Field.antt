-- What a line of a block says.
use Rattle.std.specs.Prelude.{ℕ, List}

-- a name, its value, and the line's number in the text, from 1
pub record NamedValue : Type 0 where
  pub name : List ℕ
  pub value : List ℕ
  pub line : ℕ

-- a block is its lines
abbrev pub Lines : Type 0
Lines = List NamedValue
