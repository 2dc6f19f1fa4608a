-- What is known of a folder.
use Rattle.std.specs.Prelude.{ℕ, List}
use Rattle.vector_files.specs.declared.count.Count.{Count}
use Rattle.vector_files.specs.declared.waiting.Waiting.{Waiting}

-- where it is, what waits, the names of the vector files in it that no call has taken yet, and how many were run, with the count over them
pub record Standing : Type 0 where
  pub path : List ℕ
  pub waiting : Waiting
  pub left : List (List ℕ)
  pub files : ℕ
  pub count : Count
