-- The names of the two hashes.
use Rattle.std.specs.Prelude.{ℕ, List, codes}
use Rattle.vector_files.specs.declared.hash_name.HashName.{HashName}
use Rattle.vector_files.specs.declared.hash_name.HashName.TheVariants.{Sha256, Shake256}

abbrev pub name_of : HashName → List ℕ
name_of Sha256 = codes "sha256"
name_of Shake256 = codes "shake256"
