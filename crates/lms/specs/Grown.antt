-- What a grown tree stands for: its sizes and its origin, and the path, the root and the signatures
-- of these.
use Rattle.std.specs.Prelude.{ℕ, List}
use Rattle.rows.specs.declared.origin.Origin.{Origin}
use Rattle.sizes.specs.declared.height.Height.{Height}
use Rattle.sizes.specs.declared.width.Width.{Width}
use Rattle.sizes.specs.Sizes.{levels, bits}
use Rattle.lms.specs.Lms.{path_of, root, signature}

pub record Grown : Type 0 where
  pub height : Height
  pub width : Width
  pub origin : Origin

-- a tree's height and width as numbers
abbrev pub tall : Grown → ℕ
tall t = levels t.height

abbrev pub wide : Grown → ℕ
wide t = bits t.width

abbrev pub grown_path : (List ℕ → List ℕ) → Grown → ℕ → ℕ → List ℕ
grown_path hashed t = path_of hashed t.origin.id.bytes t.origin.seed.bytes (tall t) (wide t)

abbrev pub grown_root : (List ℕ → List ℕ) → ℕ → ℕ → Grown → List ℕ
grown_root hashed ots tree t =
    root hashed ots tree (tall t) (wide t) t.origin.id.bytes t.origin.seed.bytes

abbrev pub grown_signature : (List ℕ → List ℕ) → ℕ → ℕ → Grown → ℕ → List ℕ → List ℕ
grown_signature hashed ots tree t =
    signature hashed ots tree (tall t) (wide t) t.origin.id.bytes t.origin.seed.bytes
