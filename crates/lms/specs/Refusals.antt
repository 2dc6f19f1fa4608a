-- Each refusal's public number, what is handed on from the one-time keys, and the checks of each
-- call in their order.
use Rattle.std.specs.Prelude.{ℕ, ◌*◌, ◌^◌, Bool, List, [], ◌∷◌, ◌==◌, nat_le, nat_lt}
use Rattle.lmots.specs.LmOts.{p}
use Rattle.lmots.specs.declared.refusal.Refusal as lmots
use Rattle.lmots.specs.declared.refusal.Refusal.TheVariants as one
use Rattle.lms.specs.Grown.{Grown, tall, wide}
use Rattle.lms.specs.Lms.{longest, signature_length}
use Rattle.lms.specs.declared.refusal.Refusal.{Refusal}
use Rattle.lms.specs.declared.refusal.Refusal.TheVariants.{Key, Buffer, Message}

abbrev pub number_of : Refusal → ℕ
number_of Key = 9
number_of Buffer = 20
number_of Message = 12

abbrev pub of_one_time : lmots.Refusal → Refusal
of_one_time one.Buffer = Buffer

-- sign: the tree has the key q, n is a signature's length, and m bytes of message are not too many
abbrev pub signing_checks : Grown → ℕ → ℕ → ℕ → List (Bool × Refusal)
signing_checks t q m n =
    (nat_lt q (2 ^ tall t), Key)
    ∷ (n == signature_length (tall t) (wide t), Buffer)
    ∷ (nat_le m longest, Message)
    ∷ []

-- write_path: the tree has the key q, and n is the length of a row for each level
abbrev pub path_checks : Grown → ℕ → ℕ → List (Bool × Refusal)
path_checks t q n = (nat_lt q (2 ^ tall t), Key) ∷ (n == 32 * tall t, Buffer) ∷ []

-- assemble: a tree of height h has the key q, and y, z and n are the lengths of a row for each
-- chain, of a row for each level, and of a signature
abbrev pub assembly_checks : ℕ → ℕ → ℕ → ℕ → ℕ → ℕ → List (Bool × Refusal)
assembly_checks h w q y z n =
    (nat_lt q (2 ^ h), Key)
    ∷ (y == 32 * p w, Buffer)
    ∷ (z == 32 * h, Buffer)
    ∷ (n == signature_length h w, Buffer)
    ∷ []

-- write_components: a tree of height h has the key q, and n is the length of a row for each
-- position of each component
abbrev pub component_checks : ℕ → ℕ → ℕ → ℕ → List (Bool × Refusal)
component_checks h w q n = (nat_lt q (2 ^ h), Key) ∷ (n == 32 * (p w * 2 ^ w), Buffer) ∷ []
