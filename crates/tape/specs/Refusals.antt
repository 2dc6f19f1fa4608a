-- The refusal's public number.
use Rattle.std.specs.Prelude.{ℕ}
use Rattle.tape.specs.declared.refusal.Refusal.{Refusal}
use Rattle.tape.specs.declared.refusal.Refusal.TheVariants.{Damaged}

abbrev pub number_of : Refusal → ℕ
number_of Damaged = 21
