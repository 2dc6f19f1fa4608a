-- The refusal's public number.
use Rattle.std.specs.Prelude.{ℕ}
use Rattle.helper.specs.declared.refusal.Refusal.{Refusal}
use Rattle.helper.specs.declared.refusal.Refusal.TheVariants.{Beyond}

abbrev pub number_of : Refusal → ℕ
number_of Beyond = 19
