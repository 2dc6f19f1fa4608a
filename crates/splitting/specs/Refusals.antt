-- Each refusal's public number.
use Rattle.std.specs.Prelude.{ℕ}
use Rattle.splitting.specs.declared.refusal.Refusal.{Refusal}
use Rattle.splitting.specs.declared.refusal.Refusal.TheVariants.{Sources, SameChecks, Undealt, Buffer, NotHeld}

abbrev pub number_of : Refusal → ℕ
number_of Sources = 8
number_of SameChecks = 6
number_of Undealt = 9
number_of Buffer = 20
number_of NotHeld = 7
