-- Each refusal's public number.
use Rattle.std.specs.Prelude.{ℕ}
use Rattle.ledger.specs.declared.refusal.Refusal.{Refusal}
use Rattle.ledger.specs.declared.refusal.Refusal.TheVariants.{Spent, NoRoom}

abbrev pub number_of : Refusal → ℕ
number_of Spent = 11
number_of NoRoom = 15
