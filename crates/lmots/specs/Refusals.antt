-- Each refusal's public number, and the checks of each call in their order.
use Rattle.std.specs.Prelude.{ℕ, ◌*◌, ◌^◌, Bool, List, [], ◌∷◌, ◌==◌}
use Rattle.lmots.specs.LmOts.{p}
use Rattle.lmots.specs.declared.refusal.Refusal.{Refusal}
use Rattle.lmots.specs.declared.refusal.Refusal.TheVariants.{Buffer}

-- a buffer of a wrong length
abbrev pub number_of : Refusal → ℕ
number_of Buffer = 20

-- write_positions: the n bytes have room for a row at each position of each chain
abbrev pub position_checks : ℕ → ℕ → List (Bool × Refusal)
position_checks w n = (n == 32 * (p w * 2 ^ w), Buffer) ∷ []

-- write_selected and candidate_key: the n bytes are one row for each chain
abbrev pub chain_checks : ℕ → ℕ → List (Bool × Refusal)
chain_checks w n = (n == 32 * p w, Buffer) ∷ []
