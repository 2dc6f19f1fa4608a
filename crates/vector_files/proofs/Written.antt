-- Words and the numbers that they write, one after the other.
use Rattle.std.proofs.Common.{ℕ, List, [], ◌∷◌, ◌++◌, Ok, Bor}
use Rattle.std.specs.Str.Parse.{ParsesUnsigned}
use Rattle.vector_files.specs.Blocks.{Write}

pub write_more : (ws : List (Bor (List ℕ))) (ns : List ℕ) (w : Bor (List ℕ)) (n : ℕ) → Write ws ns → ParsesUnsigned {E = ℕ} 32 10 w.now (Ok n) → Write (ws ++ w ∷ []) (ns ++ n ∷ [])
write_more [] [] w n before last = (last, tt)
write_more [] (m ∷ ns) w n before last = absurd before
write_more (v ∷ ws) [] w n before last = absurd before
write_more (v ∷ ws) (m ∷ ns) w n before last = (before.0, write_more ws ns w n before.1 last)
