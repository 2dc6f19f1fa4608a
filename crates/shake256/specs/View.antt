-- The state that a value of the code stands for.
use Rattle.hash.specs.Buffered.{held}
use Rattle.hash.specs.Chaining.{Chain}
use Rattle.shake256.specs.declared.hasher.Hasher.{Hasher}

abbrev pub viewed : Hasher → Chain
viewed s = held (λ l. l.0) s.message
