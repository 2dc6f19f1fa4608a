-- The state that a value of the code stands for.
use Rattle.hash.specs.Buffered.{held}
use Rattle.sha256.specs.State.{State, mk}
use Rattle.sha256.specs.declared.hasher.Hasher.{Hasher}

abbrev pub viewed : Hasher → State
viewed s = mk (held (λ w. w.0) s.message) s.count
