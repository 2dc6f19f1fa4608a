-- What waits for calls that are not there yet.
use Rattle.std.specs.Prelude.{ℕ, List, Bool, false, codes}
use Rattle.std.specs.Option.{option_map_or}
use Rattle.vector_files.specs.declared.waiting.Waiting.{Waiting}
use Rattle.vector_files.specs.Field.{Lines}
use Rattle.vector_files.specs.Blocks.{value_of}
use Rattle.vector_files.specs.Names.{has, texts}

-- a block waits if the call that it names does
abbrev pub block_waits : Waiting → Lines → Bool
block_waits waiting block = option_map_or (λ call. has (texts waiting.calls.now) call) (value_of (codes "call") block) false

-- a line waits by its name
abbrev pub line_waits : Waiting → List ℕ → Bool
line_waits waiting name = has (texts waiting.lines.now) name
