-- The labels of a key's part, as the code keeps it.
use Rattle.std.specs.Prelude.{ℕ}
use Rattle.sizes.specs.Sizes.{levels, bits}
use Rattle.pads.specs.declared.label.Label.{Label}
use Rattle.splitting.specs.declared.key_part.KeyPart.{KeyPart}
use Rattle.pads.specs.Labelled.{label_at}

-- the label of row n
abbrev pub label_in : KeyPart → ℕ → Label
label_in part n = label_at part.members (levels part.height) (bits part.width) part.key n
