use Rattle.std.proofs.Common.{◌-◌}
use Rattle.splitting.specs.KeyParts.{label_in}
use Rattle.splitting.proofs.Blocks.{Added}
use Rattle.splitting.proofs.masking.add_pads.Given as goal

abbrev pub invariant-loop-first : goal.invariant-loop-first
invariant-loop-first g l =
    Added (λ m. (g.P.Pads.source l.source).pad (label_in l.part m)) l.initial.out l.out l.first

abbrev pub decreases-loop-first : goal.decreases-loop-first
decreases-loop-first g l = l.first-end - l.first
