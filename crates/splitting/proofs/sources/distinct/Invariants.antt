use Rattle.std.proofs.Common.{◌≡◌, length, map}
use Rattle.splitting.specs.Sources.{distinct}
use Rattle.splitting.proofs.sources.distinct.Given as goal

abbrev pub invariant-loop-source : goal.invariant-loop-source
invariant-loop-source g l = distinct (map g.P.Pads.source l.fn.sources) ≡ distinct (map g.P.Pads.source l.rest)

abbrev pub decreases-loop-source : goal.decreases-loop-source
decreases-loop-source g l = length l.rest
