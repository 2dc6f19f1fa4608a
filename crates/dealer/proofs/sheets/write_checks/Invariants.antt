use Rattle.std.proofs.Common.{◌≡◌, ℕ, ◌<◌, map, length, get_or}
use Rattle.rows.specs.Bytes.{row_at}
use Rattle.plan.specs.Members.{members}
use Rattle.splitting.specs.Sources.{source_of}
use Rattle.dealer.proofs.sheets.write_checks.Given as goal

abbrev pub invariant-loop-i : goal.invariant-loop-i
invariant-loop-i g l =
    (k : ℕ) → k < length l.yielded → row_at k l.out ≡ (source_of (map g.P.Pads.source l.sources) (get_or (members l.group.mask) k 0)).check l.key l.prefix
