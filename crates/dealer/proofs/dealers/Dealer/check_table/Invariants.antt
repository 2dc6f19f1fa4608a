use Rattle.std.proofs.Common.{◌≡◌, ℕ, ◌<◌, map, None}
use Rattle.dealer.specs.Dealt.{plan_of}
use Rattle.dealer.specs.Tabled.{part_refusal}
use Rattle.dealer.proofs.dealers.Dealer.check_table.Given as goal

abbrev pub invariant-loop-key : goal.invariant-loop-key
invariant-loop-key g l =
    (k : ℕ) → k < l.key → part_refusal (plan_of l.self) (map g.P.Pads.source l.sources) k l.length ≡ None
