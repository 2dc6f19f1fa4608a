use Rattle.std.proofs.Common.{◌≡◌, map}
use Rattle.std.specs.List.{range_with_len}
use Rattle.dealer.specs.Sheet.{key_part}
use Rattle.dealer.specs.Dealt.{deal_of}
use Rattle.dealer.specs.Tabled.{dealt_all}
use Rattle.dealer.proofs.dealers.Dealer.deal_keys.Given as goal

abbrev pub invariant-loop-key : goal.invariant-loop-key
invariant-loop-key g l =
    let d = deal_of g.H.Hash.hashed l.self (map g.P.Pads.source l.sources) in
    l.table ≡ dealt_all d.plan (key_part d) (range_with_len 0 l.key) l.initial.table
