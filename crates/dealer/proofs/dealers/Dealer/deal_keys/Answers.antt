use Rattle.std.proofs.Common.{map, sym, ap, ◌∙◌}
use Rattle.std.specs.List.{range_with_len}
use Rattle.plan.specs.View.{view}
use Rattle.plan.proofs.Found.{plan_ranges}
use Rattle.layout.proofs.Joined.{places}
use Rattle.dealer.specs.Sheet.{key_part}
use Rattle.dealer.specs.Dealt.{deal_of}
use Rattle.dealer.specs.Tabled.{tabled, dealt_all}
use Rattle.dealer.proofs.Laying.{done}
use Rattle.dealer.proofs.Tabling.{tabling}
use Rattle.dealer.proofs.Checking.{keys_more}
use Rattle.dealer.proofs.dealers.Dealer.deal_keys.Goals as goal

pub loop-key-preserved : goal.loop-key-preserved
loop-key-preserved g c =
    let d = c.args.self.now in
    let p = view d.plan in
    let part = key_part (deal_of g.H.Hash.hashed d (map g.P.Pads.source c.args.sources.now)) in
    let key = c.loop-key.key in
    let old = c.args.table.now in
    let laws = tabling p (plan_ranges d.plan) (places p (plan_ranges d.plan)) in
    done c.deal_part.result _ _ _ c.unwrap.ensures c.deal_part.ensures.written
    ∙ ap (tabled p key (part key)) c.loop-key.invariant
    ∙ sym (laws.more part (range_with_len 0 key) key old)
    ∙ ap (λ keys. dealt_all p part keys old) (sym (keys_more key))
