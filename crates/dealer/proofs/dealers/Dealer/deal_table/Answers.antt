use Rattle.std.proofs.Common.{map, length, sym, subst}
use Rattle.plan.specs.View.{view}
use Rattle.plan.proofs.Found.{plan_ranges}
use Rattle.layout.proofs.Joined.{places}
use Rattle.lms.proofs.Holding.{holds}
use Rattle.splitting.proofs.Listed.{of_rows}
use Rattle.dealer.specs.Sheet.{key_part}
use Rattle.dealer.specs.Dealt.{deal_of}
use Rattle.dealer.specs.Tabled.{all_keys}
use Rattle.dealer.specs.Laws.{IsTable}
use Rattle.dealer.proofs.Contents.{key_sheets}
use Rattle.dealer.proofs.Tabling.{tabling}
use Rattle.dealer.proofs.Checking.{long, all_dealt}
use Rattle.dealer.proofs.dealers.Dealer.deal_table.Goals as goal

pub returns-clause-whole : goal.returns-clause-whole
returns-clause-whole g c =
    let H = g.H.Hash in
    let m = g.met.H.Hash in
    let d = c.args.self.now in
    let p = view d.plan in
    let old = c.args.table.now in
    let sources = map g.P.Pads.source c.args.sources.now in
    let deal = deal_of H.hashed d sources in
    let sheets = key_sheets deal H.ots H.tree (holds H.hashed m.long H.ots H.tree m.ots_low m.tree_low)
    (of_rows g.P.Pads.source g.met.P.Pads.pads_are_rows g.met.P.Pads.check_pads_are_rows c.args.sources.now) in
    let laws = tabling p (plan_ranges d.plan) (places p (plan_ranges d.plan)) in
    let room = long p (plan_ranges d.plan) sources (length old) (sym c.in_ok-check_table.ensures.answer) in
    subst (IsTable p (key_part deal)) (sym c.deal_keys.ensures)
    (laws.whole (key_part deal) (all_keys p) old room (λ i a l k o. sheets.part_long k _ o) (all_dealt p))
