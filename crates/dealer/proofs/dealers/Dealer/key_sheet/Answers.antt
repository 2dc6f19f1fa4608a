use Rattle.std.proofs.Common.{◌≡◌, ◌*◌, map, length, sym, ap, ◌∙◌, subst}
use Rattle.plan.specs.declared.group.Group.{Group}
use Rattle.plan.specs.Members.{members}
use Rattle.plan.specs.View.{view}
use Rattle.layout.specs.Part.{part_rows}
use Rattle.lms.proofs.Holding.{holds}
use Rattle.splitting.proofs.Granted.{granted}
use Rattle.splitting.proofs.Listed.{of_rows}
use Rattle.dealer.specs.Sheet.{sheet_for, key_sheet}
use Rattle.dealer.specs.Dealt.{deal_of}
use Rattle.dealer.specs.Laws.{Labelled}
use Rattle.dealer.proofs.Contents.{owned_sheet, key_sheets}
use Rattle.dealer.proofs.dealers.Dealer.key_sheet.Goals as goal

pub write_sheet-requires : goal.write_sheet-requires
write_sheet-requires g c =
    let d = c.args.self.now in
    let p = view d.plan in
    let got = granted d.plan (map g.P.Pads.source c.args.sources.now) c.args.key (length c.args.out.now) c.in_ok-group.group (sym c.in_ok-group.ensures.answer) c.in_ok-group.ensures.group in
    record {
      small = got.small;
      room = got.long ∙ ap (λ (x : Group). 32 * part_rows p.height p.width (length (members x.mask))) (sym got.is);
    }

pub returns-clause-labelled : goal.returns-clause-labelled
returns-clause-labelled g c =
    let H = g.H.Hash in
    let m = g.met.H.Hash in
    let d = c.args.self.now in
    let key = c.args.key in
    let sources = map g.P.Pads.source c.args.sources.now in
    let deal = deal_of H.hashed d sources in
    let got = granted d.plan sources key (length c.args.out.now) c.in_ok-group.group (sym c.in_ok-group.ensures.answer) c.in_ok-group.ensures.group in
    let written : c.write_sheet.new.out ≡ key_sheet deal key =
    c.write_sheet.ensures ∙ ap (λ (x : Group). sheet_for deal (members x.mask) key) got.is ∙ sym (owned_sheet deal got.g key got.owns) in
    let sheets = key_sheets deal H.ots H.tree (holds H.hashed m.long H.ots H.tree m.ots_low m.tree_low)
    (of_rows g.P.Pads.source g.met.P.Pads.pads_are_rows g.met.P.Pads.check_pads_are_rows c.args.sources.now) in
    subst (Labelled deal key) (sym written) (sheets.labelled key)
