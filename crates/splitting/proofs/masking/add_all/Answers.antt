use Rattle.std.proofs.Common.{map, sym, ap, ◌∙◌, arith}
use Rattle.rows.specs.Bytes.{row_at, xored}
use Rattle.splitting.specs.KeyParts.{label_in}
use Rattle.splitting.proofs.Listed.{xored_zeros, one_more}
use Rattle.splitting.proofs.masking.add_all.Goals as goal

pub loop-trustee-preserved-in-Some-source_of : goal.loop-trustee-preserved-in-Some-source_of
loop-trustee-preserved-in-Some-source_of g c = λ m room.
    let label = label_in c.args.part m in
    one_more (map g.P.Pads.source c.args.sources.now) c.loop-trustee.yielded c.in-Some.trustee label (row_at m c.args.out.now) (row_at m c.loop-trustee.out) _
    (c.loop-trustee.invariant m room)
    (c.add_pads.ensures m (omega (arith, c.loop-trustee.auto.out)) ∙ ap (λ s. xored (row_at m c.loop-trustee.out) (s.pad label)) (sym c.in-Some-source_of.ensures.means))

pub loop-trustee-preserved : goal.loop-trustee-preserved
loop-trustee-preserved g c = λ m room.
    let sources = map g.P.Pads.source c.args.sources.now in
    let t = c.in-Some.trustee in
    let label = label_in c.args.part m in
    let out = row_at m c.loop-trustee.out in
    one_more sources c.loop-trustee.yielded t label (row_at m c.args.out.now) out out
    (c.loop-trustee.invariant m room)
    (sym (ap (λ s. xored out (s.pad label)) (c.in_default.ensures.means) ∙ xored_zeros out 32))
