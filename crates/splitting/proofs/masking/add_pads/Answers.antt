use Rattle.std.proofs.Common.{◌+◌, [], get_or, ap, ◌∙◌, arith}
use Rattle.splitting.specs.KeyParts.{label_in}
use Rattle.splitting.proofs.Blocks.{Added, eight_added}
use Rattle.splitting.proofs.masking.add_pads.Goals as goal

pub loop-first-preserved : goal.loop-first-preserved
loop-first-preserved g c =
    let pad = (g.P.Pads.source c.args.source.now).pad in
    eight_added _ c.args.out.now c.loop-first.out c.add_eight.new.out c.loop-first.first (λ k. get_or c.pads-pads.result k []) c.loop-first.auto.out c.loop-first.invariant
    (λ k l. c.pads-pads.ensures k l ∙ ap pad (c.labels.ensures k l)) c.add_eight.ensures.new c.add_eight.ensures.old

pub returns-2 : goal.returns-2
returns-2 g c = λ m room.
    let pad = (g.P.Pads.source c.args.source.now).pad in
    let part = c.args.part in
    let all : Added (λ m. pad (label_in part m)) c.args.out.now c.add_eight.new.out (c.loop-first.first + 8) =
    eight_added _ c.args.out.now c.loop-first.out c.add_eight.new.out c.loop-first.first (λ k. get_or c.pads-pads.result k []) c.loop-first.auto.out c.loop-first.invariant
    (λ k l. c.pads-pads.ensures k l ∙ ap pad (c.labels.ensures k l)) c.add_eight.ensures.new c.add_eight.ensures.old in
    all.done m (omega arith) room
