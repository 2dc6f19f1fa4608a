use Rattle.std.proofs.Common.{ap, ◌∙◌, lit<}
use Rattle.keccak.specs.Fips202.{permuted}
use Rattle.shake256.specs.Fips202.{added, absorbed, squeezed}
use Rattle.shake256.proofs.pairs.end_two.Goals as goal

pub returns : goal.returns
unfolding absorbed
returns c =
    let v = c.args.lanes.now in
    record {
      left = c.squeeze_lane.ensures ∙ ap squeezed (c.permute_two.ensures 0 (lit< tt) ∙ ap permuted (c.paired-states.ensures.left ∙ c.add_block.ensures ∙ ap (added v) c.add_last_bit.ensures));
      right = c.squeeze_lane-2.ensures ∙ ap squeezed (c.permute_two.ensures 1 (lit< tt) ∙ ap permuted (c.paired-states.ensures.right ∙ c.add_block-2.ensures ∙ ap (added v) c.add_last_bit-2.ensures));
    }
