use Rattle.std.proofs.Common.{ap, ◌∙◌}
use Rattle.keccak.specs.Fips202.{permuted}
use Rattle.shake256.specs.Fips202.{absorbed}
use Rattle.shake256.proofs.state.LanesChaining136.take_in.Goals as goal

pub returns : goal.returns
unfolding absorbed
returns c = c.permute.ensures ∙ ap permuted c.add_block.ensures
