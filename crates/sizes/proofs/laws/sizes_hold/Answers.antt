use Rattle.sizes.proofs.Heights.{height_is, height_of, one_height}
use Rattle.sizes.proofs.Widths.{width_is, width_of, one_width}
use Rattle.sizes.proofs.laws.sizes_hold.Goals as goal

pub returns : goal.returns
returns c = record {
  heights = height_is;
  height = height_of;
  one_height = one_height;
  widths = width_is;
  width = width_of;
  one_width = one_width;
}
