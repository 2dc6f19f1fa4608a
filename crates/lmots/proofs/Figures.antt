-- The figures, computed.
use Rattle.std.proofs.Common.{◌-◌, ◌*◌, ◌^◌, ◌<◌, ◌≤◌, refl, arith}
use Rattle.sizes.specs.declared.width.Width.{Width}
use Rattle.sizes.specs.Sizes.{bits}
use Rattle.lmots.specs.LmOts.{u, v, missing, digit}
use Rattle.lmots.specs.Laws.{Figures}
use Rattle.lmots.proofs.Widths.{by_width, known}

enough : (width : Width) → (2 ^ bits width - 1) * u (bits width) < 2 ^ (v (bits width) * bits width)
enough width = by_width (λ w. (2 ^ w - 1) * u w < 2 ^ (v w * w)) (omega arith) (omega arith) (omega arith) (omega arith) _ (known width)

least : (width : Width) → 2 ^ ((v (bits width) - 1) * bits width) ≤ (2 ^ bits width - 1) * u (bits width)
least width = by_width (λ w. 2 ^ ((v w - 1) * w) ≤ (2 ^ w - 1) * u w) (omega arith) (omega arith) (omega arith) (omega arith) _ (known width)

pub figures : Figures
unfolding digit missing
figures = record {
  nibble = refl;
  bit = refl;
  chains = refl;
  shifts = refl;
  enough = enough;
  least = least;
  sums1 = refl;
  sums2 = refl;
  sums4 = refl;
  sums8 = refl;
}
