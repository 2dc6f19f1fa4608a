use Rattle.std.proofs.Common.{◌/◌, sym, ap, arith}
use Rattle.sizes.specs.Sizes.{bits}
use Rattle.lmots.proofs.Widths.{known, past_string, coef_past}
use Rattle.lmots.proofs.digits.digit_or_zero.Goals as goal

pub returns-then-i-bits : goal.returns-then-i-bits
returns-then-i-bits c =
    let w = bits c.args.width in
    let e = ap (λ n. 272 / n) c.bits.ensures in
    let h = past_string c.args.i w (known c.args.width) (omega arith) in
    sym (coef_past w c.args.digits.now c.args.i (omega (arith, h)))
