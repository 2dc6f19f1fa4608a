use Rattle.std.proofs.Common.{◌/◌, ◌++◌, sym, ap, ◌∙◌, arith}
use Rattle.rows.specs.Bytes.{u16str}
use Rattle.sizes.specs.Sizes.{bits}
use Rattle.lmots.specs.LmOts.{coef, checksum, digit}
use Rattle.lmots.proofs.Widths.{known, past_string, coef_past, string_length}
use Rattle.lmots.proofs.digits.position.Goals as goal

pub returns-then-i-bits : goal.returns-then-i-bits
unfolding digit
returns-then-i-bits c =
    let w = bits c.args.width in
    let d = c.args.digest.now in
    let e = ap (λ n. 272 / n) c.bits.ensures in
    let h = past_string c.args.i w (known c.args.width) (omega arith) in
    sym (coef_past w (d ++ u16str (checksum w d)) c.args.i (omega (arith, string_length w d c.told-digest, h)))

pub returns : goal.returns
unfolding digit
returns c = c.digit_or_zero.ensures ∙ ap (λ s. coef (bits c.args.width) s c.args.i) c.with_checksum.ensures
