use Rattle.std.proofs.Common.{◌≡◌, ◌+◌, ◌-◌, ◌*◌, ◌<◌, ◌≤◌, ◌++◌, length, take, drop, sym, ap, ◌∙◌, arith}
use borrow.Rule.Slice.PartMut.{put_mid}
use Rattle.sizes.specs.Sizes.{levels}
use Rattle.sizes.proofs.Heights.{keys_most}
use Rattle.tape.specs.Lines.{line_of}
use Rattle.tape.proofs.Overwriting.{key_below, accepted, after_is, spends}
use Rattle.tape.proofs.spending.TapeLedger.spend.Goals as goal

pub returns : goal.returns
returns c =
    let t = c.args.self.now in
    let bytes = t.bytes.now in
    let key = c.args.key in
    let h = levels t.height in
    let free = sym c.if-spent.ensures in
    let got = c.in-Some.ensures in
    let i = c.in-Some.line in
    let at = 6 * i in
    let fits : 6 * i + 6 ≤ length bytes = got.0 in
    let small : key < 100000 = omega (arith, key_below t.intact h bytes key free, keys_most t.height) in
    let six : (at + 6) - at ≡ 6 = omega arith in
    let line : c.copy_from_slice.new.self ≡ line_of key = c.copy_from_slice.ensures.after ∙ c.line_of.ensures in
    let put : put_mid at ((at + 6) - at) bytes c.copy_from_slice.new.self ≡ take (6 * i) bytes ++ (line_of key ++ drop 6 (drop (6 * i) bytes)) = λ j. put_mid at (six j) bytes (line j) in
    record {
      answer = sym (accepted t.intact h bytes key free i fits got.1 small);
      spends = spends t.intact h bytes key free i fits got.1 small _ put;
      value = ap (λ b. record t { bytes = record t.bytes { now = b } }) (after_is t.intact h bytes key free i fits got.1 small _ put);
    }
