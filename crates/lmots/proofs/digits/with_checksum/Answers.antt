use Rattle.std.proofs.Common.{◌≡◌, ℕ, ◌-◌, ◌*◌, ◌/◌, ◌%◌, ◌^◌, [], ◌++◌, length, take, sym, refl, ap, ◌∙◌, ap₂, mod-eq_of_lt, arith, rules}
use Rattle.std.proofs.lemmas.List.{take_all}
use Rattle.std.proofs.lemmas.Iterator.{YieldsList-from_map, YieldsList-from_range}
use Rattle.std.proofs.lemmas.Iterator.Consumers.{sum_by_from_yields_List, fits_by_from_yields_list}
use Rattle.std.specs.List.{range_with_len}
use Rattle.rows.specs.Bytes.{u16str}
use Rattle.rows.proofs.Writing.{grow}
use Rattle.sizes.specs.Sizes.{bits}
use Rattle.lmots.specs.LmOts.{coef, missing, u}
use Rattle.lmots.proofs.Widths.{known, missing_small, lacking_all, checksum_small}
use Rattle.lmots.proofs.digits.with_checksum.Goals as goal

pub sum-sum-requires-clause-fits : goal.sum-sum-requires-clause-fits
sum-sum-requires-clause-fits c =
    let w = bits c.args.width in
    let d = c.args.digest.now in
    let n = 256 / c.bits.result in
    let f : ℕ → ℕ = λ i. 2 ^ w - 1 - coef w d i in
    let e : n ≡ u w = ap (λ n. 256 / n) c.bits.ensures in
    fits_by_from_yields_list f (range_with_len 0 n) c.map.result _
    (YieldsList-from_map _ f (YieldsList-from_range 0 n n c.map.ensures.source (omega arith)) c.map.ensures.closure (λ x r q k. search rules))
    (omega (arith, lacking_all w d n, ap (missing w d) e, missing_small d w (known c.args.width)))

pub returns : goal.returns
returns c =
    let w = bits c.args.width in
    let d = c.args.digest.now in
    let n = 256 / c.bits.result in
    let f : ℕ → ℕ = λ i. 2 ^ w - 1 - coef w d i in
    let e : n ≡ u w = ap (λ n. 256 / n) c.bits.ensures in
    let sum : c.sum-sum.result ≡ missing w d (u w) =
    sum_by_from_yields_List f (range_with_len 0 n) c.map.result c.sum-sum.result c.sum-sum.ensures.ran
    (YieldsList-from_map _ f (YieldsList-from_range 0 n n c.map.ensures.source (omega arith)) c.map.ensures.closure (λ x r q k. search rules))
    ∙ lacking_all w d n ∙ ap (missing w d) e in
    let b = c.to_be_bytes-bytes.result in
    let lb : length b ≡ 2 = ap length c.to_be_bytes-bytes.ensures in
    let l : length c.put.new.out ≡ 34 = search rules in
    let m : length c.put-2.new.out ≡ 34 = search rules in
    let one : take 32 c.put.new.out ≡ d = grow _ c.put.new.out [] d 0 32 c.put.ensures.inside (omega (arith, c.told-digest)) refl (omega (arith, c.told-digest)) in
    let two : take 34 c.put-2.new.out ≡ d ++ b = grow c.put.new.out c.put-2.new.out d b 32 34 c.put-2.ensures.inside (omega arith) one (omega arith) in
    sym (take_all 34 c.put-2.new.out (omega arith)) ∙ two
    ∙ ap (λ t. d ++ t)
    (c.to_be_bytes-bytes.ensures
    ∙ ap u16str (ap₂ (λ a b. a * 2 ^ b % 65536) sum c.checksum_shift.ensures
    ∙ mod-eq_of_lt (checksum_small d w (known c.args.width))))
