use Rattle.std.proofs.Common.{◌≡◌, [], ◌++◌, length, take, refl, ap, ◌∙◌, arith, rules}
use Rattle.rows.specs.Bytes.{u8str}
use Rattle.rows.proofs.Writing.{grow}
use Rattle.lmots.proofs.lanes.tail.Goals as goal

pub returns : goal.returns
returns c =
    let a = c.to_be_bytes.result in
    let b = c.to_be_bytes-2.result in
    let x = c.args.x.now in
    let la : length a ≡ 4 = ap length c.to_be_bytes.ensures in
    let lb : length b ≡ 2 = ap length c.to_be_bytes-2.ensures in
    let l : length c.put.new.out ≡ 64 = search rules in
    let m : length c.put-2.new.out ≡ 64 = search rules in
    let n : length c.put-3.new.out ≡ 64 = search rules in
    let one : take 4 c.put.new.out ≡ a = grow _ c.put.new.out [] a 0 4 c.put.ensures.inside (omega arith) refl (omega arith) in
    let two : take 6 c.put-2.new.out ≡ a ++ b = grow c.put.new.out c.put-2.new.out a b 4 6 c.put-2.ensures.inside (omega arith) one (omega arith) in
    let three : take 7 c.put-3.new.out ≡ a ++ b ++ u8str c.args.j = grow c.put-2.new.out c.put-3.new.out (a ++ b) (u8str c.args.j) 6 7 c.put-3.ensures.inside (omega arith) two refl in
    grow c.put-3.new.out c.put-4.new.out (a ++ b ++ u8str c.args.j) x 7 39 c.put-4.ensures.inside (omega (arith, c.told-x)) three (omega (arith, c.told-x))
    ∙ (λ k. c.to_be_bytes.ensures k ++ c.to_be_bytes-2.ensures k ++ u8str c.args.j ++ x)
