use Rattle.std.proofs.Common.{◌≡◌, ◌≤◌, ◌-◌, ◌*◌, ◌%◌, ◌^◌, ◌+◌, unwrap_or, sym, arith, rules}
use Rattle.std.proofs.lemmas.Grind.{common_steps}
use Rattle.std.proofs.lemmas.Nat.{one_shl}
use Rattle.plan_sheet.proofs.Groups.{above_floor, add_bit, add_bit_under}
use Rattle.plan_sheet.proofs.tally.Tally.with.Goals as goal

pub invariant_of-result-2 : goal.invariant_of-result-2
invariant_of-result-2 c =
    let t = c.in-Some.trustee in
    let f = unwrap_or c.args.self.floor 8 in
    let low = above_floor c.args.self.floor t (sym c.if-not-admits.ensures) in
    let e : (1 * 2 ^ (t - 1)) % 2 ^ 8 ≡ 2 ^ (t - 1) = one_shl (t - 1) 8 (search rules) in
    let added : unwrap_or c.map.result 0 ≤ unwrap_or c.args.self.mask 0 + 2 ^ (t - 1) = grind (arith, common_steps) in
    record {
      floor_in = search rules;
      small = omega (arith, added, add_bit (unwrap_or c.args.self.mask 0) f t c.args.self.small low);
    }

pub returns-clause-below : goal.returns-clause-below
returns-clause-below c = λ n m le.
    let t = c.in-Some.trustee in
    let f = unwrap_or c.args.self.floor 8 in
    let low = above_floor c.args.self.floor t (sym c.if-not-admits.ensures) in
    let is : unwrap_or c.args.entry 0 ≡ t = search rules in
    let e : (1 * 2 ^ (t - 1)) % 2 ^ 8 ≡ 2 ^ (t - 1) = one_shl (t - 1) 8 (search rules) in
    let added : unwrap_or c.map.result 0 ≤ unwrap_or c.args.self.mask 0 + 2 ^ (t - 1) = grind (arith, common_steps) in
    omega (arith, added, add_bit_under (unwrap_or c.args.self.mask 0) f t n c.args.self.small low (omega (arith, is)))
