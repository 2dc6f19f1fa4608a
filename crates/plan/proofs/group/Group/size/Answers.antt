use Rattle.std.proofs.Common.{◌<◌, arith, rules}
use Rattle.plan.proofs.Seats.{count_is}
use Rattle.plan.proofs.Membership.{members_few, of_plan_some}
use Rattle.plan.proofs.group.Group.size.Goals as goal

pub returns : goal.returns
returns c =
    let group = c.args.self.now in
    let small : group.mask < 256 = search rules in
    let same = count_is group.mask small in
    record { value = same; eight = omega (arith, same, members_few group.mask); some = λ o. omega (arith, same, of_plan_some group o) }
