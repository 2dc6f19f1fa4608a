use Rattle.std.proofs.lemmas.Iterator.Consumers.{YieldsList-from_first, nth_from_yields_List}
use Rattle.plan.specs.Members.{members}
use Rattle.plan.proofs.Seats.{member_at}
use Rattle.plan.proofs.group.Group.member.Goals as goal

pub returns : goal.returns
returns c =
    let mask = c.args.self.now.mask in
    let road = YieldsList-from_first (λ t. t) (λ rest. rest) (members mask) c.members.ensures in
    member_at mask c.args.position c.nth.result (nth_from_yields_List c.nth.result _ c.args.position c.nth.ensures.ran road)
