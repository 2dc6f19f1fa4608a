use Rattle.std.proofs.Common.{length, sym, ◌∙◌, rules, tests}
use Rattle.std.proofs.lemmas.Iterator.Consumers.{YieldsList-from_first}
use Rattle.std.proofs.lemmas.Iterator.Search.{find_from_yields_List}
use Rattle.std.proofs.lemmas.Iterator.Adapters.{option_map_id}
use Rattle.plan.specs.Groups.{groups, owns_key}
use Rattle.plan.specs.View.{view}
use Rattle.plan.proofs.Found.{plan_ranges}
use Rattle.plan.proofs.Membership.{plan_membership}
use Rattle.plan.proofs.Owners.{found_owner, ten_hold}
use Rattle.plan.proofs.plans.Plan.owner.Goals as goal

pub returns-clause-value : goal.returns-clause-value
returns-clause-value c =
    let p = view c.args.self.now in
    let road = YieldsList-from_first (λ g. g) (λ rest. rest) (groups p) c.iter.ensures in
    let all = find_from_yields_List (λ g. owns_key g c.args.key) _ _ c.find.result c.find.ensures.ran road (λ x b q k. search (rules, tests)) in
    sym (option_map_id c.find.result) ∙ all ∙ found_owner p 0 (length p.masks) c.args.key

pub returns-clause-ranges : goal.returns-clause-ranges
returns-clause-ranges c = plan_ranges c.args.self.now

pub returns-clause-members : goal.returns-clause-members
returns-clause-members c = plan_membership c.args.self.now

pub returns-clause-example : goal.returns-clause-example
returns-clause-example c = ten_hold
