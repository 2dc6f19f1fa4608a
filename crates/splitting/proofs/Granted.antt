-- What is known of a key once no check refuses it.
use Rattle.std.proofs.Common.{◌≡◌, ℕ, ◌*◌, ◌^◌, ◌<◌, List, Some, None, Option, sym, refl, ap, ◌∙◌, arith}
use Rattle.std.specs.Option.{option_map}
use Rattle.std.proofs.lemmas.Option.{none-some, same_Some}
use Rattle.plan.specs.declared.group.Group.{Group}
use Rattle.plan.specs.declared.plans.Plan.{Plan}
use Rattle.plan.specs.Groups.{group_of, owning}
use Rattle.plan.specs.Keys.{owner}
use Rattle.plan.specs.View.{view}
use Rattle.plan.specs.Shape.{Shape}
use Rattle.plan.proofs.Found.{plan_ranges}
use Rattle.layout.specs.Table.{rows_of_group}
use Rattle.pads.specs.Source.{Source}
use Rattle.splitting.specs.Split.{refusal}
use Rattle.splitting.proofs.Fitting.{all_passed}

-- the group that was looked up, and its number
one_owns : (p : Shape) (key : ℕ) (group : Group) → Some group ≡ owning p key → (g : ℕ) × (owner p key ≡ Some g) × (group ≡ group_of p g)
one_owns p key group e = from (owner p key) e
  where
    from : (o : Option ℕ) → Some group ≡ option_map (group_of p) o → (g : ℕ) × (o ≡ Some g) × (group ≡ group_of p g)
    from None h = absurd (none-some group (sym h))
    from (Some g) h = (g, refl, same_Some group (group_of p g) h)

pub record Granted (plan : Plan) (key n : ℕ) (group : Group) : Type 0 where
  pub g : ℕ
  pub owns : owner (view plan) key ≡ Some g
  pub is : group ≡ group_of (view plan) g
  pub long : n ≡ 32 * rows_of_group (view plan) g
  pub small : key < 2 ^ (view plan).height

pub granted : (plan : Plan) (sources : List Source) (key n : ℕ) (group : Group) → refusal (view plan) sources key n ≡ None → owning (view plan) key ≡ Some group → Granted plan key n group
granted plan sources key n group none owned =
    let p = view plan in
    let found = one_owns p key group (sym owned) in
    let all = all_passed p sources key n none in
    let r = plan_ranges plan in
    record {
      g = found.0;
      owns = found.1;
      is = found.2;
      long = all.long ∙ ap (λ x. 32 * rows_of_group p x) (same_Some all.g found.0 (sym all.owns ∙ found.1));
      small = omega (arith, r.inside found.0 key (r.owner_owns found.0 key found.1), r.rest);
    }
