-- What a group that was looked up is.
use Rattle.std.proofs.Common.{◌≡◌, ℕ, ◌+◌, ◌^◌, ◌<◌, ◌≤◌, ltb, leb, [], ◌∷◌, length, drop, Some, None, sym, ap, ◌∙◌, ⊎_elim, zero-add, arith}
use Rattle.std.specs.List.{range_with_len}
use Rattle.std.proofs.lemmas.List.{length-take-le, at_drop_more, drop_all, length-map, get_or-take}
use Rattle.std.proofs.Math.ListN.{get_or-map}
use Rattle.std.proofs.lemmas.List.FromFn.{length-range_with_len, get_or-range_with_len}
use Rattle.std.proofs.lemmas.Bool.{cases_lt, lt-ltb, le-ltb, cond-true, cond-false, and_parts, leb-true}
use Rattle.std.proofs.lemmas.Option.{none-some, same_Some}
use Rattle.plan.specs.declared.group.Group.{Group}
use Rattle.plan.specs.declared.plans.Plan.{Plan}
use Rattle.sizes.proofs.Heights.{height_is}
use Rattle.sizes.proofs.Widths.{width_is}
use Rattle.plan.specs.Shape.{Shape, Valid, is_groups}
use Rattle.plan.specs.Laws.{Ranges}
use Rattle.plan.specs.View.{view}
use Rattle.plan.specs.Keys.{first_key, key_count}
use Rattle.plan.specs.Groups.{group_of, group_at, groups}
use Rattle.plan.proofs.Shares.{Shared, shared}
use Rattle.plan.proofs.Owners.{later, ranges}

module _ (p : Shape) (n : ℕ) where
  pub group_found : (g : Group) → Some g ≡ group_at p n → (n < length p.masks) × (g ≡ group_of p n)
  group_found g e =
      ⊎_elim
      (λ (l : n < length p.masks). (l, same_Some g (group_of p n) (e ∙ cond-true (ltb n (length p.masks)) _ None (lt-ltb _ _ l))))
      (λ (l : length p.masks ≤ n). absurd (none-some g (sym (e ∙ cond-false (ltb n (length p.masks)) (Some (group_of p n)) None (le-ltb _ _ l)))))
      (cases_lt n (length p.masks))

  pub group_missing : None ≡ group_at p n → length p.masks ≤ n
  group_missing e =
      ⊎_elim
      (λ (l : n < length p.masks). absurd (none-some (group_of p n) (e ∙ cond-true (ltb n (length p.masks)) _ None (lt-ltb _ _ l))))
      (λ (l : length p.masks ≤ n). l)
      (cases_lt n (length p.masks))

  -- its range lies within the tree
  pub range_within : 1 ≤ length p.masks → length p.masks ≤ 2 ^ p.height → n < length p.masks → (1 ≤ key_count p n) × (first_key p n + key_count p n ≤ 2 ^ p.height)
  range_within low high l = let s = shared p low high in (s.some n l, omega (arith, later p s.follows n (length p.masks) l (omega arith), s.fits))

-- a value of the plan type, seen as a plan
pub view_groups : (p : Plan) → length (view p).masks ≡ p.groups
view_groups p = length-take-le p.groups p.masks p.room

pub plan_valid : (p : Plan) → Valid (view p)
plan_valid p = record {
  trustees_in = p.trustees_in;
  height_in = height_is p.height;
  width_in = width_is p.width;
  groups_in = ap is_groups (view_groups p) ∙ p.groups_in;
  keys_for_all = omega (arith, view_groups p, p.keys_for_all);
  within = λ g l.
      let low : g < p.groups = omega (arith, view_groups p) in
      let same = get_or-take p.groups p.masks g 0 low in
      let in' = p.within g low in
      (omega (arith, same, in'.0), omega (arith, same, in'.1));
  rising = λ g l.
      let low : g + 1 < p.groups = omega (arith, view_groups p) in
      omega (arith, get_or-take p.groups p.masks g 0 (omega arith), get_or-take p.groups p.masks (g + 1) 0 low, p.rising g low);
}

pub plan_shared : (p : Plan) → Shared (view p)
plan_shared p =
    let all = view_groups p in
    let some = and_parts (leb 1 p.groups) (leb p.groups 70) p.groups_in in
    shared (view p) (omega (arith, leb-true 1 p.groups some.0)) (omega (arith, p.keys_for_all))

pub plan_ranges : (p : Plan) → Ranges (view p)
plan_ranges p = ranges (view p) (plan_shared p)

-- the first of the groups from one on
pub first_group : (p : Shape) (n : ℕ) (g : Group) → Some g ≡ group_at p n → drop n (groups p) ≡ g ∷ drop (n + 1) (groups p)
first_group p n g e =
    let there = group_found p n g e in
    let ns = range_with_len 0 (length p.masks) in
    at_drop_more (λ gs. gs) (groups p) n (group_of p 0) (omega (arith, length-map ns (group_of p), length-range_with_len 0 (length p.masks), there.0))
    ∙ ap (λ x. x ∷ drop (n + 1) (groups p)) (get_or-map (group_of p) ns n 0 ∙ ap (group_of p) (get_or-range_with_len 0 (length p.masks) n 0 there.0 ∙ zero-add n) ∙ sym there.1)

pub no_group : (p : Shape) (n : ℕ) → None ≡ group_at p n → drop n (groups p) ≡ []
no_group p n e = drop_all n (groups p) (omega (arith, group_missing p n e, length-map (range_with_len 0 (length p.masks)) (group_of p), length-range_with_len 0 (length p.masks)))
