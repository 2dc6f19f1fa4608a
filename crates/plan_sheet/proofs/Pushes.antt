-- Text that grows by rows of numbers.
use Rattle.std.proofs.Common.{◌≡◌, ℕ, zero, suc, ◌+◌, ◌-◌, ◌≤◌, ◌<◌, List, [], ◌∷◌, ◌++◌, map, length, get_or, decimal, IfOk, Ok, Err, Result, zero-add, refl, ap, ◌∙◌, append-nil, arith}
use lib.Utf8.{encode}
use Rattle.std.specs.Fmt.{format_spec, styled_decimal, padded_integral, char_count}
use Rattle.std.specs.List.{flat_map, range_with_len, repeat}
use Rattle.std.proofs.lemmas.List.{length-map, get_or_default}
use Rattle.std.proofs.lemmas.List.FromFn.{length-range_with_len, get_or-range_with_len}
use Rattle.std.proofs.Math.ListN.{get_or-map}
use Rattle.plan.specs.declared.group.Group.{Group}
use Rattle.plan.specs.declared.plans.Plan.{Plan}
use Rattle.plan.specs.Groups.{group_of, groups}
use Rattle.plan.specs.View.{view}
use Rattle.sizes.proofs.Heights.{keys_most}
use Rattle.plan.proofs.Found.{view_groups, range_within}
use Rattle.plan_sheet.proofs.Fields.{groups_least}
use Rattle.columns.specs.Number.{spaces, right}

repeated : (n : ℕ) → repeat n (32 ∷ []) ≡ spaces n
repeated zero = refl
repeated (suc n) = ap (λ xs. 32 ∷ xs) (repeated n)

-- a hole `{:>6}`
pub six : (n : ℕ) → styled_decimal (format_spec 32 3 0 6 18446744073709551615) n ≡ right 6 n
unfolding padded_integral encode char_count
six n =
    let pad = ((6 - length (decimal n)) - 0) - 0 in
    let none : pad - pad ≡ 0 = omega arith in
    let same : pad ≡ 6 - length (decimal n) = omega arith in
    ap (λ j. (((repeat pad (32 ∷ []) ++ []) ++ []) ++ []) ++ (decimal n ++ repeat j (32 ∷ []))) none
    ∙ ap (λ xs. (((xs ++ []) ++ []) ++ []) ++ (decimal n ++ [])) (repeated pad)
    ∙ bare (spaces pad) (decimal n)
    ∙ ap (λ j. spaces j ++ decimal n) same
  where
    bare : (xs ys : List ℕ) → (((xs ++ []) ++ []) ++ []) ++ (ys ++ []) ≡ xs ++ ys
    bare xs ys = simp append-nil

-- the text that a call makes, where it makes one
pub made : {T E : Type 0} (text : T → List ℕ) (r : Result T E) (was now : List ℕ) → IfOk r (λ t. text t ≡ was) → was ≡ now → IfOk r (λ t. text t ≡ now)
made text (Ok x) was now h e = h ∙ e
made text (Err x) was now h e = tt

pub rows_of : {X : Type 0} (row : X → List ℕ) (g : ℕ → X) (ns : List ℕ) → flat_map row (map g ns) ≡ flat_map (λ n. row (g n)) ns
rows_of row g [] = refl
rows_of row g (n ∷ ns) = ap (λ xs. row (g n) ++ xs) (rows_of row g ns)

-- a group that comes has keys, and few enough
pub group_in : (p : Plan) (k : ℕ) (g : Group) → k < length (groups (view p)) → g ≡ get_or (groups (view p)) k g → (1 ≤ g.count) × (g.first + g.count ≤ 1000000)
group_in p k g l e =
    let q = view p in
    let all = view_groups p in
    let ns = range_with_len 0 (length q.masks) in
    let low : k < length q.masks = omega (arith, length-map ns (group_of q), length-range_with_len 0 (length q.masks)) in
    let is : g ≡ group_of q k = e ∙ get_or_default (groups q) k g (group_of q 0) l ∙ get_or-map (group_of q) ns k 0 ∙ ap (group_of q) (get_or-range_with_len 0 (length q.masks) k 0 low ∙ zero-add k) in
    let keys = range_within q k (omega (arith, groups_least p.groups p.groups_in)) (omega (arith, p.keys_for_all)) low in
    (omega (arith, ap (λ x. x.count) is, keys.0), omega (arith, ap (λ x. x.first) is, ap (λ x. x.count) is, keys.1, keys_most p.height))
