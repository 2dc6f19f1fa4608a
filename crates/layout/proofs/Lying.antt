-- Where sections and parts lie.
use Rattle.std.proofs.Common.{◌≡◌, ℕ, zero, suc, ◌+◌, ◌*◌, ◌<◌, ◌≤◌, true, false, eqb, leb, List, [], ◌∷◌, map, length, get_or, set, replicate, Some, None, Option, sym, refl, ap, ◌∙◌, subst, ⊎_elim, add-mul, mul-le-mul_left, arith}
use Rattle.std.specs.Option.{option_map}
use Rattle.std.proofs.lemmas.List.{get_or-set_same, get_or-set_other, length-set, length-replicate, get_or-replicate}
use Rattle.std.specs.Iterator.{Yields, YieldsFirst}
use Rattle.std.proofs.lemmas.Iterator.{YieldsList}
use Rattle.std.proofs.lemmas.Iterator.Consumers.{YieldsList-from_first, YieldsList-turn, YieldsList-end}
use Rattle.std.proofs.lemmas.List.FromFn.{length-map-range_with_len, get_or-map-range_with_len, sum_by-map-range_with_len_more}
use Rattle.std.specs.List.{sum_by, range_with_len}
use Rattle.std.proofs.lemmas.Bool.{and_parts, cases_Bool, cases_eq, cases_lt, cond-true, cond-false, leb-true, ltb-true, eq-eqb}
use Rattle.std.proofs.lemmas.Option.{none-some, same_Some}
use Rattle.sizes.specs.declared.height.Height.{Height}
use Rattle.sizes.specs.declared.width.Width.{Width}
use Rattle.sizes.specs.Sizes.{levels, bits}
use Rattle.plan.specs.declared.group.Group.{Group}
use Rattle.plan.specs.declared.plans.Plan.{Plan}
use Rattle.plan.specs.Groups.{group_of, groups}
use Rattle.plan.specs.Members.{members}
use Rattle.plan.specs.View.{view}
use Rattle.plan.specs.Shape.{Shape}
use Rattle.plan.specs.Keys.{first_key, key_count, in_range, owner_from, owner}
use Rattle.sizes.proofs.Heights.{keys_most}
use Rattle.plan.proofs.Owners.{later}
use Rattle.plan.proofs.Found.{plan_ranges}
use Rattle.layout.specs.declared.section.Section.{Section}
use Rattle.layout.specs.Part.{part_rows}
use Rattle.layout.proofs.Few.{part_few}
use Rattle.layout.proofs.Joined.{start_none, first_next, start_next}
use Rattle.layout.specs.Table.{rows_of_group, start_of, section_of, unused, table_rows, find, by_owner, in_table}

-- unused sections are never found
abbrev Bare : List Section → Type 0
Bare xs = (j : ℕ) (d : Section) → j < length xs → get_or xs j d ≡ unused

no_key : (first count key : ℕ) → count ≡ 0 → in_range first count key ≡ false
no_key first count key e =
    ⊎_elim
    (λ (t : in_range first count key ≡ true). let l = leb-true first key (and_parts (leb first key) _ t).0 in let r = ltb-true key (first + count) (and_parts (leb first key) _ t).1 in absurd (omega arith))
    (λ (f : in_range first count key ≡ false). f)
    (cases_Bool (in_range first count key))

find_bare : (xs : List Section) → Bare xs → (key : ℕ) → find xs key ≡ None
find_bare [] b key = refl
find_bare (x ∷ xs) b key =
    cond-false (in_range x.first x.count key) (Some x) (find xs key) (no_key x.first x.count key (ap (λ s. s.count) (b 0 x (omega arith))))
    ∙ find_bare xs (λ j d l. b (suc j) d (omega arith)) key

-- sections of k groups from g on, and unused ones behind them
pub find_owner : (p : Shape) (xs : List Section) (g k : ℕ) →
    ((j : ℕ) (d : Section) → j < k → get_or xs j d ≡ section_of p (g + j)) →
    ((j : ℕ) (d : Section) → k ≤ j → j < length xs → get_or xs j d ≡ unused) → k ≤ length xs →
    (key : ℕ) → find xs key ≡ option_map (section_of p) (owner_from p g k key)
unfolding owner_from
find_owner p xs g zero there bare few key = find_bare xs (λ j d l. bare j d (omega arith) l) key
find_owner p [] g (suc k) there bare few key = absurd (omega arith)
find_owner p (x ∷ xs) g (suc k) there bare few key =
    let here : x ≡ section_of p g = there 0 x (omega arith) ∙ ap (section_of p) (omega arith) in
    let rest = find_owner p xs (g + 1) k
    (λ j d l. there (suc j) d (omega arith) ∙ ap (section_of p) (omega arith))
    (λ j d l m. bare (suc j) d (omega arith) (omega arith)) (omega arith) key in
    let same : in_range x.first x.count key ≡ in_range (first_key p g) (key_count p g) key = ap (λ s. in_range s.first s.count key) here in
    ⊎_elim
    (λ (t : in_range (first_key p g) (key_count p g) key ≡ true).
    cond-true (in_range x.first x.count key) (Some x) (find xs key) (same ∙ t) ∙ ap (λ s. Some s) here
    ∙ sym (ap (option_map (section_of p)) (cond-true (in_range (first_key p g) (key_count p g) key) (Some g) (owner_from p (g + 1) k key) t)))
    (λ (f : in_range (first_key p g) (key_count p g) key ≡ false).
    cond-false (in_range x.first x.count key) (Some x) (find xs key) (same ∙ f) ∙ rest
    ∙ sym (ap (option_map (section_of p)) (cond-false (in_range (first_key p g) (key_count p g) key) (Some g) (owner_from p (g + 1) k key) f)))
    (cases_Bool (in_range (first_key p g) (key_count p g) key))

-- ---- the sections of the first n groups, in front of a list, with unused ones behind them
abbrev pub Front : Shape → ℕ → List Section → Type 0
Front p n xs = (j : ℕ) (d : Section) → j < n → get_or xs j d ≡ section_of p j

abbrev pub Behind : ℕ → List Section → Type 0
Behind n xs = (j : ℕ) (d : Section) → n ≤ j → j < length xs → get_or xs j d ≡ unused

pub front_more : (p : Shape) (n : ℕ) (xs : List Section) (s : Section) → n < length xs → s ≡ section_of p n → Front p n xs → Front p (n + 1) (set xs n s)
front_more p n xs s l e f j d m =
    ⊎_elim
    (λ (same : j ≡ n). subst (λ i. get_or (set xs n s) i d ≡ section_of p i) (sym same) (get_or-set_same xs n s d l ∙ e))
    (λ (other : j ≡ n → ⊥). get_or-set_other xs n j s d other ∙ f j d (below j other m))
    (cases_eq j n)
  where
    below : (i : ℕ) → (i ≡ n → ⊥) → i < n + 1 → i < n
    below i other m = ⊎_elim (λ (l : i < n). l) (λ (g : n ≤ i). absurd (other (omega arith))) (cases_lt i n)

pub behind_less : (n : ℕ) (xs : List Section) (s : Section) → Behind n xs → Behind (n + 1) (set xs n s)
behind_less n xs s b j d l m =
    let long : length (set xs n s) ≡ length xs = length-set xs n s in
    get_or-set_other xs n j s d (λ e. omega arith) ∙ b j d (omega arith) (omega arith)

-- each group has few rows, and so has the table
pub start_few : (plan : Plan) (n : ℕ) → n ≤ length (view plan).masks → start_of (view plan) n ≤ first_key (view plan) n * 8723
start_few plan zero l = omega (arith, start_none (view plan))
start_few plan (suc n) l =
    let p = view plan in
    let e : suc n ≡ n + 1 = omega arith in
    let wide : key_count p n * rows_of_group p n ≤ key_count p n * 8723 = mul-le-mul_left (key_count p n) (part_few plan.height plan.width (get_or p.masks n 0)) in
    let next : first_key p (suc n) * 8723 ≡ first_key p n * 8723 + key_count p n * 8723 = ap (λ m. first_key p m * 8723) e ∙ ap (λ x. x * 8723) (first_next p (plan_ranges plan) n (omega arith)) ∙ add-mul (first_key p n) (key_count p n) 8723 in
    omega (arith, start_few plan n (omega arith), wide, next, ap (start_of p) e, start_next p n)

pub start_within : (plan : Plan) (n : ℕ) → n ≤ length (view plan).masks → start_of (view plan) n ≤ 1024 * 8723
start_within plan n l =
    let p = view plan in
    let r = plan_ranges plan in
    let up : first_key p n ≤ first_key p (length p.masks) =
    ⊎_elim
    (λ (b : n < length p.masks). omega (arith, later p r.follows n (length p.masks) b (omega arith)))
    (λ (e : length p.masks ≤ n). let same : n ≡ length p.masks = omega arith in omega (arith, ap (first_key p) same))
    (cases_lt n (length p.masks)) in
    omega (arith, start_few plan n l, up, r.rest, keys_most plan.height)

-- the rows of the first n groups
pub rows_sum : (p : Shape) (n : ℕ) → sum_by (λ (g : Group). g.count * part_rows p.height p.width (length (members g.mask))) (map (group_of p) (range_with_len 0 n)) ≡ start_of p n
rows_sum p zero = start_none p
rows_sum p (suc n) =
    let rows : Group → ℕ = λ g. g.count * part_rows p.height p.width (length (members g.mask)) in
    let e : suc n ≡ n + 1 = omega arith in
    ap (λ m. sum_by rows (map (group_of p) (range_with_len 0 m))) e ∙ sum_by-map-range_with_len_more rows (group_of p) 0 n n (omega arith)
    ∙ ap (λ x. x + rows (group_of p n)) (rows_sum p n) ∙ sym (start_next p n) ∙ ap (start_of p) (sym e)

-- the groups of a plan, one after the other: the items so far are `gs`, and `left` is what is left
module _ (p : Shape) (all : List Group) (is : all ≡ groups p) (gs left : List Group) (so_far : Yields (YieldsFirst (λ rest. rest)) all gs left) where
  road : YieldsList (YieldsFirst (λ rest. rest)) (λ (g : Group). g) all (groups p)
  road = YieldsList-from_first (λ (g : Group). g) (λ rest. rest) (groups p) is

  pub group_turn : (r : Option Group) (next : List Group) (g : Group) → r ≡ Some g → YieldsFirst (λ rest. rest) left r next → (length gs < length p.masks) × (g ≡ group_of p (length gs))
  group_turn r next g some steps =
      let t = YieldsList-turn road gs left so_far r next g some steps in
      let l : length gs < length p.masks = omega (arith, t.0, length-map-range_with_len (group_of p) 0 (length p.masks)) in
      (l, t.1 ∙ get_or-map-range_with_len (group_of p) 0 (length p.masks) (length gs) (length gs) g l (omega arith))

  pub groups_end : (r : Option Group) (next : List Group) → r ≡ None → YieldsFirst (λ rest. rest) left r next → length gs ≡ length p.masks
  groups_end r next none steps = (YieldsList-end road gs left so_far r next none steps).1 ∙ length-map-range_with_len (group_of p) 0 (length p.masks)

-- once n groups are laid, the next but one row of the table is `start`
pub record Laid (p : Shape) (n : ℕ) (all : List Section) (start : ℕ) : Type 0 where
  pub long : length all ≡ 70
  pub front : Front p n all
  pub behind : Behind n all
  pub at : start ≡ start_of p n

-- no group yet: each section is unused
pub laid_none : (p : Shape) (none : Section) → none ≡ unused → Laid p 0 (replicate 70 none) 0
laid_none p none e =
    let long = length-replicate 70 none in
    record {
      long = long;
      front = λ j d l. absurd (omega arith);
      behind = λ j d l m. get_or-replicate 70 j none d (omega arith) ∙ e;
      at = start_none p;
    }

-- one group more
pub laid_more : (p : Shape) (n i m : ℕ) (all : List Section) (start : ℕ) (s : Section) → Laid p n all start → i ≡ n → m ≡ n + 1 → n < 70 → s ≡ section_of p n → Laid p m (set all i s) (start + s.count * s.rows)
laid_more p n i m all start s laid ei em l e =
    subst (λ k. Laid p k (set all i s) (start + s.count * s.rows)) (sym em)
    (subst (λ k. Laid p (n + 1) (set all k s) (start + s.count * s.rows)) (sym ei)
    (record {
      long = length-set all n s ∙ laid.long;
      front = front_more p n all s (omega (arith, laid.long)) e laid.front;
      behind = behind_less n all s laid.behind;
      at = (λ j. laid.at j + (e j).count * (e j).rows) ∙ sym (start_next p n);
    }))

-- the rows of a group that was looked up
pub group_rows : (plan : Plan) (n : ℕ) (g : Group) (h : Height) (w : Width) (r : ℕ) → levels h ≡ (view plan).height → bits w ≡ (view plan).width → g ≡ group_of (view plan) n →
    r ≡ part_rows (levels h) (bits w) (length (members g.mask)) → r ≡ rows_of_group (view plan) n
group_rows plan n g h w r eh ew eg er = er ∙ (λ i. part_rows (eh i) (ew i) (length (members (eg i).mask)))

-- a section that was found is its owner's
pub section_found : (p : Shape) (key : ℕ) (s : Section) → Some s ≡ option_map (section_of p) (owner p key) → (g : ℕ) × (owner p key ≡ Some g) × (s ≡ section_of p g)
section_found p key s e = from (owner p key) e
  where
    from : (o : Option ℕ) → Some s ≡ option_map (section_of p) o → (g : ℕ) × (o ≡ Some g) × (s ≡ section_of p g)
    from None h = absurd (none-some s (sym h))
    from (Some g) h = (g, refl, same_Some s (section_of p g) h)

-- in a buffer of the table's length
pub in_whole : (p : Shape) (key n g : ℕ) (f : ℕ → ℕ) → n ≡ 32 * table_rows p → owner p key ≡ Some g → in_table p key n f ≡ f g
in_whole p key n g f e o = cond-true (eqb n (32 * table_rows p)) (by_owner f (owner p key)) 0 (eq-eqb _ _ e) ∙ ap (by_owner f) o
