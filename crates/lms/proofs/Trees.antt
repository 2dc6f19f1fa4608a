-- A leaf with its path gives the root.
use Rattle.std.proofs.Common.{◌≡◌, ℕ, zero, suc, ◌+◌, ◌-◌, ◌*◌, ◌/◌, ◌%◌, ◌^◌, ◌<◌, ◌≤◌, Bool, true, false, cond, eqb, List, [], length, get_or, set, sym, refl, ap, ◌∙◌, subst, ap₂, subst₂, inl, inr, mul_assoc, mul_comm, add-mul, zero-mul, add-one, arith}
use Prim.Native.Nat.{differ}
use native.Mathlib.Nat.{pow-succ'}
use lib.Bits.{bit_xor, xor_step, xor_zero_r}
use Rattle.std.proofs.lemmas.Nat.{shr-shr, shr_high, pow_pos, pow-add, mul-le, le-div, div_below}
use Rattle.std.proofs.lemmas.Bool.{eqb-true, eqb-false, eq-eqb, ne_eqb, cases_eq}
use Rattle.lms.specs.Nodes.{Placed, Filled}
use Rattle.std.proofs.lemmas.List.{get_or-set_same, get_or-set_other}
use Rattle.lmots.specs.LmOts.{public_key}
use Rattle.lms.specs.Laws.{LeafToRoot}
use Rattle.lms.specs.Lms.{inner_node, leaf_node, climbed, node, path_of}

pub halved : (r n : ℕ) → r / 2 ^ suc n ≡ r / 2 ^ n / 2
halved r n = ap (λ k. r / 2 ^ k) (sym (add-one n)) ∙ sym (shr-shr r n 1)

pub halved_more : (r k : ℕ) → r / 2 ^ k / 2 ≡ r / 2 ^ (k + 1)
halved_more r k = shr-shr r k 1

-- a loop's step up, from a node that is a right one and from one that is a left one
module _
    (hashed : List ℕ → List ℕ) (I : List ℕ) (path : ℕ → List ℕ) (r : ℕ) (leaf : List ℕ) (k : ℕ)
  where
    up : (b : Bool) → eqb (r / 2 ^ k % 2) 1 ≡ b →
        cond b (inner_node hashed I (r / 2 ^ k / 2) (path k) (climbed hashed I path r leaf k)) (inner_node hashed I (r / 2 ^ k / 2) (climbed hashed I path r leaf k) (path k))
        ≡ climbed hashed I path r leaf (k + 1)
    unfolding climbed
    up b e =
        ap₂ (λ a n. cond a (inner_node hashed I n (path k) (climbed hashed I path r leaf k)) (inner_node hashed I n (climbed hashed I path r leaf k) (path k)))
        (sym e) (sym (halved r k))
        ∙ ap (climbed hashed I path r leaf) (sym (add-one k))

    pub climb_odd : {number : ℕ} {x next y : List ℕ} → number ≡ r / 2 ^ k → number % 2 ≡ 1 → x ≡ climbed hashed I path r leaf k → next ≡ path k → y ≡ inner_node hashed I (number / 2) next x →
        y ≡ climbed hashed I path r leaf (k + 1)
    climb_odd at o ex en ey =
        let t : eqb (r / 2 ^ k % 2) 1 ≡ true = eq-eqb (r / 2 ^ k % 2) 1 (ap (λ n. n % 2) (sym at) ∙ o) in
        ey ∙ (λ j. inner_node hashed I (at j / 2) (en j) (ex j)) ∙ up true t

    pub climb_even : {number : ℕ} {x next y : List ℕ} → number ≡ r / 2 ^ k → (number % 2 ≡ 1 → ⊥) → x ≡ climbed hashed I path r leaf k → next ≡ path k → y ≡ inner_node hashed I (number / 2) x next →
        y ≡ climbed hashed I path r leaf (k + 1)
    climb_even at o ex en ey =
        let t : eqb (r / 2 ^ k % 2) 1 ≡ false = ne_eqb (r / 2 ^ k % 2) 1 (λ e. o (ap (λ n. n % 2) at ∙ e)) in
        ey ∙ (λ j. inner_node hashed I (at j / 2) (ex j) (en j)) ∙ up false t

-- a climb reads its path below the top only
pub climbed_same : (hashed : List ℕ → List ℕ) (I : List ℕ) (path other : ℕ → List ℕ) (r : ℕ) (leaf : List ℕ) (n : ℕ) → ((k : ℕ) → k < n → path k ≡ other k) →
    climbed hashed I path r leaf n ≡ climbed hashed I other r leaf n
unfolding climbed
climbed_same hashed I path other r leaf zero s = refl
climbed_same hashed I path other r leaf (suc n) s =
    let e = s n (omega arith) in
    let f = climbed_same hashed I path other r leaf n (λ k l. s k (omega arith)) in
    λ j. cond (eqb (r / 2 ^ n % 2) 1) (inner_node hashed I (r / 2 ^ suc n) (e j) (f j)) (inner_node hashed I (r / 2 ^ suc n) (f j) (e j))

sibling : (x : ℕ) → bit_xor x 1 ≡ x / 2 * 2 + differ (x % 2) 1
sibling x = xor_step x 1 ∙ ap (λ y. y * 2 + differ (x % 2) 1) (xor_zero_r (x / 2))

pub of_odd : (x : ℕ) → x % 2 ≡ 1 → bit_xor x 1 ≡ 2 * (x / 2)
of_odd x h = sibling x ∙ ap (λ y. x / 2 * 2 + differ y 1) h ∙ omega arith

pub of_even : (x : ℕ) → x % 2 ≡ 0 → bit_xor x 1 ≡ 2 * (x / 2) + 1
of_even x h = sibling x ∙ ap (λ y. x / 2 * 2 + differ y 1) h ∙ omega arith

module _ (hashed : List ℕ → List ℕ) (I seed : List ℕ) (h w q : ℕ) where
  abbrev T : ℕ → ℕ → List ℕ
  T k r = node hashed I seed h w k r

  abbrev r₀ : ℕ
  r₀ = 2 ^ h + q

  -- one step up
  step : (n x : ℕ) →
      cond (eqb (x % 2) 1) (inner_node hashed I (x / 2) (T n (bit_xor x 1)) (T n x)) (inner_node hashed I (x / 2) (T n x) (T n (bit_xor x 1)))
      ≡ T (suc n) (x / 2)
  unfolding node
  step n x = go (eqb (x % 2) 1) refl
    where
      go : (b : Bool) → eqb (x % 2) 1 ≡ b →
          cond b (inner_node hashed I (x / 2) (T n (bit_xor x 1)) (T n x)) (inner_node hashed I (x / 2) (T n x) (T n (bit_xor x 1)))
          ≡ T (suc n) (x / 2)
      go true e =
          let o : x % 2 ≡ 1 = eqb-true (x % 2) 1 e in
          let m : x ≡ 2 * (x / 2) + 1 = omega arith in
          ap₂ (λ a b. inner_node hashed I (x / 2) (T n a) (T n b)) (of_odd x o) m
      go false e =
          let o : x % 2 ≡ 0 = omega (arith, eqb-false (x % 2) 1 e) in
          let m : x ≡ 2 * (x / 2) = omega arith in
          ap₂ (λ a b. inner_node hashed I (x / 2) (T n a) (T n b)) m (of_even x o)

  lift : (b : Bool) {e e' : ℕ} {s s' t t' : List ℕ} → e ≡ e' → s ≡ s' → t ≡ t' →
      cond b (inner_node hashed I e s t) (inner_node hashed I e t s) ≡ cond b (inner_node hashed I e' s' t') (inner_node hashed I e' t' s')
  lift b u v z = λ i. cond b (inner_node hashed I (u i) (v i) (z i)) (inner_node hashed I (u i) (z i) (v i))

  -- n levels up from the leaf
  climbs : (path : ℕ → List ℕ) (leaf : List ℕ) → leaf ≡ T 0 r₀ → (n : ℕ) → ((k : ℕ) → k < n → path k ≡ path_of hashed I seed h w q k) →
      climbed hashed I path r₀ leaf n ≡ T n (r₀ / 2 ^ n)
  unfolding climbed
  climbs path leaf l zero s = let e : r₀ ≡ r₀ / 1 = omega arith in l ∙ ap (T 0) e
  climbs path leaf l (suc n) s =
      lift (eqb (r₀ / 2 ^ n % 2) 1) (halved r₀ n) (s n (omega arith)) (climbs path leaf l n (λ k o. s k (omega arith)))
      ∙ step n (r₀ / 2 ^ n)
      ∙ ap (T (suc n)) (sym (halved r₀ n))

  -- up to the root
  pub up_to_root : q < 2 ^ h → (path : ℕ → List ℕ) (leaf : List ℕ) → leaf ≡ T 0 r₀ → ((k : ℕ) → k < h → path k ≡ path_of hashed I seed h w q k) →
      climbed hashed I path r₀ leaf h ≡ T h 1
  up_to_root o path leaf l s =
      let e : r₀ ≡ 1 * 2 ^ h + q = omega arith in
      climbs path leaf l h s ∙ ap (T h) (ap (λ r. r / 2 ^ h) e ∙ shr_high 1 h q o)

pub leaf_to_root : LeafToRoot
leaf_to_root hashed I seed h w q o path s = up_to_root hashed I seed h w q o path (node hashed I seed h w 0 (2 ^ h + q)) refl s

-- places of nodes: a node's two children, one level down
two_more : (k : ℕ) → (k ≡ 0 → ⊥) → 2 ^ k ≡ 2 * 2 ^ (k - 1)
two_more zero n = absurd (n refl)
two_more (suc k) n = let e : k ≡ suc k - 1 = omega arith in pow-succ' 2 k ∙ ap (λ j. 2 * 2 ^ j) e

pub left_place : (r k : ℕ) → (k ≡ 0 → ⊥) → 2 * r * 2 ^ (k - 1) ≡ r * 2 ^ k
left_place r k n = ap (λ x. x * 2 ^ (k - 1)) (mul_comm 2 r) ∙ mul_assoc r 2 (2 ^ (k - 1)) ∙ ap (λ x. r * x) (sym (two_more k n))

pub children : (h r k : ℕ) → (k ≡ 0 → ⊥) → 2 ^ h ≤ r * 2 ^ k → r * 2 ^ k + 2 ^ k ≤ 2 ^ h * 2 →
    (2 ^ h ≤ 2 * r * 2 ^ (k - 1)) × (2 * r * 2 ^ (k - 1) + 2 ^ (k - 1) ≤ 2 ^ h * 2)
    × (2 ^ h ≤ (2 * r + 1) * 2 ^ (k - 1)) × ((2 * r + 1) * 2 ^ (k - 1) + 2 ^ (k - 1) ≤ 2 ^ h * 2)
children h r k n low high =
    let t = two_more k n in
    let l = left_place r k n in
    let m : (2 * r + 1) * 2 ^ (k - 1) ≡ 2 * r * 2 ^ (k - 1) + 1 * 2 ^ (k - 1) = add-mul (2 * r) 1 (2 ^ (k - 1)) in
    (omega arith, omega arith, omega arith, omega arith)

module _ (hashed : List ℕ → List ℕ) (I seed : List ℕ) (h w : ℕ) where
  pub node_leaf : (k r : ℕ) → k ≡ 0 → leaf_node hashed I r (public_key hashed I seed w (r - 2 ^ h)) ≡ node hashed I seed h w k r
  unfolding node
  node_leaf k r e = ap (λ j. node hashed I seed h w j r) (sym e)

  pub node_inner : (k r : ℕ) → (k ≡ 0 → ⊥) →
      inner_node hashed I r (node hashed I seed h w (k - 1) (2 * r)) (node hashed I seed h w (k - 1) (2 * r + 1)) ≡ node hashed I seed h w k r
  unfolding node
  node_inner k r n = let e : suc (k - 1) ≡ k = omega arith in ap (λ j. node hashed I seed h w j r) e

-- a row of nodes, filled from the leaves down
placed_below : (h k r : ℕ) → Placed h k r → r < 2 ^ h * 2
placed_below h k r o =
    let z = pow_pos k in
    let m = mul-le r 1 r (2 ^ k) (omega arith) (omega arith) in
    omega (arith, o.1)

placed_leaf : (h k r : ℕ) → Placed h k r → 2 ^ h ≤ r → k ≡ 0
placed_leaf h zero r o l = refl
placed_leaf h (suc k) r o l =
    let e = pow-succ' 2 k in
    let z = pow_pos k in
    let m = mul-le r 2 r (2 ^ suc k) (omega arith) (omega arith) in
    absurd (omega (arith, o.1))

placed_inner : (h k r : ℕ) → Placed h k r → r < 2 ^ h → k ≡ 0 → ⊥
placed_inner h zero r o l e = omega (arith, o.0)
placed_inner h (suc k) r o l e = omega arith

module _ (hashed : List ℕ → List ℕ) (I seed : List ℕ) (h w : ℕ) where
  -- the leaves alone
  pub leaves_filled : (nodes : List (List ℕ)) → ((q : ℕ) → q < 2 ^ h → get_or nodes (2 ^ h + q) [] ≡ leaf_node hashed I (2 ^ h + q) (public_key hashed I seed w q)) →
      Filled hashed I seed h w (2 ^ h) nodes
  leaves_filled nodes leaves k r o l =
      let b = placed_below h k r o in
      let q : ℕ = r - 2 ^ h in
      let e : 2 ^ h + q ≡ r = omega arith in
      ap (λ n. get_or nodes n []) (sym e) ∙ leaves q (omega arith) ∙ ap (λ n. leaf_node hashed I n (public_key hashed I seed w q)) e
      ∙ node_leaf hashed I seed h w k r (placed_leaf h k r o l)

  -- one more node in front of those that are there
  put_more : (nodes : List (List ℕ)) (r : ℕ) (x : List ℕ) → r < length nodes → Filled hashed I seed h w (r + 1) nodes →
      ((k : ℕ) → Placed h k r → x ≡ node hashed I seed h w k r) → Filled hashed I seed h w r (set nodes r x)
  put_more nodes r x l old new k s o b =
      elim (cases_eq s r) [
        | inl e ↦ ap (λ i. get_or (set nodes r x) i []) e ∙ get_or-set_same nodes r x [] l ∙ new k (subst (Placed h k) e o) ∙ ap (node hashed I seed h w k) (sym e)
        | inr n ↦ get_or-set_other nodes r s x [] n ∙ old k s o (omega arith)
      ]

  pub inner_more : (nodes : List (List ℕ)) (r : ℕ) (x : List ℕ) → r < length nodes → Filled hashed I seed h w (r + 1) nodes → 0 < r → r < 2 ^ h →
      x ≡ inner_node hashed I r (get_or nodes (2 * r) []) (get_or nodes (2 * r + 1) []) → Filled hashed I seed h w r (set nodes r x)
  inner_more nodes r x l old pos b e =
      put_more nodes r x l old
      (λ k o.
      let n = placed_inner h k r o b in
      let c = children h r k n o.0 o.1 in
      e
      ∙ ap₂ (inner_node hashed I r) (old (k - 1) (2 * r) (c.0, c.1) (omega arith)) (old (k - 1) (2 * r + 1) (c.2, c.3) (omega arith))
      ∙ node_inner hashed I seed h w k r n)

-- a path's nodes have their places
above_placed : (h q k : ℕ) → q < 2 ^ h → k < h → Placed h (k + 1) ((2 ^ h + q) / 2 ^ (k + 1))
above_placed h q k l o =
    let D = 2 ^ (k + 1) in
    let M = 2 ^ (h - (k + 1)) in
    let y = (2 ^ h + q) / D in
    let s : h ≡ h - (k + 1) + (k + 1) = omega arith in
    let e : 2 ^ h ≡ M * D = ap (λ n. 2 ^ n) s ∙ pow-add 2 (h - (k + 1)) (k + 1) in
    let d : (M * 2) * D ≡ M * D * 2 = mul_assoc M 2 D ∙ ap (λ x. M * x) (mul_comm 2 D) ∙ sym (mul_assoc M D 2) in
    let a : M ≤ y = le-div M (2 ^ h + q) D (pow_pos (k + 1)) (omega arith) in
    let b : y < M * 2 = div_below (2 ^ h + q) D (M * 2) (pow_pos (k + 1)) (omega arith) in
    let x = mul-le M D y D a (omega arith) in
    let z = mul-le (y + 1) D (M * 2) D (omega arith) (omega arith) in
    let t = add-mul y 1 D in
    (omega arith, omega arith)

pub sibling_placed : (h q k : ℕ) → q < 2 ^ h → k < h → Placed h k (bit_xor ((2 ^ h + q) / 2 ^ k) 1)
sibling_placed h q k l o =
    let x = (2 ^ h + q) / 2 ^ k in
    let e : (2 ^ h + q) / 2 ^ (k + 1) ≡ x / 2 = sym (halved_more (2 ^ h + q) k) in
    let p = subst (Placed h (k + 1)) e (above_placed h q k l o) in
    let f : k + 1 - 1 ≡ k = omega arith in
    let c = children h (x / 2) (k + 1) (λ z. omega arith) p.0 p.1 in
    elim (cases_eq (x % 2) 1) [
      | inl i ↦ subst₂ (Placed h) f (sym (of_odd x i)) (c.0, c.1)
      | inr i ↦ (let z : x % 2 ≡ 0 = omega arith in subst₂ (Placed h) f (sym (of_even x z)) (c.2, c.3))
    ]

pub sibling_inside : (h q k : ℕ) → q < 2 ^ h → k < h → bit_xor ((2 ^ h + q) / 2 ^ k) 1 < 2 ^ h * 2
sibling_inside h q k l o = placed_below h k (bit_xor ((2 ^ h + q) / 2 ^ k) 1) (sibling_placed h q k l o)

placed_pos : (h k r : ℕ) → Placed h k r → 1 ≤ r
placed_pos h k r o =
    elim (cases_eq r 0) [
      | inl e ↦
          (let z : r * 2 ^ k ≡ 0 = ap (λ n. n * 2 ^ k) e ∙ zero-mul (2 ^ k) in
          let p = pow_pos h in
          absurd (omega (arith, o.0)))
      | inr n ↦ omega arith
    ]

-- the path of leaf q, read from the nodes
abbrev pub kept_path : List (List ℕ) → ℕ → ℕ → ℕ → List ℕ
kept_path nodes h q k = get_or nodes (bit_xor ((2 ^ h + q) / 2 ^ k) 1) []

-- what is read of a tree's nodes
module _ (hashed : List ℕ → List ℕ) (I seed : List ℕ) (h w : ℕ) (nodes : List (List ℕ)) (f : Filled hashed I seed h w 1 nodes) where
  pub top_is_root : get_or nodes 1 [] ≡ node hashed I seed h w h 1
  top_is_root = f h 1 (omega arith, omega arith) (omega arith)

  pub kept_is_path : (q k : ℕ) → q < 2 ^ h → k < h → kept_path nodes h q k ≡ path_of hashed I seed h w q k
  kept_is_path q k l o =
      let r = bit_xor ((2 ^ h + q) / 2 ^ k) 1 in
      let at = sibling_placed h q k l o in
      f k r at (placed_pos h k r at)
