-- The key ranges of a plan, and who owns a key, from each group's first key and count alone.
use Rattle.std.proofs.Common.{◌≡◌, ℕ, zero, suc, ◌+◌, ◌<◌, ◌≤◌, true, false, ltb, leb, ◌⊎◌, List, map, length, Some, None, Option, sym, refl, ap, ◌∙◌, subst, inl, inr, ⊎_elim, arith}
use Rattle.std.proofs.lemmas.Bool.{and_parts, and_from, cases_Bool, cases_order, cases_lt, cond-true, cond-false, leb-true, le-leb, ltb-true, lt-ltb, true≢false}
use Rattle.std.specs.List.{find, range_with_len}
use Rattle.std.specs.Option.{option_map}
use Rattle.std.proofs.lemmas.Option.{none-some}
use Rattle.plan.specs.Shape.{Shape}
use Rattle.plan.specs.Keys.{first_key, key_count, Owns, in_range, owner_from, owner}
use Rattle.plan.specs.Groups.{group_of, owns_key}
use Rattle.plan.specs.Laws.{Ranges, TenGroups, ten_groups}
use Rattle.plan.proofs.Shares.{Shared, shared, ten}

pub range_from : (first count key : ℕ) → first ≤ key → key < first + count → in_range first count key ≡ true
range_from first count key low high = and_from _ _ (le-leb first key low) (lt-ltb key (first + count) high)

pub range_parts : (first count key : ℕ) → in_range first count key ≡ true → (first ≤ key) × (key < first + count)
range_parts first count key h = let p = and_parts (leb first key) (ltb key (first + count)) h in (leb-true _ _ p.0, ltb-true _ _ p.1)

-- a group's range ends before those of later groups begin
pub later : (p : Shape) → ((g : ℕ) → g < length p.masks → first_key p (suc g) ≡ first_key p g + key_count p g)
    → (g k : ℕ) → g < k → k ≤ length p.masks → first_key p g + key_count p g ≤ first_key p k
later p follows g zero l top = absurd (omega arith)
later p follows g (suc k) l top =
    ⊎_elim
    (λ (b : g < k). omega (arith, later p follows g k b (omega arith), follows k (omega arith)))
    (λ (e : k ≤ g). let same : g ≡ k = omega arith in omega (arith, follows k (omega arith), ap (first_key p) same, ap (key_count p) same))
    (cases_lt g k)

module _ (p : Shape) where
  abbrev m : ℕ
  m = length p.masks

  pub owner_finds : (g k key j : ℕ) → owner_from p g k key ≡ Some j → (g ≤ j) × (j < g + k) × (in_range (first_key p j) (key_count p j) key ≡ true)
  unfolding owner_from
  owner_finds g zero key j h = absurd (none-some j h)
  owner_finds g (suc k) key j h =
      let test = in_range (first_key p g) (key_count p g) key in
      ⊎_elim
      (λ (e : test ≡ true).
      let s : Some g ≡ Some j = sym (cond-true test (Some g) (owner_from p (g + 1) k key) e) ∙ h in
      let gj : g ≡ j = cc in
      (omega arith, omega arith, subst (λ i. in_range (first_key p i) (key_count p i) key ≡ true) gj e))
      (λ (e : test ≡ false). let r = owner_finds (g + 1) k key j (sym (cond-false test (Some g) (owner_from p (g + 1) k key) e) ∙ h) in (omega (arith, r.0), omega (arith, r.1), r.2))
      (cases_Bool test)

  pub owner_owns : (g key : ℕ) → owner p key ≡ Some g → Owns p g key
  owner_owns g key h = let r = owner_finds 0 m key g h in let q = range_parts (first_key p g) (key_count p g) key r.2 in (omega (arith, r.1), q.0, q.1)

  module _ (s : Shared p) where
    disjoint : (g k key : ℕ) → Owns p g key → Owns p k key → g ≡ k
    disjoint g k key a b =
        ⊎_elim (λ (e : g ≡ k). e) (λ (o : (g < k) ⊎ (k < g)). ⊎_elim (λ (l : g < k). absurd (omega (arith, later p s.follows g k l (omega (arith, b.0)), a.2, b.1))) (λ (l : k < g). absurd (omega (arith, later p s.follows k g l (omega (arith, a.0)), b.2, a.1))) o) (cases_order g k)

    owner_found : (g k key j : ℕ) → g ≤ j → j < g + k → g + k ≤ m → Owns p j key → owner_from p g k key ≡ Some j
    unfolding owner_from
    owner_found g zero key j low high top o = absurd (omega arith)
    owner_found g (suc k) key j low high top o =
        let test = in_range (first_key p g) (key_count p g) key in
        ⊎_elim
        (λ (e : test ≡ true).
        let r = range_parts (first_key p g) (key_count p g) key e in
        cond-true test (Some g) (owner_from p (g + 1) k key) e ∙ ap (λ i. Some i) (disjoint g j key (omega arith, r.0, r.1) o))
        (λ (e : test ≡ false).
        let ne : g ≡ j → ⊥ = λ gj. absurd (true≢false (sym (range_from (first_key p g) (key_count p g) key (subst (λ i. first_key p i ≤ key) (sym gj) o.1) (subst (λ i. key < first_key p i + key_count p i) (sym gj) o.2)) ∙ e)) in
        cond-false test (Some g) (owner_from p (g + 1) k key) e ∙ owner_found (g + 1) k key j (after low ne) (omega arith) (omega arith) o)
        (cases_Bool test)
      where
        after : {a b : ℕ} → a ≤ b → (a ≡ b → ⊥) → a + 1 ≤ b
        after {a} {b} l n = ⊎_elim (λ (e : a ≡ b). absurd (n e)) (λ (o : (a < b) ⊎ (b < a)). ⊎_elim (λ (x : a < b). omega arith) (λ (x : b < a). omega arith) o) (cases_order a b)

    owns_owner : (g key : ℕ) → Owns p g key → owner p key ≡ Some g
    owns_owner g key o = owner_found 0 m key g (omega arith) (omega (arith, o.0)) (omega arith) o

    inside : (g key : ℕ) → Owns p g key → key < first_key p m
    inside g key o = omega (arith, later p s.follows g m o.0 (omega arith), o.2)

    unowned : (key : ℕ) → first_key p m ≤ key → owner p key ≡ None
    unowned key h = none (owner p key) (λ g e. omega (arith, inside g key (owner_owns g key e)))
      where
        none : (o : Option ℕ) → ((g : ℕ) → o ≡ Some g → ⊥) → o ≡ None
        none None f = refl
        none (Some g) f = absurd (f g refl)

    -- a key below the first of group n is owned by one of the groups before it
    covered : (n key : ℕ) → n ≤ m → key < first_key p n → (g : ℕ) × Owns p g key
    covered zero key l low = absurd (omega (arith, s.starts))
    covered (suc n) key l low =
        ⊎_elim
        (λ (b : key < first_key p n). covered n key (omega arith) b)
        (λ (h : first_key p n ≤ key). (n, (omega arith, h, omega (arith, s.follows n (omega arith)))))
        (cases_lt key (first_key p n))

    pub ranges : Ranges p
    ranges = record {
      equal = λ g l. refl;
      some = s.some;
      starts = s.starts;
      follows = s.follows;
      disjoint = disjoint;
      rising = λ g k a b l x y. omega (arith, later p s.follows g k l (omega (arith, y.0)), x.2, y.1);
      covered = λ key l. ⊎_elim (λ (b : key < first_key p m). inl (covered m key (omega arith) b)) (λ (h : first_key p m ≤ key). inr h) (cases_lt key (first_key p m));
      inside = inside;
      rest = omega (arith, s.fits);
      owner_owns = owner_owns;
      owns_owner = owns_owner;
      unowned = unowned;
    }

-- with ten groups
pub ten_hold : TenGroups
ten_hold = record {
  count = λ masks e g l. (ten masks e g).0;
  last = λ masks e. let t = ten masks e 9 in owns_owner (ten_groups masks) (ten_shared masks e) 9 1019 (omega arith, omega (arith, t.1), omega (arith, t.0, t.1));
  past = λ masks e. unowned (ten_groups masks) (ten_shared masks e) 1020 (omega (arith, ap (first_key (ten_groups masks)) e, (ten masks e 10).1));
}
  where
    ten_shared : (masks : List ℕ) → length masks ≡ 10 → Shared (ten_groups masks)
    ten_shared masks e = shared (ten_groups masks) (omega arith) (omega arith)

-- the first group that has the key is the owner
pub found_owner : (p : Shape) (g k key : ℕ) → find (λ x. owns_key x key) (map (group_of p) (range_with_len g k)) ≡ option_map (group_of p) (owner_from p g k key)
unfolding owner_from
found_owner p g zero key = refl
found_owner p g (suc k) key =
    let test = in_range (first_key p g) (key_count p g) key in
    let rest = found_owner p (g + 1) k key in
    ⊎_elim
    (λ (e : test ≡ true). cond-true test _ _ e ∙ sym (ap (option_map (group_of p)) (cond-true test (Some g) (owner_from p (g + 1) k key) e)))
    (λ (e : test ≡ false). cond-false test _ _ e ∙ rest ∙ sym (ap (option_map (group_of p)) (cond-false test (Some g) (owner_from p (g + 1) k key) e)))
    (cases_Bool test)
