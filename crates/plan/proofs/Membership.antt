-- The members of a plan's groups are some of its trustees.
use Rattle.std.proofs.Common.{◌≡◌, ℕ, zero, suc, ◌+◌, ◌*◌, ◌/◌, ◌%◌, ◌^◌, ◌<◌, ◌≤◌, ◌≢◌, ◌-◌, false, eqb, leb, ◌⊎◌, List, [], ◌∷◌, length, get_or, sym, refl, ap, ◌∙◌, ⊎_elim, arith, pow_mono}
use native.Mathlib.Nat.{pow-succ'}
use Rattle.std.proofs.lemmas.Bool.{and_parts, cond_both, cases_order, leb-true, eq-eqb, true≢false}
use Rattle.plan.specs.declared.group.Group.{Group}
use Rattle.plan.specs.Shape.{Shape, Valid}
use Rattle.plan.specs.Members.{members, members_from}
use Rattle.plan.specs.Groups.{IsOfPlan}
use Rattle.plan.specs.Laws.{AreTrustees, Membership}
use Rattle.plan.specs.declared.plans.Plan.{Plan}
use Rattle.plan.specs.View.{view}
use Rattle.plan.proofs.Found.{group_found, plan_valid}
use Rattle.plan.proofs.Seats.{above, climbs, climbing_members}

-- no bit, no member
pub members_zero : (k t : ℕ) → members_from k t 0 ≡ []
members_zero zero t = refl
members_zero (suc k) t = members_zero k (t + 1)

-- as many as bits are looked at, at most
few_from : (k t mask : ℕ) → length (members_from k t mask) ≤ k
few_from zero t mask = omega arith
few_from (suc k) t mask =
    let rest = few_from k (t + 1) (mask / 2) in
    cond_both (eqb (mask % 2) 1) (t ∷ members_from k (t + 1) (mask / 2)) (members_from k (t + 1) (mask / 2)) (λ xs. length xs ≤ suc k)
    (λ e. omega (arith, rest))
    (λ e. omega (arith, rest))

pub members_few : (mask : ℕ) → length (members mask) ≤ 8
unfolding members
members_few mask = few_from 8 1 mask

-- some bit, some member
some_from : (k t mask : ℕ) → 1 ≤ mask → mask < 2 ^ k → 1 ≤ length (members_from k t mask)
some_from zero t mask low high = absurd (omega arith)
some_from (suc k) t mask low high =
    let half : mask < 2 * 2 ^ k = omega (arith, pow-succ' 2 k) in
    cond_both (eqb (mask % 2) 1) (t ∷ members_from k (t + 1) (mask / 2)) (members_from k (t + 1) (mask / 2)) (λ xs. 1 ≤ length xs)
    (λ e. omega arith)
    (λ e. some_from k (t + 1) (mask / 2) (omega (arith, even (mask % 2) e)) (omega arith))
  where
    even : (r : ℕ) → eqb r 1 ≡ false → r ≢ 1
    even r e x = absurd (true≢false (sym (eq-eqb r 1 x) ∙ e))

pub members_some : (mask : ℕ) → 1 ≤ mask → mask < 256 → 1 ≤ length (members mask)
unfolding members
members_some mask low high = some_from 8 1 mask low high

-- a mask below 2^n has bits of n trustees alone
under_from : (k t n mask : ℕ) → mask < 2 ^ n → (i : ℕ) → i < length (members_from k t mask) → get_or (members_from k t mask) i 0 < t + n
under_from zero t n mask high i l = absurd (omega arith)
under_from (suc k) t zero mask high i l =
    let none : mask ≡ 0 = omega arith in
    absurd (omega (arith, l, ap (λ x. length (members_from (suc k) t x)) none, ap length (members_zero (suc k) t)))
under_from (suc k) t (suc n) mask high i l =
    let half : mask < 2 * 2 ^ n = omega (arith, pow-succ' 2 n) in
    let later = under_from k (t + 1) n (mask / 2) (omega arith) in
    let P : List ℕ → Type 0 = λ xs. i < length xs → get_or xs i 0 < t + suc n in
    cond_both (eqb (mask % 2) 1) (t ∷ members_from k (t + 1) (mask / 2)) (members_from k (t + 1) (mask / 2)) P
    (λ e. first (members_from k (t + 1) (mask / 2)) later i)
    (λ e m. omega (arith, later i m))
    l
  where
    first : (xs : List ℕ) → ((j : ℕ) → j < length xs → get_or xs j 0 < (t + 1) + n) → (j : ℕ) → j < length (t ∷ xs) → get_or (t ∷ xs) j 0 < t + suc n
    first xs h zero m = omega arith
    first xs h (suc j) m = omega (arith, h j (omega arith))

-- numbers that rise from one on are at least their places
counted : (xs : List ℕ) → ((i j : ℕ) → i < j → j < length xs → get_or xs i 0 < get_or xs j 0) → ((i : ℕ) → i < length xs → 1 ≤ get_or xs i 0)
    → (i : ℕ) → i < length xs → i + 1 ≤ get_or xs i 0
counted xs rising low zero l = low 0 l
counted xs rising low (suc i) l = omega (arith, counted xs rising low i (omega arith), rising i (suc i) (omega arith) l)

pub trustees : (n mask : ℕ) → n ≤ 8 → 1 ≤ mask → mask < 2 ^ n → AreTrustees n (members mask)
unfolding members
trustees n mask eight low high =
    let top = pow_mono eight in
    let small : mask < 256 = omega arith in
    let ms = members mask in
    let rising : (i j : ℕ) → i < j → j < length ms → get_or ms i 0 < get_or ms j 0 = climbs ms (climbing_members 8 1 mask) in
    let one : (i : ℕ) → i < length ms → 1 ≤ get_or ms i 0 = above 8 1 mask in
    let most : (i : ℕ) → i < length ms → get_or ms i 0 ≤ n = λ i l. omega (arith, under_from 8 1 n mask high i l) in
    let some = members_some mask low small in
    record {
      some = some;
      few = omega (arith, counted ms rising one (length ms - 1) (omega arith), most (length ms - 1) (omega arith));
      eight = members_few mask;
      from_one = one;
      to_n = most;
      rising = rising;
      once = λ i j li lj e. ⊎_elim (λ (same : i ≡ j). same) (λ (o : (i < j) ⊎ (j < i)). ⊎_elim (λ (l : i < j). absurd (omega (arith, rising i j l lj))) (λ (l : j < i). absurd (omega (arith, rising j i l li))) o) (cases_order i j);
    }

pub membership : (p : Shape) → Valid p → Membership p
membership p v = record {
  each = λ g l. let in' = v.within g l in trustees p.trustees (get_or p.masks g 0) (leb-true p.trustees 8 (and_parts (leb 1 p.trustees) (leb p.trustees 8) v.trustees_in).1) in'.0 in'.1;
}

-- a group of a plan has a member
pub of_plan_some : (group : Group) → IsOfPlan group → 1 ≤ length (members group.mask)
of_plan_some group o =
    let p = o.0 in
    let n = o.1 in
    let found = group_found p n group (sym o.3) in
    omega (arith, ((membership p o.2).each n found.0).some, ap (λ (x : Group). length (members x.mask)) found.1)

pub plan_membership : (p : Plan) → Membership (view p)
plan_membership p = membership (view p) (plan_valid p)
