-- How many numbers of a range are spent or free, and what one more spent number adds.
use Rattle.std.proofs.Common.{◌≡◌, ℕ, zero, suc, ◌+◌, ◌^◌, ◌≤◌, Bool, true, false, cond, not, ◌||◌, eqb, leb, List, [], ◌∷◌, length, count_by, refl, ap, ◌∙◌, ⊎_elim, zero-add, arith}
use Rattle.std.specs.List.{range_with_len, AllByRecursion as All}
use Rattle.std.proofs.lemmas.Bool.{cases_eq, eq-eqb, ne_eqb, lt-leb}
use Rattle.std.proofs.lemmas.Bool.Decides.{nat_tests}
use Rattle.std.proofs.lemmas.List.FromFn.{length-range_with_len}
use Rattle.std.proofs.lemmas.List.Sums.{sum_by-cons}
use Rattle.ledger.specs.Standing.{Standing, Fresh}
use Rattle.ledger.specs.Spend.{with_key}
use Rattle.ledger.specs.Counts.{in_range, spent_in, free_in}

-- the first number's share of a count
pub count-cons : (p : ℕ → Bool) (k : ℕ) (ks : List ℕ) → count_by p (k ∷ ks) ≡ cond (p k) 1 0 + count_by p ks
count-cons p k ks = sum_by-cons (λ k. cond (p k) 1 0) k ks

-- each number passes a test or fails it
passed_or_not : (p : ℕ → Bool) (ks : List ℕ) → count_by (λ k. not (p k)) ks + count_by p ks ≡ length ks
passed_or_not p [] = refl
passed_or_not p (k ∷ ks) =
    let one : cond (not (p k)) 1 0 + cond (p k) 1 0 ≡ 1 = elim (p k) as (λ b. cond (not b) 1 0 + cond b 1 0 ≡ 1) [ true ↦ refl | false ↦ refl ] in
    omega (arith, one, passed_or_not p ks, count-cons p k ks, count-cons (λ k. not (p k)) k ks)

pub whole : (s : Standing) (first count : ℕ) → free_in s first count + spent_in s first count ≡ count
unfolding free_in spent_in
whole s first count = passed_or_not s.spent (range_with_len first count) ∙ length-range_with_len first count

-- one number's share where one more passes
with_one_at : (p : ℕ → Bool) (key k : ℕ) → p key ≡ false → cond (eqb k key || p k) 1 0 ≡ cond (p k) 1 0 + cond (eqb k key) 1 0
with_one_at p key k free =
    ⊎_elim
    (λ (e : k ≡ key). let f : p k ≡ false = ap p e ∙ free in rw (eq-eqb k key e, f) refl)
    (λ (ne : k ≡ key → ⊥). rw (ne_eqb k key ne) (omega arith))
    (cases_eq k key)

with_one : (p : ℕ → Bool) (key : ℕ) → p key ≡ false → (ks : List ℕ) → count_by (λ k. eqb k key || p k) ks ≡ count_by p ks + count_by (λ k. eqb k key) ks
with_one p key free [] = refl
with_one p key free (k ∷ ks) =
    omega (arith, with_one_at p key k free, with_one p key free ks, count-cons p k ks, count-cons (λ k. eqb k key || p k) k ks, count-cons (λ k. eqb k key) k ks)

-- a number stands once in a range that it is in
once_in : (count first key : ℕ) → count_by (λ k. eqb k key) (range_with_len first count) ≡ cond (in_range first count key) 1 0
once_in zero first key = grind (arith, nat_tests)
once_in (suc n) first key =
    let rest = once_in n (first + 1) key in
    count-cons (λ k. eqb k key) first (range_with_len (first + 1) n) ∙ ap (λ m. cond (eqb first key) 1 0 + m) rest ∙ grind (arith, nat_tests)

-- a spend adds one to the spent numbers of a range that its key is in
pub spent_more : (before after : Standing) (key first count : ℕ) → before.spent key ≡ false → ((k : ℕ) → after.spent k ≡ with_key before key k) →
    spent_in after first count ≡ spent_in before first count + cond (in_range first count key) 1 0
unfolding spent_in
spent_more before after key first count free keys =
    ap (λ (p : ℕ → Bool). count_by p (range_with_len first count)) (λ i k. keys k i)
    ∙ with_one before.spent key free (range_with_len first count)
    ∙ ap (λ m. count_by before.spent (range_with_len first count) + m) (once_in count first key)

-- nothing below 2 ^ h is spent on a ledger that is made new
none_below : (limit count first : ℕ) → first + count ≤ limit → count_by (λ k. leb limit k) (range_with_len first count) ≡ 0
none_below limit zero first h = refl
none_below limit (suc n) first h =
    count-cons (λ k. leb limit k) first (range_with_len (first + 1) n)
    ∙ ap (λ b. cond b 1 0 + count_by (λ k. leb limit k) (range_with_len (first + 1) n)) (lt-leb limit first (omega arith))
    ∙ zero-add _
    ∙ none_below limit n (first + 1) (omega arith)

pub fresh_count : (s : Standing) (h : ℕ) → Fresh h s → spent_in s 0 (2 ^ h) ≡ 0
unfolding spent_in
fresh_count s h fresh = ap (λ (p : ℕ → Bool). count_by p (range_with_len 0 (2 ^ h))) (λ i k. fresh k i) ∙ none_below (2 ^ h) (2 ^ h) 0 (omega arith)

-- all are counted where all pass
pub all_counted : (p : ℕ → Bool) (ks : List ℕ) → All (λ k. p k ≡ true) ks → count_by p ks ≡ length ks
all_counted p [] a = refl
all_counted p (k ∷ ks) a = omega (arith, ap {B = ℕ} (λ b. cond b 1 0) a.0, all_counted p ks a.1, count-cons p k ks)
