-- The place of a field, and the ranges of the heading's numbers.
use Rattle.std.proofs.Common.{◌≡◌, ℕ, ◌+◌, ◌-◌, ◌*◌, ◌≤◌, true, sym, ap, ◌∙◌, mul-one, mul-add, arith}
use Rattle.std.proofs.lemmas.Bool.{and_parts, leb-true}
use Rattle.plan.specs.Shape.{is_trustees, is_groups}

-- the place of a field ends a field further on
pub place_next : (w f : ℕ) → 1 ≤ f → w * (f - 1) + w ≡ w * f
place_next w f h = let e : (f - 1) + 1 ≡ f = omega arith in sym (mul-add w (f - 1) 1 ∙ ap (λ x. w * (f - 1) + x) (mul-one w)) ∙ ap (λ k. w * k) e

pub trustees_most : (n : ℕ) → is_trustees n ≡ true → n ≤ 8
trustees_most n h = leb-true n 8 (and_parts _ _ h).1

pub groups_most : (m : ℕ) → is_groups m ≡ true → m ≤ 70
groups_most m h = leb-true m 70 (and_parts _ _ h).1

pub groups_least : (m : ℕ) → is_groups m ≡ true → 1 ≤ m
groups_least m h = leb-true 1 m (and_parts _ _ h).0
