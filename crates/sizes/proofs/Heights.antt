-- Which numbers are heights, how high a tree is at most, and how many keys it has.
use Rattle.std.proofs.Common.{◌≡◌, ℕ, ◌^◌, ◌≤◌, true, eqb, sym, refl, ⊎_elim, arith}
use Rattle.std.proofs.lemmas.Bool.{eqb-true, or_cases}
use Rattle.sizes.specs.declared.height.Height.{Height}
use Rattle.sizes.specs.declared.height.Height.TheVariants.{Five, Ten}
use Rattle.sizes.specs.Sizes.{levels, is_height}

pub levels_most : (h : Height) → levels h ≤ 10
levels_most Five = omega arith
levels_most Ten = omega arith

pub keys_most : (h : Height) → 2 ^ levels h ≤ 1024
keys_most Five = omega arith
keys_most Ten = omega arith

-- the levels of a height are a number that is one
pub height_is : (h : Height) → is_height (levels h) ≡ true
height_is Five = refl
height_is Ten = refl

-- a number that is a height is the levels of one
pub height_of : (n : ℕ) → is_height n ≡ true → (h : Height) × (levels h ≡ n)
height_of n h = ⊎_elim (λ (e : eqb n 5 ≡ true). (Five, sym (eqb-true n 5 e))) (λ (e : eqb n 10 ≡ true). (Ten, sym (eqb-true n 10 e))) (or_cases _ _ h)

-- and of no other
pub one_height : (h k : Height) → levels h ≡ levels k → h ≡ k
one_height Five Five e = refl
one_height Ten Ten e = refl
one_height Five Ten e = absurd (omega arith)
one_height Ten Five e = absurd (omega arith)
