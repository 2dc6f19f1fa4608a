-- Which numbers are widths.
use Rattle.std.proofs.Common.{◌≡◌, ℕ, true, ◌||◌, eqb, sym, refl, ⊎_elim, arith}
use Rattle.std.proofs.lemmas.Bool.{eqb-true, or_cases}
use Rattle.sizes.specs.declared.width.Width.{Width}
use Rattle.sizes.specs.declared.width.Width.TheVariants.{One, Two, Four, Eight}
use Rattle.sizes.specs.Sizes.{bits, is_width}

-- the bits of a width are a number that is one
pub width_is : (w : Width) → is_width (bits w) ≡ true
width_is One = refl
width_is Two = refl
width_is Four = refl
width_is Eight = refl

-- a number that is a width is the bits of one
pub width_of : (n : ℕ) → is_width n ≡ true → (w : Width) × (bits w ≡ n)
width_of n h =
    ⊎_elim (λ (e : eqb n 1 ≡ true). (One, sym (eqb-true n 1 e))) (λ (o : (eqb n 2 || (eqb n 4 || eqb n 8)) ≡ true).
    ⊎_elim (λ (e : eqb n 2 ≡ true). (Two, sym (eqb-true n 2 e))) (λ (p : (eqb n 4 || eqb n 8) ≡ true).
    ⊎_elim (λ (e : eqb n 4 ≡ true). (Four, sym (eqb-true n 4 e))) (λ (e : eqb n 8 ≡ true). (Eight, sym (eqb-true n 8 e)))
    (or_cases _ _ p)) (or_cases _ _ o)) (or_cases _ _ h)

-- and of no other
pub one_width : (w x : Width) → bits w ≡ bits x → w ≡ x
one_width One One e = refl
one_width Two Two e = refl
one_width Four Four e = refl
one_width Eight Eight e = refl
one_width One Two e = absurd (omega arith)
one_width One Four e = absurd (omega arith)
one_width One Eight e = absurd (omega arith)
one_width Two One e = absurd (omega arith)
one_width Two Four e = absurd (omega arith)
one_width Two Eight e = absurd (omega arith)
one_width Four One e = absurd (omega arith)
one_width Four Two e = absurd (omega arith)
one_width Four Eight e = absurd (omega arith)
one_width Eight One e = absurd (omega arith)
one_width Eight Two e = absurd (omega arith)
one_width Eight Four e = absurd (omega arith)
