-- Codes and numbers read back.
use Rattle.std.proofs.Common.{◌≡◌, ℕ, ◌+◌, ◌*◌, ◌/◌, ◌^◌, ◌<◌, Bool, true, false, cond, eqb, Some, None, refl, arith}
use Rattle.std.proofs.lemmas.Bool.{eqb-true, false≢true}
use Rattle.std.proofs.lemmas.Bool.Decides.{nat_tests}
use Rattle.sizes.specs.declared.height.Height.{Height}
use Rattle.sizes.specs.declared.height.Height.TheVariants.{Five, Ten}
use Rattle.sizes.specs.declared.width.Width.{Width}
use Rattle.sizes.specs.declared.width.Width.TheVariants.{One, Two, Four, Eight}
use Rattle.sizes.specs.Sizes.{levels, bits}
use Rattle.lms.specs.Lms.{ots_code, tree_code, width_of, height_of, given}

pub width_back : (ots : ℕ) (width : Width) → width_of ots (ots_code ots (bits width)) ≡ Some (bits width)
width_back ots One = grind (arith, nat_tests)
width_back ots Two = grind (arith, nat_tests)
width_back ots Four = grind (arith, nat_tests)
width_back ots Eight = grind (arith, nat_tests)

pub height_back : (tree : ℕ) (height : Height) → height_of tree (tree_code tree (levels height)) ≡ Some (levels height)
height_back tree Five = grind (arith, nat_tests)
height_back tree Ten = grind (arith, nat_tests)

pub ots_code_small : (ots w : ℕ) → ots < 2 ^ 16 → ots_code ots w < 2 ^ 32
ots_code_small ots w h = grind (arith, nat_tests)

pub tree_code_small : (tree h : ℕ) → tree < 2 ^ 16 → tree_code tree h < 2 ^ 32
tree_code_small tree h o = grind (arith, nat_tests)

pub number_small : (height : Height) (q : ℕ) → q < 2 ^ levels height → q < 2 ^ 32
number_small Five q l = omega arith
number_small Ten q l = omega arith

-- a code that passes a test stands for a height, or for a width
pub height_given : (tree c : ℕ) (f : ℕ → Bool) → given (height_of tree c) f ≡ true → (height : Height) × (c ≡ tree_code tree (levels height)) × (f (levels height) ≡ true)
height_given tree c f = five (eqb c tree) refl
  where
    ten : (b : Bool) → eqb c (tree + 1) ≡ b → given (cond b (Some 10) None) f ≡ true → (height : Height) × (c ≡ tree_code tree (levels height)) × (f (levels height) ≡ true)
    ten true e h = (Ten, eqb-true c (tree + 1) e, h)
    ten false e h = absurd (false≢true h)

    five : (b : Bool) → eqb c tree ≡ b → given (cond b (Some 5) (cond (eqb c (tree + 1)) (Some 10) None)) f ≡ true →
        (height : Height) × (c ≡ tree_code tree (levels height)) × (f (levels height) ≡ true)
    five true e h = let z = eqb-true c tree e in (Five, omega arith, h)
    five false e h = ten (eqb c (tree + 1)) refl h

pub width_given : (ots c : ℕ) (f : ℕ → Bool) → given (width_of ots c) f ≡ true → (width : Width) × (c ≡ ots_code ots (bits width)) × (f (bits width) ≡ true)
width_given ots c f = one (eqb c ots) refl
  where
    Found : Type 0
    Found = (width : Width) × (c ≡ ots_code ots (bits width)) × (f (bits width) ≡ true)

    eight : (b : Bool) → eqb c (ots + 3) ≡ b → given (cond b (Some 8) None) f ≡ true → Found
    eight true e h = (Eight, eqb-true c (ots + 3) e, h)
    eight false e h = absurd (false≢true h)

    four : (b : Bool) → eqb c (ots + 2) ≡ b → given (cond b (Some 4) (cond (eqb c (ots + 3)) (Some 8) None)) f ≡ true → Found
    four true e h = (Four, eqb-true c (ots + 2) e, h)
    four false e h = eight (eqb c (ots + 3)) refl h

    two : (b : Bool) → eqb c (ots + 1) ≡ b → given (cond b (Some 2) (cond (eqb c (ots + 2)) (Some 4) (cond (eqb c (ots + 3)) (Some 8) None))) f ≡ true → Found
    two true e h = (Two, eqb-true c (ots + 1) e, h)
    two false e h = four (eqb c (ots + 2)) refl h

    one : (b : Bool) → eqb c ots ≡ b → given (cond b (Some 1) (cond (eqb c (ots + 1)) (Some 2) (cond (eqb c (ots + 2)) (Some 4) (cond (eqb c (ots + 3)) (Some 8) None)))) f ≡ true → Found
    one true e h = let z = eqb-true c ots e in (One, omega arith, h)
    one false e h = two (eqb c (ots + 1)) refl h

-- leaves come by eights
pub eights : (height : Height) → 8 * (2 ^ levels height / 8) ≡ 2 ^ levels height
eights Five = refl
eights Ten = refl
