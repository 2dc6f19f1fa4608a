-- What equal shares give each group of keys. Nothing else of ownership is proved from the shares themselves: `Owners` goes on from here.
use Rattle.std.proofs.Common.{◌≡◌, ℕ, suc, ◌+◌, ◌*◌, ◌/◌, ◌^◌, ◌<◌, ◌≤◌, List, length, sym, ap, ◌∙◌, mul-zero, mul-one, mul-add, arith}
use Rattle.std.proofs.lemmas.Nat.{le-div, div-add-mod'}
use Rattle.plan.specs.Shape.{Shape}
use Rattle.plan.specs.Keys.{first_key, key_count}
use Rattle.plan.specs.Laws.{ten_groups}

-- what is asked of the first keys and counts of groups: range follows on range from key 0 on, none is empty, and all lie in the tree
pub record Shared (p : Shape) : Type 0 where
  pub some : (g : ℕ) → g < length p.masks → 1 ≤ key_count p g
  pub starts : first_key p 0 ≡ 0
  pub follows : (g : ℕ) → g < length p.masks → first_key p (suc g) ≡ first_key p g + key_count p g
  pub fits : first_key p (length p.masks) ≤ 2 ^ p.height

-- a share fits as often as there are groups
dealt : (total m : ℕ) → total / m * m ≤ total
dealt total m = omega (arith, div-add-mod' total m)

pub shared : (p : Shape) → 1 ≤ length p.masks → length p.masks ≤ 2 ^ p.height → Shared p
shared p low high =
    let share = 2 ^ p.height / length p.masks in record {
      some = λ g l. le-div 1 (2 ^ p.height) (length p.masks) low (omega arith);
      starts = mul-zero share;
      follows = λ g l. let one : g + 1 ≡ suc g = omega arith in ap (λ k. share * k) (sym one) ∙ mul-add share g 1 ∙ ap (λ k. share * g + k) (mul-one share);
      fits = dealt (2 ^ p.height) (length p.masks);
    }

-- ten groups over 1,024 keys have 102 each
pub ten : (masks : List ℕ) → length masks ≡ 10 → (g : ℕ) → (key_count (ten_groups masks) g ≡ 102) × (first_key (ten_groups masks) g ≡ 102 * g)
ten masks e g = (ap (λ k. 1024 / k) e, ap (λ k. 1024 / k * g) e)
