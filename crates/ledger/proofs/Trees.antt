-- A spend on a ledger for a tree.
use Rattle.std.proofs.Common.{◌≡◌, ℕ, ◌+◌, ◌^◌, Bool, true, false, not, ◌||◌, eqb, leb, if◌then◌else◌, ◌⊎◌, None, refl, ap, ◌∙◌}
use Rattle.checks.specs.Checks.{first_refusal}
use Rattle.ledger.specs.Standing.{of_tree}
use Rattle.ledger.specs.Spend.{checks, Spends}

or_move : (x y n p : Bool) → (x || (y || (n || p))) ≡ (n || (x || (y || p)))
or_move true y true p = refl
or_move true y false p = refl
or_move false true true p = refl
or_move false true false p = refl
or_move false false true p = refl
or_move false false false p = refl

-- one more number is listed, and the room falls by one or stays
pub tree_spends : (intact : Bool) (h key : ℕ) (listed more : ℕ → Bool) (room less : ℕ) →
    first_refusal (checks (of_tree intact h listed room) key) ≡ None →
    ((k : ℕ) → more k ≡ (eqb k key || listed k)) →
    ((if intact then less else 0) ≡ (if intact then room else 0)) ⊎ ((if intact then less else 0) + 1 ≡ (if intact then room else 0)) →
    Spends (of_tree intact h listed room) key (of_tree intact h more less)
tree_spends intact h key listed more room less accepted one left = record {
  accepted = accepted;
  keys = λ k. ap (λ b. not intact || (leb (2 ^ h) k || b)) (one k) ∙ or_move (not intact) (leb (2 ^ h) k) (eqb k key) (listed k);
  left = left;
}
