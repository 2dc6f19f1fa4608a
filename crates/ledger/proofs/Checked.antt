-- What the checks of a spend found, and when they accept.
use Rattle.std.proofs.Common.{◌≡◌, ℕ, ◌≤◌, false, not, eqb, None, refl, ◌∙◌, ⊎_elim, arith}
use Rattle.std.proofs.lemmas.Bool.{cases_lt, cond-true, eqb-false, ne_eqb, not-true, not_from_false}
use Rattle.checks.specs.Checks.{first_refusal}
use Rattle.checks.proofs.Ordered.{passed}
use Rattle.ledger.specs.declared.refusal.Refusal.TheVariants.{Spent, NoRoom}
use Rattle.ledger.specs.Standing.{Standing}
use Rattle.ledger.specs.Spend.{checks}

module _ (s : Standing) (key : ℕ) where
  module _ (none : first_refusal (checks s key) ≡ None) where
    -- an accepted key was free
    pub was_free : s.spent key ≡ false
    was_free = not-true _ (passed (checks s key) none 0 (not (s.spent key), Spent) refl)

    -- and there was room
    pub had_room : 1 ≤ s.room
    had_room =
        let some = eqb-false s.room 0 (not-true _ (passed (checks s key) none 1 (not (eqb s.room 0), NoRoom) refl)) in
        ⊎_elim (λ e. absurd (some (omega arith))) (λ l. l) (cases_lt s.room 1)

  -- a free key is accepted where there is room
  pub accepts : s.spent key ≡ false → (s.room ≡ 0 → ⊥) → first_refusal (checks s key) ≡ None
  accepts free some = cond-true _ _ _ (not_from_false _ free) ∙ cond-true _ _ _ (not_from_false _ (ne_eqb s.room 0 some))
