use Rattle.std.proofs.Common.{◌≡◌, ℕ, Bool, true, false, ltb, List, length, Decides, sym, refl, ◌∙◌, rules, tests}
use Rattle.std.specs.List.{IsAllAdjacentAnswer}
use Rattle.std.proofs.lemmas.Bool.{ltb-true, lt-ltb, false≢true}
use Rattle.std.proofs.lemmas.List.Sorted.{answers_always}
use Rattle.plan.specs.Shape.{Rising}
use Rattle.plan.proofs.making.rising.Goals as goal

-- what the test of each mask and the next says
rising_is : (masks : List ℕ) (r : Bool) → IsAllAdjacentAnswer (λ x y b. b ≡ ltb x y) masks r → Decides r (Rising (length masks) masks)
rising_is masks true h = ((λ _ g l. ltb-true _ _ (sym (h g 0 l))), λ _. refl)
rising_is masks false h = ((λ e. absurd (false≢true e)), λ up. absurd (false≢true (h.2 0 ∙ lt-ltb _ _ (up h.0 h.1))))

pub returns : goal.returns
returns c = rising_is c.args.masks.now c.is_sorted_by.result (c.is_sorted_by.ensures.cases ltb (answers_always _ _ _ (λ f a r q k. search (rules, tests))))
