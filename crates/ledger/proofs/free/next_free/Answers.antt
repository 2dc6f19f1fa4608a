use Rattle.std.proofs.Common.{◌≡◌, false, rules}
use Rattle.std.proofs.lemmas.Iterator.{first_from_Range}
use borrow.Author.Tests.{tests}
use Rattle.ledger.proofs.free.next_free.Goals as goal

pub returns : goal.returns
returns g c =
    let spent = (g.L.Ledger.standing c.args.ledger.now).spent in
    first_from_Range _ _ _ c.find.result (λ k. spent k ≡ false) (λ k. spent k ≡ false → ⊥) c.find.ensures.ran (λ x q k. search (rules, tests)) (λ x q k. search (rules, tests))
