use Rattle.std.proofs.Common.{◌+◌, ◌-◌, ◌*◌, ◌∙◌, arith, rules}
use Rattle.std.proofs.lemmas.Iterator.{YieldsList-from_slice}
use Rattle.std.proofs.lemmas.Iterator.Consumers.{fold_from_yields_List}
use Rattle.columns.proofs.Reading.{folded, served}
use Rattle.columns.proofs.numbers.value.Goals as goal

pub fold-requires-clause-callable : goal.fold-requires-clause-callable
fold-requires-clause-callable c = served c.iter.result c.args.digits.now (cc) c.requires.digits c.requires.few (λ p d q k. search rules) (λ p d low from to. search (rules, arith))

pub returns : goal.returns
returns c = fold_from_yields_List _ (λ n d. n * 10 + (d - 48)) 0 c.fold.result c.fold.ensures.ran (YieldsList-from_slice c.args.digits.now cc) (λ a x b q k. search rules) ∙ folded 0 c.args.digits.now
