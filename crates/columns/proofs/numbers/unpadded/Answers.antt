use Rattle.std.proofs.Common.{not, eqb, rules, tests}
use Rattle.std.proofs.lemmas.Iterator.{YieldsList-from_slice}
use Rattle.std.proofs.lemmas.Iterator.Search.{position_from_yields_List}
use Rattle.columns.proofs.Reading.{behind_blanks}
use Rattle.columns.proofs.numbers.unpadded.Goals as goal

pub returns-clause-value : goal.returns-clause-value
returns-clause-value c =
    let at = position_from_yields_List (λ x. not (eqb x 32)) _ _ c.position.result c.position.ensures.ran (YieldsList-from_slice c.args.field.now (cc)) (λ x b q k. search (rules, tests)) in
    behind_blanks c.args.field.now c.position.result c.unwrap_or-blanks.result at c.unwrap_or-blanks.ensures
