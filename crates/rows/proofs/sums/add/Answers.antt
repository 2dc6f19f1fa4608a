use Rattle.std.proofs.Common.{sym, ◌∙◌, arith}
use Rattle.std.proofs.lemmas.List.{same_lists, get_or_default}
use Rattle.rows.specs.Bytes.{xored}
use Rattle.rows.proofs.Added.{get_or_xored, length_xored}
use Rattle.rows.proofs.sums.add.Goals as goal

pub returns-clause-added : goal.returns-clause-added
returns-clause-added c =
    let old = c.args.out.now in
    let more = c.args.more.now in
    let out = c.loop-i.out in
    let l = length_xored old more in
    same_lists out (xored old more) (omega (arith, l))
    (λ j d m.
    get_or_default out j d 0 m ∙ c.loop-i.invariant.added j (omega arith)
    ∙ sym (get_or_default (xored old more) j d 0 (omega (arith, l)) ∙ get_or_xored old more j 0 (omega arith) (omega arith)))
