use Rattle.std.proofs.Common.{Some, None, rules}
use Rattle.std.proofs.lemmas.Iterator.{YieldsList-from_slice}
use Rattle.std.proofs.lemmas.Iterator.Adapters.{YieldsList-from_flatten}
use Rattle.std.proofs.lemmas.Iterator.Consumers.{YieldsList-at}
use Rattle.std.proofs.lemmas.Iterator.Search.{find_from_yields_List}
use Rattle.helper.specs.Entries.{is_of}
use Rattle.helper.proofs.Looking.{kept, road, row_of}
use Rattle.helper.proofs.entry.look_up.Goals as goal

pub returns-in_err-entry : goal.returns-in_err-entry
returns-in_err-entry c =
    let found = find_from_yields_List (is_of c.args.key c.args.index) c.find.new.self _ c.find.result c.find.ensures.ran (YieldsList-from_flatten _ _ (λ y. y.now) kept (λ x j k. road (λ s. s.of.now) (λ s. s.done) x.now j k.0 k.1) (YieldsList-at c.flatten.ensures.source (YieldsList-from_slice c.args.entries.now cc)) c.flatten.ensures.front c.flatten.ensures.back c.flatten.ensures.done) (λ x b q k. search (rules, k.called.met)) in
    rw c.from_residual.ensures (row_of c.args.entries.now c.args.key c.args.index c.find.result None found c.in_err-entry.was)

pub returns : goal.returns
returns c =
    let found = find_from_yields_List (is_of c.args.key c.args.index) c.find.new.self _ c.find.result c.find.ensures.ran (YieldsList-from_flatten _ _ (λ y. y.now) kept (λ x j k. road (λ s. s.of.now) (λ s. s.done) x.now j k.0 k.1) (YieldsList-at c.flatten.ensures.source (YieldsList-from_slice c.args.entries.now cc)) c.flatten.ensures.front c.flatten.ensures.back c.flatten.ensures.done) (λ x b q k. search (rules, k.called.met)) in
    row_of c.args.entries.now c.args.key c.args.index c.find.result (Some c.in_ok-entry.entry) found c.in_ok-entry.was
