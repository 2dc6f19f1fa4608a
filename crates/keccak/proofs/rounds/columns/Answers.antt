use Rattle.std.proofs.Common.{map, rules}
use Rattle.keccak.proofs.Arrays.{made}
use Rattle.keccak.specs.Fips202.{column}
use Rattle.keccak.proofs.rounds.columns.Goals as goal

pub returns : goal.returns
returns g c i x h k =
    let f = g.W.Word.at i in
    made _ 5 f (λ x. column (map f c.args.a.now) x) _ (λ x r q l called. search (rules, called.met)) c.from_fn.result c.from_fn.ensures.items x k
