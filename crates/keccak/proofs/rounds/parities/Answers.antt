use Rattle.std.proofs.Common.{◌+◌, ◌%◌, map, get_or, rules}
use lib.Bits.{bit_xor}
use Rattle.keccak.proofs.Arrays.{made}
use Rattle.keccak.specs.Fips202.{turned}
use Rattle.keccak.proofs.rounds.parities.Goals as goal

pub returns : goal.returns
returns g c i x h k =
    let f = g.W.Word.at i in
    let s = map f c.args.columns.now in
    made _ 5 f (λ x. bit_xor (get_or s ((x + 4) % 5) 0) (turned 1 (get_or s ((x + 1) % 5) 0))) _ (λ x r q l called. search (rules, called.met)) c.from_fn.result c.from_fn.ensures.items x k
