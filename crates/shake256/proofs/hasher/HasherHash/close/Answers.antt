use Rattle.std.proofs.Common.{◌≡◌, length, take, sym, ap, ◌∙◌, arith, rules}
use Rattle.std.proofs.lemmas.List.{length-take-le}
use Rattle.shake256.specs.Fips202.{absorbed, squeezed}
use Rattle.shake256.proofs.Ending.{last, one_block}
use Rattle.shake256.proofs.hasher.HasherHash.close.Goals as goal

pub returns : goal.returns
returns c =
    let s = c.args.self.message in
    let v = s.chain.0 in
    let t = take s.filled s.buffer in
    let inside = s.open in
    let lt : length (take c.args.self.message.filled c.args.self.message.buffer) ≡ c.args.self.message.filled = length-take-le s.filled s.buffer (search rules) in
    let block = c.add_last_bit.ensures ∙ last t c.ended-block.result (omega arith) c.ended-block.ensures in
    c.squeeze.ensures
    ∙ ap squeezed (c.take_in.ensures ∙ ap (absorbed v) block)
    ∙ sym (one_block v t (omega arith))
