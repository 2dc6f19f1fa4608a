use Rattle.std.proofs.Common.{◌≡◌, ◌+◌, ◌<◌, min, [], ◌++◌, length, get_or, take, refl, sym, ap, ◌∙◌, arith}
use Rattle.std.proofs.lemmas.List.{length-append}
use Rattle.shake256.specs.Fips202.{absorbed, squeezed}
use Rattle.shake256.proofs.Ending.{last, later, one_block}
use Rattle.shake256.proofs.hasher.HasherHash.each.Goals as goal

pub returns : goal.returns
returns c i h =
    let s = c.args.self.now.message in
    let v = s.chain.0 in
    let t = take s.filled s.buffer in
    let x = take c.args.len (get_or c.args.tails.now i []) in
    let b = get_or c.in-Some.lasts i [] in
    let block = c.in-Some.ensures.ends i h in
    let room : length (take c.args.self.now.message.filled c.args.self.now.message.buffer) + min c.args.len 64 + 0 < 136 = c.in-Some.ensures.room.0 refl in
    let lx : length (take c.args.len (get_or c.args.tails.now i [])) ≡ min c.args.len 64 = block.1 in
    let lm : length (take c.args.self.now.message.filled c.args.self.now.message.buffer ++ take c.args.len (get_or c.args.tails.now i [])) < 136 = omega (arith, length-append t x) in
    c.end_eight.ensures i h
    ∙ ap (λ u. squeezed (absorbed v u)) (last (t ++ x) b lm block.0)
    ∙ sym (one_block v (t ++ x) lm)
    ∙ sym (later v t x (omega arith))
