use Rattle.std.proofs.Common.{◌≡◌, ◌+◌, ◌*◌, ◌%◌, ◌^◌, ◌<◌, min, [], ◌++◌, length, get_or, take, refl, sym, ap, ◌∙◌, arith, rules}
use Rattle.std.proofs.lemmas.List.{length-append, length-take-le}
use Rattle.hash.specs.Chaining.{link}
use Rattle.sha256_block.specs.Fips180.{compressed}
use Rattle.sha256.specs.Fips180.{length64, bytes_of}
use Rattle.sha256.specs.State.{mk, closed}
use Rattle.sha256.proofs.Ending.{later, last, one_block}
use Rattle.sha256.proofs.hasher.HasherHash.each.Goals as goal

pub returns : goal.returns
returns c i h =
    let s = c.args.self.now.message in
    let n = c.args.self.now.count in
    let v = s.chain.0 in
    let t = take s.filled s.buffer in
    let x = take c.args.len (get_or c.args.tails.now i []) in
    let m = (n + c.args.len) % 2 ^ 64 in
    let b = get_or c.all_with_length-blocks.result i [] in
    let block = c.in-Some.ensures.ends i h in
    let whole = s.whole in
    let inside = s.open in
    let counted = c.args.self.now.counted in
    let lt : length (take c.args.self.now.message.filled c.args.self.now.message.buffer) ≡ c.args.self.now.message.filled = length-take-le s.filled s.buffer (omega arith) in
    let room : length (take c.args.self.now.message.filled c.args.self.now.message.buffer) + min c.args.len 64 + 8 < 64 = c.in-Some.ensures.room.0 refl in
    let lx : length (take c.args.len (get_or c.args.tails.now i [])) ≡ c.args.len = block.1 ∙ omega arith in
    let lm : length (take c.args.self.now.message.filled c.args.self.now.message.buffer ++ take c.args.len (get_or c.args.tails.now i [])) ≡ (c.args.self.now.count + c.args.len) % 2 ^ 64 % 64 = length-append t x ∙ omega arith in
    c.end_eight.ensures i h
    ∙ ap (λ u. bytes_of (compressed v u)) (last (t ++ x) b m lm (omega arith) (c.all_with_length-blocks.ensures i h ∙ ap (λ u. take 56 u ++ length64 (m * 8 % 2 ^ 64)) block.0))
    ∙ sym (one_block v (t ++ x) m lm (omega arith))
    ∙ ap (λ u. closed (mk (link v (t ++ x)) ((n + u) % 2 ^ 64))) (sym lx)
    ∙ sym (later v t x n (search rules) (omega arith))
