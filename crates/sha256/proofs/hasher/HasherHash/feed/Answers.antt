use Rattle.std.proofs.Common.{◌≡◌, ◌+◌, ◌%◌, ◌^◌, length, take, sym, ap, ◌∙◌, arith, rules}
use Rattle.std.proofs.lemmas.List.{length-take-le}
use Rattle.hash.specs.Buffered.{held}
use Rattle.hash.proofs.Chaining.{chained_tail}
use Rattle.sha256_block.specs.Fips180.{compressed}
use Rattle.sha256.specs.State.{mk}
use Rattle.sha256.specs.Feeding.{fed_any}
use Rattle.sha256.proofs.hasher.HasherHash.feed.Goals as goal

pub invariant_of-self : goal.invariant_of-self
invariant_of-self c =
    let old = c.args.self.now.message in
    let new = c.feed.new.self in
    let wo = old.whole in
    let wn = new.whole in
    let oo = old.open in
    let on = new.open in
    let lo : length (take c.args.self.now.message.filled c.args.self.now.message.buffer) ≡ c.args.self.now.message.filled = length-take-le old.filled old.buffer (omega arith) in
    let ln : length (take c.feed.new.self.filled c.feed.new.self.buffer) ≡ c.feed.new.self.filled = length-take-le new.filled new.buffer (omega arith) in
    let t = ap (λ s. length s.tail) c.feed.ensures ∙ chained_tail 64 compressed c.args.bytes.now (held (λ w. w.0) old) (omega arith) in
    let k = c.args.self.now.counted in
    record { counted = omega arith }

pub returns : goal.returns
returns c =
    let s = c.args.self.now in
    let x = c.args.bytes.now in
    ap (λ u. mk u ((s.count + length x) % 2 ^ 64)) c.feed.ensures
    ∙ sym (fed_any x (held (λ w. w.0) s.message) s.count (search rules))
