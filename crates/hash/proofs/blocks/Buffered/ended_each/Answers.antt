use Rattle.std.proofs.Common.{◌≡◌, ◌+◌, ◌∙◌, min, [], length, get_or, take, refl, arith, rules}
use Rattle.std.proofs.lemmas.List.{length-take-le}
use Rattle.hash.proofs.Buffers.{ended_more}
use Rattle.hash.proofs.blocks.Buffered.ended_each.Goals as goal

pub returns : goal.returns
returns g c =
    let s = c.args.self.now in
    let f = s.filled in
    let lt : length (take c.args.self.now.filled c.args.self.now.buffer) ≡ c.args.self.now.filled = length-take-le f s.buffer (search rules) in
    record {
      room = ((λ _. omega (arith, c.min-count.ensures)), λ _. refl);
      ends = λ i h.
          let x = take c.args.len (get_or c.args.tails.now i []) in
          let lx : length (take c.args.len (get_or c.args.tails.now i [])) ≡ min c.args.len 64 = (c.with_each.ensures i h).1 in (
            (c.with_each.ensures i h).0
                ∙ ended_more g.row.N c.args.mark (f + c.min-count.result) f (take f s.buffer) x c.marked-block.result lt (omega (arith, c.min-count.ensures)) c.marked-block.ensures,
            lx,
          );
    }
