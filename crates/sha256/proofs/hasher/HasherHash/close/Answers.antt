use Rattle.std.proofs.Common.{◌≡◌, ◌%◌, ◌<◌, ◌≤◌, length, take, sym, ap, ◌∙◌, arith, rules}
use Rattle.std.proofs.lemmas.List.{length-take-le}
use Rattle.sha256_block.specs.Fips180.{compressed}
use Rattle.sha256.specs.Fips180.{bytes_of}
use Rattle.sha256.proofs.Ending.{one_block, last, two_blocks}
use Rattle.sha256.proofs.hasher.HasherHash.close.Goals as goal
use Rattle.sha256.proofs.hasher.HasherHash.close.Goals.{then-room-lt9, else-room-lt9}

pub returns : goal.returns
returns c =
    let s = c.args.self.message in
    let n = c.args.self.count in
    let v = s.chain.0 in
    let t = take s.filled s.buffer in
    let lt : length (take c.args.self.message.filled c.args.self.message.buffer) ≡ c.args.self.count % 64 = length-take-le s.filled s.buffer (search rules) ∙ c.args.self.counted in
    c.digest.ensures
    ∙ elim c.if-room-lt9.branch [
      | then-room-lt9 w ↦
          let far : 55 < c.args.self.count % 64 = omega (arith, c.room.ensures) in
          two_blocks v w.take_in.new.self.0 c.take_in-2.new.self.0 t c.ended-block.result c.with_length.result n lt
          far c.ended-block.ensures w.take_in.ensures
          (rw w.block-is at c.with_length.ensures) (rw w.words-is at c.take_in-2.ensures)
      | else-room-lt9 w ↦
          let near : c.args.self.count % 64 ≤ 55 = omega (arith, c.room.ensures) in
          ap bytes_of
          (rw w.words-is at c.take_in-2.ensures
          ∙ ap (compressed v) (last t c.with_length.result n lt near (rw (w.block-is, c.ended-block.ensures) at c.with_length.ensures)))
          ∙ sym (one_block v t n lt near)
    ]
