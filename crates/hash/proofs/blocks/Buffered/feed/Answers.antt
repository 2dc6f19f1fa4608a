use Rattle.std.proofs.Common.{◌≡◌, ◌+◌, ◌-◌, ◌<◌, length, take, refl, arith}
use Rattle.std.proofs.lemmas.List.{length-take-le}
use Rattle.hash.proofs.Buffers.{short, long}
use Rattle.hash.proofs.blocks.Buffered.feed.Goals as goal

pub returns-then-bytes-room : goal.returns-then-bytes-room
returns-then-bytes-room g c =
    let s = c.args.self.now in
    let x = c.args.bytes.now in
    let f = s.filled in
    let inside = s.open in
    let whole = s.whole in
    let lt : length (take c.args.self.now.filled c.args.self.now.buffer) ≡ c.args.self.now.filled = length-take-le f s.buffer (omega arith) in
    let room : c.args.self.now.filled + length c.args.bytes.now < g.row.N = omega (arith, c.room-room.ensures) in
    short g.row.N g.C.Chaining.after (g.C.Chaining.value s.chain) s.buffer x c.put.new.out f (f + length x) whole room refl (c.put.ensures.inside (omega arith))

pub returns : goal.returns
returns g c =
    let s = c.args.self.now in
    let x = c.args.bytes.now in
    let f = s.filled in
    let inside = s.open in
    let whole = s.whole in
    let lt : length (take c.args.self.now.filled c.args.self.now.buffer) ≡ c.args.self.now.filled = length-take-le f s.buffer (omega arith) in
    let room : c.room-room.result ≡ g.row.N - c.args.self.now.filled = omega (arith, c.room-room.ensures) in
    let v = g.C.Chaining.value in
    let rest = c.take_blocks-rest.result.now in
    long g.row.N g.C.Chaining.after (v s.chain) (v c.take_in.new.self) (v c.take_blocks-rest.new.chain) s.buffer
    c.put-2.new.out c.put-3.new.out x c.split_at.result.0.now c.split_at.result.1.now rest f (length rest)
    inside whole (omega arith) (rw room at c.split_at.ensures.front) (rw room at c.split_at.ensures.back) (c.put-2.ensures.inside (omega arith)) c.take_in.ensures
    c.take_blocks-rest.ensures.chain refl (c.put-3.ensures.inside (omega arith))
