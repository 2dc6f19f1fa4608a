use Rattle.std.proofs.Common.{◌+◌, zero-add, arith}
use Rattle.std.proofs.lemmas.List.{get_or-map}
use Rattle.keccak.proofs.rounds.column.Goals as goal

pub returns : goal.returns
returns g c i h =
    let f = g.W.Word.at i in
    let a = c.args.a.now in
    let x = c.args.x in
    cc (
      zero-add x,
      get_or-map f a x c.index-a-x.result 0 (omega arith),
      get_or-map f a (5 + x) c.index-a-x-2.result 0 (omega arith),
      get_or-map f a (10 + x) c.index-a-x-3.result 0 (omega arith),
      get_or-map f a (15 + x) c.index-a-x-4.result 0 (omega arith),
      get_or-map f a (20 + x) c.index-a-x-5.result 0 (omega arith),
      c.xor.ensures i h,
      c.xor-2.ensures i h,
      c.xor-3.ensures i h,
      c.xor-4.ensures i h,
    )
