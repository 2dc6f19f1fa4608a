use Rattle.std.proofs.Common.{◌+◌, ◌-◌, arith}
use Rattle.lms.specs.Nodes.{Filled}
use Rattle.lms.proofs.Trees.{inner_more}
use Rattle.lms.proofs.growing.fill_inner.Goals as goal

pub loop-r-preserved : goal.loop-r-preserved
loop-r-preserved g c seed h w l f =
    let a = c.args in
    let r = c.loop-r.r - 1 in
    let old : Filled g.H.Hash.hashed a.id.bytes seed h w (r + 1) c.loop-r.nodes = λ k s o b. c.loop-r.invariant seed h w l f k s o (omega arith) in
    inner_more g.H.Hash.hashed a.id.bytes seed h w c.loop-r.nodes r c.above.result (omega arith) old (omega arith) (omega arith) c.above.ensures
