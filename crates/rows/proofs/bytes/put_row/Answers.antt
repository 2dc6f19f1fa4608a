use Rattle.std.proofs.Common.{arith}
use Rattle.rows.proofs.Writing.{row_put, row_kept}
use Rattle.rows.proofs.bytes.put_row.Goals as goal

pub returns-then-k-out : goal.returns-then-k-out
returns-then-k-out c =
    let a = c.args in
    record {
      new = λ h. row_put a.out.now c.put.new.out a.row.now a.k c.put.ensures.inside c.told-row h;
      old = row_kept a.out.now c.put.new.out a.row.now a.k c.put.ensures.inside c.told-row (omega arith);
      outside = λ h. absurd (omega arith);
    }
