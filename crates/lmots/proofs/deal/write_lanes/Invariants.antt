use Rattle.std.proofs.Common.{[], get_or}
use Rattle.lmots.proofs.Cells.{Written, Kept}
use Rattle.lmots.proofs.deal.write_lanes.Given as goal

abbrev pub invariant-loop-l : goal.invariant-loop-l
invariant-loop-l l =
    record {
      new : Written l.size l.count l.first l.j (λ k. get_or l.rows k []) l.l l.out;
      old : Kept l.size l.first l.j l.initial.out l.out;
    }
