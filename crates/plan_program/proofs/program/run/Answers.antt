use Rattle.std.proofs.Common.{subst}
use Rattle.std.specs.Io.KnownBytes.{Appends}
use Rattle.plan_program.proofs.Moved.{on_err, whole_front}
use Rattle.plan_program.proofs.program.run.Goals as goal

pub returns-in_err-write_whole-in-Unknown-clause-told_front : goal.returns-in_err-write_whole-in-Unknown-clause-told_front
returns-in_err-write_whole-in-Unknown-clause-told_front g c = rw c.in-Unknown.is (on_err _ _ c.in_err-write_whole-in-Unknown.ensures.err)

pub returns-in_ok-write_whole-in-Ranges-clause-told_front : goal.returns-in_ok-write_whole-in-Ranges-clause-told_front
returns-in_ok-write_whole-in-Ranges-clause-told_front g c =
    let told = subst (Appends (g.E.Write.contents c.args.errors.now) (g.E.Write.contents c.write_whole.new.writer)) c.announcement.ensures c.in_ok-write_whole-in-Ranges.ensures.ok in
    rw c.in-Ranges.is (on_err _ _ (whole_front _ _ _ told))

pub returns-in_ok-write_whole-in-Usage-clause-printed : goal.returns-in_ok-write_whole-in-Usage-clause-printed
returns-in_ok-write_whole-in-Usage-clause-printed g c = rw c.in-Usage.is c.in_ok-write_whole-in-Usage.ensures.ok

pub returns-in_ok-write_whole-in-Unknown-clause-told : goal.returns-in_ok-write_whole-in-Unknown-clause-told
returns-in_ok-write_whole-in-Unknown-clause-told g c = rw c.in-Unknown.is c.in_ok-write_whole-in-Unknown.ensures.ok
