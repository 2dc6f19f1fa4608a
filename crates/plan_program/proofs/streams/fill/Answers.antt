use Rattle.std.proofs.Common.{ℕ, ◌≤◌, length, take, sym, subst, arith}
use Rattle.std.specs.Io.KnownBytes.{Consumes}
use Rattle.std.proofs.KnownBytes.{Consumes-kept}
use Rattle.plan_program.proofs.Moved.{filled_more}
use Rattle.plan_program.proofs.streams.fill.Goals as goal
use Rattle.plan_program.proofs.streams.fill.Goals.{in-Ok, in-Err+else-ne}

pub loop-preserved : goal.loop-preserved
loop-preserved g c =
    let old = c.loop.buffer in
    let new = c.read_at.new.buffer in
    let at = c.loop.filled in
    let first = g.R.Read.remaining c.args.reader.now in
    let before = g.R.Read.remaining c.loop.reader in
    let after = g.R.Read.remaining c.read_at.new.reader in
    let P : ℕ → Type 0 = λ n. (n ≤ length new) × Consumes first after (take n new) in
    elim c.match-read_at.branch [
      | in-Ok w ↦
          let read = w.in-Ok.ensures in
          subst P (sym w.filled-is) (omega (arith, read.fits), filled_more first before after old new at w.in-Ok.n read.front c.loop.invariant.1 read.bytes)
      | in-Err+else-ne w ↦
          let read = w.in-Err.ensures in
          subst P (sym w.filled-is) (omega arith, subst (Consumes first after) (sym read.front) (Consumes-kept first before after (take at old) c.loop.invariant.1 read.err))
    ]
