use Rattle.std.proofs.Common.{◌≡◌, ℕ, ◌-◌, ◌≤◌, length, take, drop, take_all, length-drop, sym, ap, subst, arith}
use Rattle.std.specs.Io.KnownBytes.{Appends}
use Rattle.std.proofs.KnownBytes.{Appends-kept}
use Rattle.plan_program.proofs.Moved.{written_more}
use Rattle.plan_program.proofs.streams.write_whole.Goals as goal
use Rattle.plan_program.proofs.streams.write_whole.Goals.{in-Ok, in-Err+else-ne}

pub loop-preserved : goal.loop-preserved
loop-preserved g c =
    let bytes = c.args.bytes.now in
    let at = c.loop.written in
    let first = g.W.Write.contents c.args.writer.now in
    let before = g.W.Write.contents c.loop.writer in
    let after = g.W.Write.contents c.write.new.self in
    let P : ℕ → Type 0 = λ n. (n ≤ length bytes) × Appends first after (take n bytes) in
    elim c.match-write.branch [
      | in-Ok w ↦
          let wrote = w.in-Ok.ensures in
          let n = w.in-Ok.n in
          let rest : take (length bytes - at) (drop at bytes) ≡ drop at bytes = take_all (length bytes - at) (drop at bytes) (omega (arith, length-drop at bytes)) in
          subst P (sym w.written-is) (omega (arith, wrote.bound, ap length rest, length-drop at bytes), written_more first before after bytes at n c.loop.invariant.1 (subst (λ xs. Appends before after (take n xs)) rest wrote.bytes))
      | in-Err+else-ne w ↦
          let wrote = w.in-Err.ensures in
          subst P (sym w.written-is) (omega arith, Appends-kept first before after (take at bytes) c.loop.invariant.1 wrote.bytes)
    ]
