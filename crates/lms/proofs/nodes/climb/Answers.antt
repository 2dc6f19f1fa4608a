use Rattle.std.proofs.Common.{ℕ, ◌/◌, [], get_or, refl, ap, ◌∙◌, arith}
use Rattle.lms.specs.Lms.{climbed}
use Rattle.lms.proofs.Trees.{climb_odd, climb_even, halved_more}
use Rattle.lms.proofs.nodes.climb.Goals as goal
use Rattle.lms.proofs.nodes.climb.Goals.{then-number-eq1, else-number-eq1}

pub loop-next-init : goal.loop-next-init
unfolding climbed
loop-next-init g c = (refl, omega arith)

pub loop-next-preserved : goal.loop-next-preserved
loop-next-preserved g c =
    let a = c.args in
    let k = c.loop-next.next-index in
    let path = λ (k : ℕ). get_or a.path.now k [] in (
      elim c.if-number-eq1.branch [
        | then-number-eq1 w ↦
            w.x-is ∙ climb_odd g.H.Hash.hashed a.id.bytes path a.r a.bottom.now k c.loop-next.invariant.1 w.if-number-eq1.true
            c.loop-next.invariant.0 refl w.inner-x.ensures
        | else-number-eq1 w ↦
            w.x-is ∙ climb_even g.H.Hash.hashed a.id.bytes path a.r a.bottom.now k c.loop-next.invariant.1 w.if-number-eq1.false
            c.loop-next.invariant.0 refl w.inner-x-else-number-eq1.ensures
      ],
      ap (λ n. n / 2) c.loop-next.invariant.1 ∙ halved_more a.r k,
    )
