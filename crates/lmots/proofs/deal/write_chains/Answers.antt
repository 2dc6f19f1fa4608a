use Rattle.std.proofs.Common.{◌≡◌, ℕ, ◌+◌, ◌-◌, ◌*◌, ◌^◌, ◌<◌, [], ◌++◌, get_or, sym, ap, ◌∙◌, inl, inr, arith, below_more}
use Rattle.rows.specs.Bytes.{u8str, u16str, u32str, row_at}
use Rattle.sizes.specs.Sizes.{bits}
use Rattle.lmots.specs.LmOts.{X, start}
use Rattle.lmots.proofs.Eight.{walk_none, walk_more}
use Rattle.lmots.proofs.deal.write_chains.Goals as goal

pub loop-j-init : goal.loop-j-init
loop-j-init g c =
    let a = c.args in
    let H = g.H.Hash.hashed in
    let I = a.origin.id.bytes in
    let S = a.origin.seed.bytes in
    let n = c.of_chains-lanes.ensures in
    let at : (k : ℕ) → k < 8 → get_or c.starts-rows.result k [] ≡ X H I S a.q (a.first + k) 0 =
    λ k h. c.starts-rows.ensures k h ∙ (λ j. start H (n.tree j).bytes S (n.keys k h j) (n.chains k h j)) ∙ walk_none H I a.q (a.first + k) _ in
    record {
      stepped = at;
      new = λ k j h o z.
          let e : j ≡ 0 = omega arith in
          ap (λ n. row_at ((a.first + k) * 2 ^ bits a.width + n) c.write_lanes.new.out) e
          ∙ c.write_lanes.ensures.new k h o ∙ at k h ∙ ap (X H I S a.q (a.first + k)) (sym e);
      old = λ i j h o. c.write_lanes.ensures.old i j o (inl h);
    }

pub loop-j-preserved : goal.loop-j-preserved
loop-j-preserved g c =
    let a = c.args in
    let H = g.H.Hash.hashed in
    let I = a.origin.id.bytes in
    let S = a.origin.seed.bytes in
    let J = c.loop-j.j in
    let n = c.of_chains-lanes.ensures in
    let back : J - 1 + 1 ≡ J = omega arith in
    let e : J ≡ J + 1 - 1 = omega arith in
    let at : (k : ℕ) → k < 8 → get_or c.step-rows.result k [] ≡ X H I S a.q (a.first + k) J =
    λ k h.
    let i = a.first + k in
    c.step-rows.ensures k h
    ∙ (λ j. H ((n.tree j).bytes ++ u32str (n.keys k h j) ++ u16str (n.chains k h j) ++ u8str (J - 1) ++ c.loop-j.invariant.stepped k h j))
    ∙ walk_more H I a.q i (start H I S a.q i) (J - 1) ∙ ap (X H I S a.q i) back in
    record {
      stepped = λ k h. at k h ∙ ap (X H I S a.q (a.first + k)) e;
      new = λ k j h o.
          below_more (λ j. row_at ((a.first + k) * 2 ^ bits a.width + j) c.write_lanes-in-loop-j.new.out ≡ X H I S a.q (a.first + k) j) J
          (λ j z. c.write_lanes-in-loop-j.ensures.old (a.first + k) j (omega arith) (inr (λ e. omega arith)) ∙ c.loop-j.invariant.new k j h o z)
          (c.write_lanes-in-loop-j.ensures.new k h o ∙ at k h)
          j;
      old = λ i j h o. c.write_lanes-in-loop-j.ensures.old i j o (inl h) ∙ c.loop-j.invariant.old i j h o;
    }
