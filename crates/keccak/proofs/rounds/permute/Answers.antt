use Rattle.std.proofs.Common.{◌≡◌, map, get_or, set, sym, refl, ap, ◌∙◌, arith, rules}
use lib.Bits.{bit_xor}
use Rattle.std.proofs.lemmas.List.{get_or-map, map-set}
use Rattle.keccak.specs.Fips202.{pi, rho, chi, constants, permuted}
use Rattle.keccak.proofs.Steps.{rounds_none, one_round}
use Rattle.keccak.proofs.rounds.permute.Goals as goal

pub loop-constant-init : goal.loop-constant-init
loop-constant-init g c = record { long = search rules; turned = λ i h. sym (rounds_none _) }

pub loop-constant-preserved : goal.loop-constant-preserved
loop-constant-preserved g c = record {
  long = search rules;
  turned = λ i h.
      let f = g.W.Word.at i in
      let r = c.chi.result in
      let t = c.loop-constant.constant-index in
      let k : g.W.Word.at i c.splat.result ≡ get_or constants c.loop-constant.constant-index 0 = c.splat.ensures i h in
      map-set f r 0 c.xor.result
      ∙ ap (set (map f r) 0)
      (c.xor.ensures i h
      ∙ ap (bit_xor (f (get_or r 0 c.index-a-0.result))) k
      ∙ ap (λ u. bit_xor u (get_or constants t 0)) (sym (get_or-map f r 0 c.index-a-0.result 0 (search rules))))
      ∙ one_round (map f c.loop-constant.a) (map f c.args.a.now) (map f r) t (get_or constants t 0) (omega arith) refl (c.loop-constant.invariant.turned i h)
      (c.chi.ensures i h ∙ ap chi (c.rho_pi.ensures i h ∙ ap (λ u. pi (rho u)) (c.theta.ensures i h)));
}

pub returns : goal.returns
unfolding permuted
returns g c i h =
    let done : c.loop-constant.constant-index ≡ 24 = omega arith in
    rw done at (c.loop-constant.invariant.turned i h)
