use Rattle.std.proofs.Common.{◌≡◌, ℕ, ◌<◌, length, sym, refl, ap, ◌∙◌, lit<, arith}
use Rattle.std.proofs.lemmas.List.{get_or-map}
use Rattle.simd_lanes.proofs.Ops.{same}
use Rattle.keccak.specs.Fips202.{pi, rho, turned}
use Rattle.keccak.proofs.rounds.rho_pi.Goals as goal

pub returns : goal.returns
unfolding pi rho
returns g c i h =
    let f = g.W.Word.at i in
    let a = c.args.a.now in
    let l : length c.args.a.now ≡ 25 = c.told-a in
    let at = λ (t : ℕ) (d : g.row.W.Denot) (k : t < 25). sym (get_or-map (g.W.Word.at i) c.args.a.now t d 0 (omega arith)) in
    (same (at 0 _ (lit< tt))
    (same (c.rotate.ensures i h ∙ ap (turned 44) (at 6 _ (lit< tt)))
    (same (c.rotate-2.ensures i h ∙ ap (turned 43) (at 12 _ (lit< tt)))
    (same (c.rotate-3.ensures i h ∙ ap (turned 21) (at 18 _ (lit< tt)))
    (same (c.rotate-4.ensures i h ∙ ap (turned 14) (at 24 _ (lit< tt)))
    (same (c.rotate-5.ensures i h ∙ ap (turned 28) (at 3 _ (lit< tt)))
    (same (c.rotate-6.ensures i h ∙ ap (turned 20) (at 9 _ (lit< tt)))
    (same (c.rotate-7.ensures i h ∙ ap (turned 3) (at 10 _ (lit< tt)))
    (same (c.rotate-8.ensures i h ∙ ap (turned 45) (at 16 _ (lit< tt)))
    (same (c.rotate-9.ensures i h ∙ ap (turned 61) (at 22 _ (lit< tt)))
    (same (c.rotate-10.ensures i h ∙ ap (turned 1) (at 1 _ (lit< tt)))
    (same (c.rotate-11.ensures i h ∙ ap (turned 6) (at 7 _ (lit< tt)))
    (same (c.rotate-12.ensures i h ∙ ap (turned 25) (at 13 _ (lit< tt)))
    (same (c.rotate-13.ensures i h ∙ ap (turned 8) (at 19 _ (lit< tt)))
    (same (c.rotate-14.ensures i h ∙ ap (turned 18) (at 20 _ (lit< tt)))
    (same (c.rotate-15.ensures i h ∙ ap (turned 27) (at 4 _ (lit< tt)))
    (same (c.rotate-16.ensures i h ∙ ap (turned 36) (at 5 _ (lit< tt)))
    (same (c.rotate-17.ensures i h ∙ ap (turned 10) (at 11 _ (lit< tt)))
    (same (c.rotate-18.ensures i h ∙ ap (turned 15) (at 17 _ (lit< tt)))
    (same (c.rotate-19.ensures i h ∙ ap (turned 56) (at 23 _ (lit< tt)))
    (same (c.rotate-20.ensures i h ∙ ap (turned 62) (at 2 _ (lit< tt)))
    (same (c.rotate-21.ensures i h ∙ ap (turned 55) (at 8 _ (lit< tt)))
    (same (c.rotate-22.ensures i h ∙ ap (turned 39) (at 14 _ (lit< tt)))
    (same (c.rotate-23.ensures i h ∙ ap (turned 41) (at 15 _ (lit< tt)))
    (same (c.rotate-24.ensures i h ∙ ap (turned 2) (at 21 _ (lit< tt)))
    refl)))))))))))))))))))))))))
