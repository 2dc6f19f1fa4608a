use Rattle.std.proofs.Common.{◌≡◌, ◌+◌, ◌%◌, ℕ, ◌<◌, map, get_or, refl, ap, ◌∙◌, lit<, arith}
use lib.Bits.{bit_xor}
use Rattle.simd_lanes.proofs.Ops.{same}
use Rattle.keccak.specs.Fips202.{theta, column, parity, turned}
use Rattle.keccak.proofs.rounds.theta.Goals as goal

pub returns : goal.returns
unfolding theta
returns g c i h =
    let f = g.W.Word.at i in
    let s = map f c.args.a.now in
    let sum : (k x : ℕ) → x < 5 → bit_xor (get_or (map (g.W.Word.at i) c.args.a.now) k 0) (get_or (map (g.W.Word.at i) c.parities-sums.result) x 0) ≡ bit_xor (get_or (map (g.W.Word.at i) c.args.a.now) k 0) (parity (map (g.W.Word.at i) c.args.a.now) x) =
    λ k x l.
    ap (bit_xor (get_or s k 0))
    (c.parities-sums.ensures i x h l
    ∙ ap (λ u. bit_xor u (turned 1 (get_or (map f c.columns.result) ((x + 1) % 5) 0))) (c.columns.ensures i ((x + 4) % 5) h (omega arith))
    ∙ ap (λ u. bit_xor (column s ((x + 4) % 5)) (turned 1 u)) (c.columns.ensures i ((x + 1) % 5) h (omega arith))) in
    (same (c.added.ensures i h ∙ sum 0 0 (lit< tt))
    (same (c.added-2.ensures i h ∙ sum 1 1 (lit< tt))
    (same (c.added-3.ensures i h ∙ sum 2 2 (lit< tt))
    (same (c.added-4.ensures i h ∙ sum 3 3 (lit< tt))
    (same (c.added-5.ensures i h ∙ sum 4 4 (lit< tt))
    (same (c.added-6.ensures i h ∙ sum 5 0 (lit< tt))
    (same (c.added-7.ensures i h ∙ sum 6 1 (lit< tt))
    (same (c.added-8.ensures i h ∙ sum 7 2 (lit< tt))
    (same (c.added-9.ensures i h ∙ sum 8 3 (lit< tt))
    (same (c.added-10.ensures i h ∙ sum 9 4 (lit< tt))
    (same (c.added-11.ensures i h ∙ sum 10 0 (lit< tt))
    (same (c.added-12.ensures i h ∙ sum 11 1 (lit< tt))
    (same (c.added-13.ensures i h ∙ sum 12 2 (lit< tt))
    (same (c.added-14.ensures i h ∙ sum 13 3 (lit< tt))
    (same (c.added-15.ensures i h ∙ sum 14 4 (lit< tt))
    (same (c.added-16.ensures i h ∙ sum 15 0 (lit< tt))
    (same (c.added-17.ensures i h ∙ sum 16 1 (lit< tt))
    (same (c.added-18.ensures i h ∙ sum 17 2 (lit< tt))
    (same (c.added-19.ensures i h ∙ sum 18 3 (lit< tt))
    (same (c.added-20.ensures i h ∙ sum 19 4 (lit< tt))
    (same (c.added-21.ensures i h ∙ sum 20 0 (lit< tt))
    (same (c.added-22.ensures i h ∙ sum 21 1 (lit< tt))
    (same (c.added-23.ensures i h ∙ sum 22 2 (lit< tt))
    (same (c.added-24.ensures i h ∙ sum 23 3 (lit< tt))
    (same (c.added-25.ensures i h ∙ sum 24 4 (lit< tt))
    refl)))))))))))))))))))))))))
