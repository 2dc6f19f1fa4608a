-- A state in one lane of vectors.
use Rattle.std.proofs.Common.{◌≡◌, ℕ, ◌<◌, List, [], ◌++◌, length, get_or, sym, refl, ap, ◌∙◌, arith}
use Rattle.std.proofs.lemmas.List.FromFn.{fill_by_all}
use Rattle.simd_lanes.specs.Lane.{lane}
use Rattle.simd_lanes.proofs.Ops.{get_or_lane, length_lane}
use Rattle.shake256.specs.Fips202.{bytes8, squeezed}

pub lane_is : (i : ℕ) (vs : List (List ℕ)) (p : List ℕ) → length vs ≡ 25 → length p ≡ 25 → ((k : ℕ) → k < 25 → get_or (get_or vs k []) i 0 ≡ get_or p k 0) → lane i vs ≡ p
lane_is i vs p lv lp at =
    fill_by_all (λ k. get_or p k 0) (lane i vs) 25 0 (length_lane i vs ∙ lv) (λ k h. get_or_lane i vs k (omega arith) ∙ at k h)
    ∙ sym (fill_by_all (λ k. get_or p k 0) p 25 0 lp (λ k h. refl))

-- only the first four lanes are squeezed
pub squeezed_same : (a b : List ℕ) → ((k : ℕ) → k < 4 → get_or a k 0 ≡ get_or b k 0) → squeezed a ≡ squeezed b
squeezed_same a b at =
    ap (λ u. bytes8 u ++ (bytes8 (get_or a 1 0) ++ (bytes8 (get_or a 2 0) ++ bytes8 (get_or a 3 0)))) (at 0 (omega arith))
    ∙ ap (λ u. bytes8 (get_or b 0 0) ++ (bytes8 u ++ (bytes8 (get_or a 2 0) ++ bytes8 (get_or a 3 0)))) (at 1 (omega arith))
    ∙ ap (λ u. bytes8 (get_or b 0 0) ++ (bytes8 (get_or b 1 0) ++ (bytes8 u ++ bytes8 (get_or a 3 0)))) (at 2 (omega arith))
    ∙ ap (λ u. bytes8 (get_or b 0 0) ++ (bytes8 (get_or b 1 0) ++ (bytes8 (get_or b 2 0) ++ bytes8 u))) (at 3 (omega arith))
