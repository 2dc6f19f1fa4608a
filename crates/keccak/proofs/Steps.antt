-- One round, as the loop has it.
use Rattle.std.proofs.Common.{◌≡◌, ℕ, ◌+◌, ◌<◌, List, get_or, set, sym, refl, ap, ◌∙◌, add-one}
use lib.Bits.{bit_xor}
use Rattle.keccak.specs.Fips202.{theta, rho, pi, chi, iota, constant, constants, round, rounds}
use Rattle.keccak.proofs.Tables.{constant_is}

pub rounds_none : (a : List ℕ) → rounds 0 a ≡ a
unfolding rounds
rounds_none a = refl

rounds_more : (n : ℕ) (a : List ℕ) → rounds (n + 1) a ≡ round n (rounds n a)
unfolding rounds
rounds_more n a = rw add-one

iota_set : (x : List ℕ) (t k : ℕ) → k ≡ constant t → set (chi x) 0 (bit_xor (get_or (chi x) 0 0) k) ≡ iota t (chi x)
unfolding iota chi
iota_set x t k e = ap (λ k. set (chi x) 0 (bit_xor (get_or (chi x) 0 0) k)) e

pub one_round : (a b r : List ℕ) (t k : ℕ) → t < 24 → k ≡ get_or constants t 0 → a ≡ rounds t b → r ≡ chi (pi (rho (theta a))) → set r 0 (bit_xor (get_or r 0 0) k) ≡ rounds (t + 1) b
one_round a b r t k h p e q =
    ap (λ r. set r 0 (bit_xor (get_or r 0 0) k)) q
    ∙ iota_set (pi (rho (theta a))) t k (p ∙ constant_is t h)
    ∙ ap (round t) e
    ∙ sym (rounds_more t b)
