-- The hash of a whole message is what the state closes to.
use Rattle.std.specs.Prelude.{◌≡◌, ℕ, ◌+◌, ◌-◌, ◌*◌, ◌/◌, ◌%◌, ◌^◌, List, [], ◌∷◌, ◌++◌, length, replicate, refl}
use Rattle.std.proofs.Common.{sym, ap, ◌∙◌, arith}
use Rattle.std.proofs.lemmas.List.{length-append, length-replicate}
use Rattle.hash.specs.Chaining.{link, over, chained}
use Rattle.hash.proofs.Chaining.{chained_padded}
use Rattle.sha256_block.specs.Fips180.{compressed}
use Rattle.sha256.specs.Fips180.{initial, padding, padded, zeros, length64, bytes_of, sha256}
use Rattle.sha256.specs.State.{State, mk, first, fed, closed}
use Rattle.sha256.specs.Feeding.{fed_any}

padded_length : (m : List ℕ) → length (padded m) ≡ length (padded m) / 64 * 64
padded_length m =
    let n = length m in
    let l : length (padded m) ≡ length m + (1 + ((119 - length m % 64) % 64 + 8)) = simp (length-append, length-replicate) (omega arith) in
    omega arith

padding_mod : (n : ℕ) → padding ((0 + n) % 2 ^ 64) ≡ padding n
padding_mod n =
    let z : (0 + n) % 2 ^ 64 % 64 ≡ n % 64 = omega arith in
    let e : (0 + n) % 2 ^ 64 * 8 % 2 ^ 64 ≡ n * 8 % 2 ^ 64 = omega arith in
    ap (λ x. 128 ∷ (replicate ((119 - x) % 64) 0 ++ length64 ((0 + n) % 2 ^ 64 * 8 % 2 ^ 64))) z
    ∙ ap (λ y. 128 ∷ (replicate (zeros n) 0 ++ length64 y)) e

closed_is : (s : State) → closed s ≡ bytes_of (chained 64 compressed s.chain (padding s.count)).value
unfolding closed
closed_is s = refl

sha256_is : (m : List ℕ) → sha256 m ≡ bytes_of (over 64 compressed (length (padded m) / 64) initial (padded m))
unfolding sha256
sha256_is m = refl

pub whole : (m : List ℕ) → sha256 m ≡ closed (fed first m)
whole m =
    let s = link initial [] in
    sha256_is m
    ∙ ap bytes_of
    (chained_padded 64 compressed m (padding (length m)) initial (omega arith) (padded_length m)
    ∙ ap (λ p. (chained 64 compressed (chained 64 compressed s m) p).value) (sym (padding_mod (length m))))
    ∙ sym (closed_is (mk (chained 64 compressed s m) ((0 + length m) % 2 ^ 64)))
    ∙ ap closed (sym (fed_any m s 0 (omega arith)))
