-- Bytes fed in pieces.
use Rattle.std.specs.Prelude.{◌≡◌, ℕ, ◌+◌, ◌%◌, ◌^◌, ◌<◌, List, [], ◌∷◌, ◌++◌, length, refl}
use Rattle.std.proofs.Common.{sym, ap, ◌∙◌, arith}
use Rattle.std.proofs.lemmas.List.{length-append}
use Rattle.hash.specs.Chaining.{Chain, chained}
use Rattle.hash.proofs.Chaining.{chained_none, chained_joined}
use Rattle.sha256_block.specs.Fips180.{compressed}
use Rattle.sha256.specs.State.{State, mk, fed}

pub fed_none : (s : State) → fed s [] ≡ s
unfolding fed
fed_none s = refl

fed_some : (s : State) (b : ℕ) (bs : List ℕ) → fed s (b ∷ bs) ≡ mk (chained 64 compressed s.chain (b ∷ bs)) ((s.count + length (b ∷ bs)) % 2 ^ 64)
unfolding fed
fed_some s b bs = refl

-- a count below 2 ^ 64 needs no case of its own for no bytes
pub fed_any : (m : List ℕ) (c : Chain) (n : ℕ) → n < 2 ^ 64 → fed (mk c n) m ≡ mk (chained 64 compressed c m) ((n + length m) % 2 ^ 64)
fed_any [] c n h =
    let e : n ≡ (n + 0) % 2 ^ 64 = omega arith in
    fed_none (mk c n) ∙ ap (λ u. mk u n) (sym (chained_none 64 compressed c)) ∙ ap (mk (chained 64 compressed c [])) e
fed_any (b ∷ bs) c n h = fed_some (mk c n) b bs

count_joined : (n a b : ℕ) → ((n + a) % 2 ^ 64 + b) % 2 ^ 64 ≡ (n + (a + b)) % 2 ^ 64
count_joined n a b = omega arith

pub fed_joined : (s : State) (a b : List ℕ) → fed (fed s a) b ≡ fed s (a ++ b)
fed_joined s [] b = ap (λ u. fed u b) (fed_none s)
fed_joined s (x ∷ a) b =
    let n = (s.count + length (x ∷ a)) % 2 ^ 64 in
    ap (λ u. fed u b) (fed_some s x a)
    ∙ fed_any b (chained 64 compressed s.chain (x ∷ a)) n (omega arith)
    ∙ ap (λ u. mk u ((n + length b) % 2 ^ 64)) (chained_joined 64 compressed s.chain (x ∷ a) b)
    ∙ ap (mk (chained 64 compressed s.chain ((x ∷ a) ++ b))) (count_joined s.count (length (x ∷ a)) (length b) ∙ ap (λ u. (s.count + u) % 2 ^ 64) (sym (length-append (x ∷ a) b)))
    ∙ sym (fed_some s x (a ++ b))
