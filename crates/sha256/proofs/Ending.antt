-- The last one or two blocks.
use Rattle.std.proofs.Common.{◌≡◌, ℕ, ◌+◌, ◌-◌, ◌*◌, ◌%◌, ◌^◌, ◌<◌, ◌≤◌, List, [], ◌∷◌, ◌++◌, length, take, replicate, sym, refl, ap, ◌∙◌, arith}
use Rattle.std.proofs.lemmas.List.{append_assoc, length-append, length-replicate, replicate-append-replicate, take_at}
use Rattle.hash.specs.Buffers.{ended}
use Rattle.hash.specs.Chaining.{Chain, link, chained}
use Rattle.hash.proofs.Chaining.{chained_joined, chained_short, chained_full}
use Rattle.sha256_block.specs.Fips180.{compressed}
use Rattle.sha256.specs.Fips180.{padding, length64, bytes_of}
use Rattle.sha256.specs.State.{mk, fed, closed}
use Rattle.sha256.specs.Feeding.{fed_any}

closed_is : (c : Chain) (n : ℕ) → closed (mk c n) ≡ bytes_of (chained 64 compressed c (padding n)).value
unfolding closed
closed_is c n = refl

-- the bytes of the padding where the block holds f bytes of the message, and f is at most 55
padding_short : (n f : ℕ) → n % 64 ≡ f → f ≤ 55 → padding n ≡ 128 ∷ (replicate (55 - f) 0 ++ length64 (n * 8 % 2 ^ 64))
padding_short n f e h =
    let z : (119 - n % 64) % 64 ≡ 55 - f = omega arith in
    ap (λ u. 128 ∷ (replicate u 0 ++ length64 (n * 8 % 2 ^ 64))) z

-- a message that ends within the block, and is all there
pub one_block : (v t : List ℕ) (n : ℕ) → length t ≡ n % 64 → n % 64 ≤ 55 → closed (mk (link v t) n) ≡ bytes_of (compressed v (t ++ padding n))
one_block v t n l h =
    let lp : length (padding n) ≡ 64 - n % 64 = ap length (padding_short n (n % 64) refl h) ∙ simp (length-append, length-replicate) (omega arith) in
    closed_is (link v t) n ∙ ap (λ s. bytes_of s.value) (chained_full 64 compressed (padding n) v t (omega (arith, lp)) (omega (arith, lp)))

-- bytes that leave the block open, taken in later
pub later : (v t x : List ℕ) (n : ℕ) → n < 2 ^ 64 → length t + length x < 64 → closed (fed (mk (link v t) n) x) ≡ closed (mk (link v (t ++ x)) ((n + length x) % 2 ^ 64))
later v t x n b h =
    let c = (n + length x) % 2 ^ 64 in
    ap closed (fed_any x (link v t) n b ∙ ap (λ u. mk u c) (chained_short 64 compressed x v t h))

-- the last block of a message of n bytes that ends within it
pub last : (t b : List ℕ) (n : ℕ) → length t ≡ n % 64 → n % 64 ≤ 55 → b ≡ take 56 (ended 64 128 t) ++ length64 (n * 8 % 2 ^ 64) → b ≡ t ++ padding n
last t b n l h q =
    let f = length t in
    let ln : List ℕ = length64 (n * 8 % 2 ^ 64) in
    let front : List ℕ = 128 ∷ replicate (55 - length t) 0 in
    let r : 63 - length t ≡ 55 - length t + 8 = omega arith in
    let lf : length (t ++ (128 ∷ replicate (55 - length t) 0)) ≡ 56 = simp (length-append, length-replicate) (omega arith) in
    let cut : ended 64 128 t ≡ (t ++ front) ++ replicate 8 0 =
    ap (λ u. t ++ (128 ∷ u)) (ap (λ u. replicate u 0) r ∙ sym (replicate-append-replicate (55 - f) 8 0))
    ∙ sym (append_assoc t front (replicate 8 0)) in
    q ∙ ap (λ u. take 56 u ++ ln) cut ∙ ap (λ u. u ++ ln) (take_at (t ++ front) (replicate 8 0) 56 lf)
    ∙ append_assoc t front ln
    ∙ ap (λ u. t ++ u) (sym (padding_short n f (sym l) (omega arith)))

-- a message whose padding takes a second block
pub two_blocks : (v v1 v2 t b1 b2 : List ℕ) (n : ℕ) → length t ≡ n % 64 → 55 < n % 64 → b1 ≡ ended 64 128 t → v1 ≡ compressed v b1 →
    b2 ≡ replicate 56 0 ++ length64 (n * 8 % 2 ^ 64) → v2 ≡ compressed v1 b2 → bytes_of v2 ≡ closed (mk (link v t) n)
two_blocks v v1 v2 t b1 b2 n l h q1 p1 q2 p2 =
    let f = length t in
    let ln : List ℕ = length64 (n * 8 % 2 ^ 64) in
    let mid : List ℕ = 128 ∷ replicate (63 - length t) 0 in
    let z : (119 - n % 64) % 64 ≡ 63 - length t + 56 = omega arith in
    let cut : padding n ≡ mid ++ (replicate 56 0 ++ ln) =
    ap (λ u. 128 ∷ (replicate u 0 ++ ln)) z
    ∙ ap (λ u. 128 ∷ (u ++ ln)) (sym (replicate-append-replicate (63 - f) 56 0))
    ∙ ap (λ u. 128 ∷ u) (append_assoc (replicate (63 - f) 0) (replicate 56 0) ln) in
    let lm : length (replicate {A = ℕ} (63 - length t) 0) ≡ 63 - length t = length-replicate (63 - f) 0 in
    ap bytes_of (p2 ∙ ap (compressed v1) q2 ∙ ap (λ u. compressed u (replicate 56 0 ++ ln)) (p1 ∙ ap (compressed v) q1))
    ∙ ap (λ s. bytes_of s.value)
    (sym (chained_full 64 compressed (replicate 56 0 ++ ln) (compressed v (t ++ mid)) [] (omega arith) refl)
    ∙ ap (λ s. chained 64 compressed s (replicate 56 0 ++ ln)) (sym (chained_full 64 compressed mid v t (omega arith) (omega arith)))
    ∙ chained_joined 64 compressed (link v t) mid (replicate 56 0 ++ ln)
    ∙ ap (chained 64 compressed (link v t)) (sym cut))
    ∙ sym (closed_is (link v t) n)
