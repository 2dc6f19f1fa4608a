-- What a buffer of n bytes holds as bytes come in.
use Rattle.std.proofs.Common.{◌≡◌, ℕ, ◌+◌, ◌-◌, ◌<◌, ◌≤◌, List, [], ◌∷◌, ◌++◌, length, take, drop, set, replicate, sym, ap, ◌∙◌, arith}
use Rattle.std.proofs.lemmas.List.{append-nil, append_assoc, length-append, length-take-le, take_at, take-append-drop, drop_all, drop_at, drop-replicate, length-replicate, replicate-append-replicate, set_at}
use Rattle.hash.specs.Buffers.{written, ended}
use Rattle.hash.specs.Chaining.{link, chained}
use Rattle.hash.proofs.Chaining.{chained_joined, chained_short, chained_full}

-- a write over q, where p stands before it
pub written_at : (p q r x : List ℕ) (f : ℕ) → length p ≡ f → length q ≡ length x → written (p ++ (q ++ r)) f x ≡ p ++ (x ++ r)
written_at p q r x f l e =
    let lq : length (p ++ q) ≡ f + length x = simp length-append (omega arith) in
    ap (λ u. u ++ x ++ drop (f + length x) (p ++ (q ++ r))) (take_at p (q ++ r) f l)
    ∙ ap (λ u. p ++ x ++ drop (f + length x) u) (sym (append_assoc p q r))
    ∙ ap (λ u. p ++ x ++ u) (drop_at (p ++ q) r (f + length x) lq)
    ∙ append_assoc p x r

-- a block of n zeros, with t written at its start and the byte m at `at`
pub mark : (n m at : ℕ) (t b : List ℕ) → length t ≤ at → at < n → b ≡ written (replicate n 0) 0 t → set b at m ≡ t ++ (replicate (at - length t) 0 ++ (m ∷ replicate (n - 1 - at) 0))
mark n m at t b h k q =
    let i : 0 + length t ≡ length t = omega arith in
    let z : List ℕ = replicate (at - length t) 0 in
    let r : List ℕ = replicate (n - 1 - at) 0 in
    let d : n - length t ≡ (at - length t) + (1 + (n - 1 - at)) = omega arith in
    let lz : length (t ++ replicate (at - length t) 0) ≡ at = simp (length-append, length-replicate) (omega arith) in
    let cut : b ≡ (t ++ z) ++ (0 ∷ r) =
    q ∙ ap (λ u. t ++ drop u (replicate n 0)) i
    ∙ ap (λ u. t ++ u) (drop-replicate (length t) n 0 ∙ ap (λ u. replicate u 0) d ∙ sym (replicate-append-replicate (at - length t) (1 + (n - 1 - at)) 0))
    ∙ ap (λ u. t ++ (z ++ u)) (sym (replicate-append-replicate 1 (n - 1 - at) 0))
    ∙ sym (append_assoc t z (0 ∷ r)) in
    ap (λ u. set u at m) cut ∙ set_at (t ++ z) 0 r m at lz ∙ append_assoc t z (m ∷ r)

-- where x is written at the end of t, and ends at the mark
pub ended_more : (n m at f : ℕ) (t x b : List ℕ) → length t ≡ f → f + length x ≡ at → b ≡ t ++ (replicate (at - length t) 0 ++ (m ∷ replicate (n - 1 - at) 0)) →
    written b f x ≡ ended n m (t ++ x)
ended_more n m at f t x b l e q =
    let r : List ℕ = m ∷ replicate (n - 1 - at) 0 in
    let le : at ≡ length (t ++ x) = sym (length-append t x ∙ omega arith) in
    ap (λ u. written u f x) q
    ∙ written_at t (replicate (at - length t) 0) r x f l (length-replicate (at - length t) 0 ∙ omega arith)
    ∙ sym (append_assoc t x r)
    ∙ ap (λ i. (t ++ x) ++ (m ∷ replicate (n - 1 - i) 0)) le

-- the front of a buffer after a write at f
pub front_after : (b x new : List ℕ) (f i : ℕ) → f ≤ length b → i ≡ f + length x → new ≡ written b f x → take i new ≡ take f b ++ x
front_after b x new f i h e q =
    let l : length (take f b ++ x) ≡ i = simp (length-append, length-take-le f b h) (omega arith) in
    ap (take i) q ∙ take_at (take f b ++ x) (drop (f + length x) b) i l

module _ (n : ℕ) (F : List ℕ → List ℕ → List ℕ) where
  -- bytes that leave the block open go to the buffer
  pub short : (v b x new : List ℕ) (f i : ℕ) → length b ≡ n → f + length x < n → i ≡ f + length x → new ≡ written b f x → link v (take i new) ≡ chained n F (link v (take f b)) x
  short v b x new f i l s e q =
      let lt : length (take f b) ≡ f = length-take-le f b (omega arith) in
      ap (link v) (front_after b x new f i (omega arith) e q) ∙ sym (chained_short n F x v (take f b) (omega arith))

  -- bytes that fill the block, then whole blocks, and a rest for the buffer
  pub long : (v v1 v2 b b1 b2 x front back rest : List ℕ) (f i : ℕ) → f < n → length b ≡ n → n - f ≤ length x →
      front ≡ take (n - f) x → back ≡ drop (n - f) x →
      b1 ≡ written b f front → v1 ≡ F v b1 →
      link v2 rest ≡ chained n F (link v1 []) back → i ≡ length rest → b2 ≡ written b1 0 rest →
      link v2 (take i b2) ≡ chained n F (link v (take f b)) x
  long v v1 v2 b b1 b2 x front back rest f i h l s qf qb q1 p1 p2 e q2 =
      let lt : length (take f b) ≡ f = length-take-le f b (omega arith) in
      let lf : length front ≡ n - f = ap length qf ∙ length-take-le (n - f) x s in
      let whole : b1 ≡ take f b ++ front =
      q1 ∙ ap (λ u. take f b ++ front ++ u) (drop_all (f + length front) b (omega arith)) ∙ append-nil (take f b ++ front) in
      let joined : x ≡ front ++ back = sym (take-append-drop (n - f) x) ∙ ap (λ u. u ++ drop (n - f) x) (sym qf) ∙ ap (λ u. front ++ u) (sym qb) in
      ap (link v2) (front_after b1 rest b2 0 i (omega arith) (omega arith) q2)
      ∙ p2
      ∙ ap (λ u. chained n F (link u []) back) (p1 ∙ ap (F v) whole)
      ∙ ap (λ u. chained n F u back) (sym (chained_full n F front v (take f b) (omega arith) (omega arith)))
      ∙ chained_joined n F (link v (take f b)) front back
      ∙ ap (chained n F (link v (take f b))) (sym joined)
