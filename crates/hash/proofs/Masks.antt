-- The masked key as the pieces that the hash takes in.
use Rattle.std.proofs.Common.{◌≡◌, ℕ, zero, suc, ◌+◌, ◌-◌, ◌≤◌, List, ◌∷◌, ◌++◌, map, length, take, replicate, sym, refl, ap, ◌∙◌}
use lib.Bits.{bit_xor}
use Rattle.std.proofs.lemmas.List.{append-nil, append_assoc, map-append, take-replicate, replicate-append-replicate}
use Rattle.hash.specs.Rfc2104.{masked}

map_replicate : (f : ℕ → ℕ) (n y : ℕ) → map f (replicate n y) ≡ replicate n (f y)
map_replicate f zero y = refl
map_replicate f (suc n) y = ap (λ l. f y ∷ l) (map_replicate f n y)

-- the key and some bytes of filler
abbrev pub begun : ℕ → List ℕ → ℕ → List ℕ
begun x key n = map (λ b. bit_xor b x) key ++ replicate n x

pub begun_none : (x : ℕ) (key : List ℕ) (n : ℕ) → n ≡ 0 → map (λ b. bit_xor b x) key ≡ begun x key n
begun_none x key n e = sym (append-nil (map (λ b. bit_xor b x) key)) ∙ ap (begun x key) (sym e)

pub begun_more : (x : ℕ) (key : List ℕ) (n m k : ℕ) → k ≤ 32 → m ≡ n + k → begun x key n ++ take k (replicate 32 x) ≡ begun x key m
begun_more x key n m k h e =
    ap (λ l. begun x key n ++ l) (take-replicate k 32 x h)
    ∙ append_assoc (map (λ b. bit_xor b x) key) (replicate n x) (replicate k x)
    ∙ ap (λ l. map (λ b. bit_xor b x) key ++ l) (replicate-append-replicate n k x)
    ∙ ap (begun x key) (sym e)

pub begun_all : (x block : ℕ) (key : List ℕ) (n : ℕ) → n ≡ block - length key → begun x key n ≡ masked x block key
begun_all x block key n e =
    ap (begun x key) e
    ∙ ap (λ l. map (λ b. bit_xor b x) key ++ l) (sym (map_replicate (λ b. bit_xor b x) (block - length key) 0))
    ∙ sym (map-append (λ b. bit_xor b x) key (replicate (block - length key) 0))
