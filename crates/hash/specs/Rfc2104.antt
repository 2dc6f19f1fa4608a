-- HMAC as RFC 2104 has it, over a hash of blocks of `block` bytes, at a key that is no longer than a block.
use Rattle.std.specs.Prelude.{◌≡◌, ℕ, ◌-◌, List, ◌++◌, map, length, replicate, bit_xor}

-- the key K with zeros appended up to a block of B bytes
abbrev pub filled : ℕ → List ℕ → List ℕ
filled block key = key ++ replicate (block - length key) 0

-- the filled key XOR a block of the byte x: x is 0x36 for ipad, and 0x5c for opad
abbrev pub masked : ℕ → ℕ → List ℕ → List ℕ
masked x block key = map (λ b. bit_xor b x) (filled block key)

-- H(K XOR opad, H(K XOR ipad, text))
abbrev pub hmac_of : (List ℕ → List ℕ) → ℕ → List ℕ → List ℕ → List ℕ
hmac_of hash block key text = hash (masked 0x5c block key ++ hash (masked 0x36 block key ++ text))

-- two states of a hash that have taken in the inner and the outer masked key (RFC 2104, section 4)
abbrev pub Keyed : {S : Type 0} → S → (S → List ℕ → S) → ℕ → List ℕ → S → S → Type 0
Keyed first fed block key inner outer = (inner ≡ fed first (masked 0x36 block key)) × (outer ≡ fed first (masked 0x5c block key))
