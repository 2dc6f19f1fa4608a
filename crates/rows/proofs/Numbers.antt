-- Numbers read back from their bytes, and bytes from their number.
use Rattle.std.proofs.Common.{◌≡◌, ℕ, ◌+◌, ◌*◌, ◌/◌, ◌%◌, ◌^◌, ◌<◌, ◌≤◌, List, [], ◌∷◌, length, get_or, take, drop, sym, refl, ap, ◌∙◌, add-zero, mod-eq_of_lt, div-add-mod', arith, length-drop}
use native.Mathlib.Nat.{div-div-eq-div-mul}
use Rattle.std.proofs.lemmas.List.{get_or-take, get_or-drop}
use Rattle.rows.specs.Bytes.{u32str, str_to_u32, part}

four : (x a b c r s t d : ℕ) → a * 256 + r ≡ x → b * 256 + s ≡ a → c * 256 + t ≡ b → d ≡ c → d * 16777216 + t * 65536 + s * 256 + r ≡ x
four x a b c r s t d h₀ h₁ h₂ h₃ = omega arith

pub u32_back : (x : ℕ) → x < 2 ^ 32 → str_to_u32 (u32str x) ≡ x
u32_back x h =
    let top : x / 16777216 < 256 = omega arith in
    four x (x / 256) (x / 65536) (x / 16777216) (x % 256) (x / 256 % 256) (x / 65536 % 256) (x / 16777216 % 256)
    (div-add-mod' x 256)
    (ap (λ b. b * 256 + x / 256 % 256) (sym (div-div-eq-div-mul x 256 256)) ∙ div-add-mod' (x / 256) 256)
    (ap (λ b. b * 256 + x / 65536 % 256) (sym (div-div-eq-div-mul x 65536 256)) ∙ div-add-mod' (x / 65536) 256)
    (mod-eq_of_lt top)

-- four bytes are the bytes of the number that they make
pub u32_of : (a b c d x : ℕ) → a < 256 → b < 256 → c < 256 → d < 256 → x ≡ a * 16777216 + b * 65536 + c * 256 + d → u32str x ≡ a ∷ b ∷ c ∷ d ∷ []
u32_of a b c d x ha hb hc hd e =
    let p : x / 16777216 % 256 ≡ a = omega arith in
    let q : x / 65536 % 256 ≡ b = omega arith in
    let r : x / 256 % 256 ≡ c = omega arith in
    let s : x % 256 ≡ d = omega arith in
    λ j. p j ∷ q j ∷ r j ∷ s j ∷ []

at_four : (s : List ℕ) (at k : ℕ) → k < 4 → get_or (part at 4 s) k 0 ≡ get_or s (at + k) 0
at_four s at k h = get_or-take 4 (drop at s) k 0 h ∙ get_or-drop at s k 0

-- and written out
listed : (s : List ℕ) (at : ℕ) → at + 4 ≤ length s → part at 4 s ≡ get_or s at 0 ∷ get_or s (at + 1) 0 ∷ get_or s (at + 2) 0 ∷ get_or s (at + 3) 0 ∷ []
listed s at l =
    drop_four (drop at s) (omega (arith, length-drop at s))
    ∙ (λ j. (get_or-drop at s 0 0 ∙ ap (λ k. get_or s k 0) (add-zero at)) j ∷ get_or-drop at s 1 0 j ∷ get_or-drop at s 2 0 j ∷ get_or-drop at s 3 0 j ∷ [])
  where
    drop_four : (s : List ℕ) → 4 ≤ length s → take 4 s ≡ get_or s 0 0 ∷ get_or s 1 0 ∷ get_or s 2 0 ∷ get_or s 3 0 ∷ []
    drop_four (a ∷ b ∷ c ∷ d ∷ s) h = refl
    drop_four [] h = absurd (omega arith)
    drop_four (a ∷ []) h = absurd (omega arith)
    drop_four (a ∷ b ∷ []) h = absurd (omega arith)
    drop_four (a ∷ b ∷ c ∷ []) h = absurd (omega arith)

-- four bytes read one by one
pub read_four : (s : List ℕ) (at : ℕ) →
    str_to_u32 (part at 4 s) ≡ get_or s at 0 * 16777216 + get_or s (at + 1) 0 * 65536 + get_or s (at + 2) 0 * 256 + get_or s (at + 3) 0
read_four s at =
    let z : at + 0 ≡ at = omega arith in
    let e : get_or (part at 4 s) 0 0 ≡ get_or s at 0 = at_four s at 0 (omega arith) ∙ ap (λ k. get_or s k 0) z in
    omega (arith, e, at_four s at 1 (omega arith), at_four s at 2 (omega arith), at_four s at 3 (omega arith))

-- four bytes are the bytes of what they read as
pub bytes_back : (s : List ℕ) (at : ℕ) → at + 4 ≤ length s → ((i : ℕ) → get_or s i 0 < 256) → u32str (str_to_u32 (part at 4 s)) ≡ part at 4 s
bytes_back s at l h =
    let x = str_to_u32 (part at 4 s) in
    u32_of (get_or s at 0) (get_or s (at + 1) 0) (get_or s (at + 2) 0) (get_or s (at + 3) 0) x (h at) (h (at + 1)) (h (at + 2)) (h (at + 3)) (read_four s at)
    ∙ sym (listed s at l)
