-- One bit set in a row of bytes.
use Rattle.std.proofs.Common.{◌≡◌, true, ℕ, zero, suc, ◌*◌, ◌/◌, ◌%◌, ◌^◌, ◌<◌, ◌≤◌, false, ◌||◌, eqb, leb, List, length, get_or, set, replicate, None, sym, refl, ap, ◌∙◌, inl, ⊎_elim, mod-lt, arith, pow_mono, w8}
use native.Mathlib.Nat.{div-add-mod}
use lib.Bits.{bit_or}
use Rattle.std.proofs.lemmas.Nat.{pow_pos, div_below}
use Rattle.std.proofs.lemmas.Grind.{one_shifted}
use Rattle.std.proofs.lemmas.Nat.Bits.{bit_at_set_same, bit_at_set_other, bit_at-zero}
use Rattle.std.proofs.lemmas.List.{get_or-set_same, get_or-set_other}
use Rattle.std.proofs.Math.Bool.{or-false}
use Rattle.std.proofs.lemmas.Bool.{cases_eq, eq-eqb, ne_eqb, leb-false, or_parts}
use Rattle.ledger.specs.Marks.{marked, of_marks}
use Rattle.ledger.specs.Standing.{Fresh}
use Rattle.checks.specs.Checks.{first_refusal}
use Rattle.ledger.specs.Spend.{checks, Spends}
use Rattle.ledger.proofs.Checked.{accepts}
use Rattle.ledger.proofs.Trees.{tree_spends}

pub key_low : (key h : ℕ) → key < 2 ^ h → h ≤ 10 → key / 8 < 128
key_low key h lt le = let p : 2 ^ h ≤ 2 ^ 10 = pow_mono le in div_below key 8 128 (omega arith) (omega arith)

-- the mark of a key, as the code shifts it
pub shifted : (key : ℕ) → (1 * 2 ^ (key % 8)) % 256 ≡ 2 ^ (key % 8)
shifted key = (one_shifted (key % 8) 255 refl (mod-lt key (omega arith))).0

-- the bit of a key set among the marks
set_marked : (marks : List ℕ) (key k : ℕ) → key / 8 < length marks → marked (set marks (key / 8) (bit_or (get_or marks (key / 8) 0) ((1 * 2 ^ (key % 8)) % 256))) k ≡ (eqb k key || marked marks k)
set_marked marks key k lt =
    let old : ℕ = get_or marks (key / 8) 0 in
    let v : ℕ = bit_or old ((1 * 2 ^ (key % 8)) % 256) in
    let low : key % 8 < 8 = mod-lt key (omega arith) in
    ⊎_elim
    (λ (e : k / 8 ≡ key / 8).
    let read : get_or (set marks (key / 8) v) (k / 8) 0 ≡ v = ap (λ i. get_or (set marks (key / 8) v) i 0) e ∙ get_or-set_same marks (key / 8) v 0 lt in
    ap (λ z. eqb ((z / 2 ^ (k % 8)) % 2) 1) read
    ∙ ⊎_elim
    (λ (s : k % 8 ≡ key % 8).
    let same : k ≡ key = omega (arith, div-add-mod k 8, div-add-mod key 8) in
    ap (λ j. eqb ((v / 2 ^ j) % 2) 1) s ∙ ap (λ z. eqb z 1) (bit_at_set_same w8 old (key % 8) low) ∙ ap (λ t. t || marked marks k) (sym (eq-eqb k key same)))
    (λ (ne : k % 8 ≡ key % 8 → ⊥).
    ap (λ z. eqb z 1) (bit_at_set_other w8 old (key % 8) low (k % 8) ne)
    ∙ ap (λ i. eqb ((get_or marks i 0 / 2 ^ (k % 8)) % 2) 1) (sym e)
    ∙ ap (λ t. t || marked marks k) (sym (ne_eqb k key (λ s. ne (ap (λ z. z % 8) s)))))
    (cases_eq (k % 8) (key % 8)))
    (λ ne.
    let read : get_or (set marks (key / 8) v) (k / 8) 0 ≡ get_or marks (k / 8) 0 = get_or-set_other marks (key / 8) (k / 8) v 0 ne in
    ap (λ z. eqb ((z / 2 ^ (k % 8)) % 2) 1) read ∙ ap (λ t. t || marked marks k) (sym (ne_eqb k key (λ s. ne (ap (λ z. z / 8) s)))))
    (cases_eq (k / 8) (key / 8))

-- what a spend of a free key makes of the marks
module _ (marks : List ℕ) (h key : ℕ) (free : false ≡ (leb (2 ^ h) key || marked marks key)) (le : h ≤ 10) where
  pub free_low : key / 8 < 128
  free_low = key_low key h (leb-false _ _ (or_parts _ _ (sym free)).0) le

  pub accepted : first_refusal (checks (of_marks marks h) key) ≡ None
  accepted = accepts (of_marks marks h) key (sym free) (λ e. omega (arith, pow_pos h))

  pub spends : length marks ≡ 128 → Spends (of_marks marks h) key (of_marks (set marks (key / 8) (bit_or (get_or marks (key / 8) 0) ((1 * 2 ^ (key % 8)) % 256))) h)
  spends full =
      let within : key / 8 < length marks = omega (arith, free_low) in
      tree_spends true h key (marked marks) _ (2 ^ h) (2 ^ h) accepted (λ k. set_marked marks key k within) (inl refl)

-- nothing is marked in zeros
pub unmarked : (n h : ℕ) → Fresh h (of_marks (replicate n 0) h)
unmarked n h k =
    let low : (get_or (replicate n 0) (k / 8) 0 / 2 ^ (k % 8)) % 2 ≡ 0 = ap (λ z. (z / 2 ^ (k % 8)) % 2) (zeros n (k / 8)) ∙ bit_at-zero (k % 8) in
    ap (λ z. leb (2 ^ h) k || eqb z 1) low ∙ or-false (leb (2 ^ h) k)
  where
    zeros : (m i : ℕ) → ◌≡◌ {A = ℕ} (get_or (replicate m 0) i 0) 0
    zeros zero i = refl
    zeros (suc m) zero = refl
    zeros (suc m) (suc i) = zeros m i
