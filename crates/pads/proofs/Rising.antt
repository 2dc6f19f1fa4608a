-- Rows rise with their labels.
use Rattle.std.proofs.Common.{◌≡◌, ℕ, ◌+◌, ◌*◌, ◌<◌, ◌≤◌, ◌⊎◌, inl, inr, refl, ap, ⊎_elim, mul_comm, mul-le-mul_left, arith}
use Rattle.std.proofs.lemmas.Bool.{cases_lt}
use Rattle.lms.specs.Scheme.{components, positions}
use Rattle.layout.specs.Part.{part_rows}
use Rattle.pads.specs.declared.label.Label.{Label}
use Rattle.pads.specs.Labelled.{prefix_label, check_row_label, path_label, chain_label, label_at}
use Rattle.pads.specs.Laws.{Before, Labelling}
use Rattle.pads.proofs.Placed.{each_row, of_check, of_path, of_chain, there, of_key, back}

-- of two places among rows of some each, the later one is of a later row, or further on in the same
apart : (each i j k l : ℕ) → j < each → i * each + j < k * each + l → l < each → (i < k) ⊎ ((i ≡ k) × (j < l))
apart each i j k l a less b =
    ⊎_elim
    (λ (e : i < k). inl e)
    (λ (e : k ≤ i).
    ⊎_elim
    (λ (f : k < i). let up : each * (k + 1) ≤ each * i = mul-le-mul_left each (omega arith) in absurd (omega (arith, up, mul_comm each i, mul_comm each (k + 1), mul_comm each k)))
    (λ (f : i ≤ k). let same : i ≡ k = omega arith in let rows : i * each ≡ k * each = ap (λ x. x * each) same in inr (same, omega (arith, rows)))
    (cases_lt k i))
    (cases_lt i k)

module _ (k h w key : ℕ) where
  abbrev P : ℕ
  P = positions w

  -- the label of row n comes before those of all rows behind it
  abbrev Leads : ℕ → Label → Type 0
  Leads n a = (m : ℕ) → m < part_rows h w k → n < m → Before a (label_at k h w key m)

  pub rising : (n m : ℕ) → n < m → m < part_rows h w k → Before (label_at k h w key n) (label_at k h w key m)
  rising n m less inside = each_row k h w key Leads prefix check path chain n (omega arith) m inside less
    where
      prefix : Leads 0 (prefix_label key)
      prefix =
          each_row k h w key (λ m b. 0 < m → Before (prefix_label key) b)
          (λ l. absurd (omega arith)) (λ x _ l. inl (omega arith)) (λ x _ l. inl (omega arith)) (λ x y _ _ l. inl (omega arith))

      check : (i : ℕ) → i < k → Leads (1 + i) (check_row_label key i)
      check i _ =
          each_row k h w key (λ m b. 1 + i < m → Before (check_row_label key i) b)
          (λ l. absurd (omega arith)) (λ x _ l. inr (refl, inl (omega arith))) (λ x _ l. inl (omega arith)) (λ x y _ _ l. inl (omega arith))

      path : (i : ℕ) → i < h → Leads (1 + k + i) (path_label key i)
      path i _ =
          each_row k h w key (λ m b. 1 + k + i < m → Before (path_label key i) b)
          (λ l. absurd (omega arith)) (λ x a l. absurd (omega arith)) (λ x _ l. inr (refl, inl (omega arith))) (λ x y _ _ l. inl (omega arith))

      chain : (i j : ℕ) → i < components w → j < P → Leads (1 + k + h + i * P + j) (chain_label key i j)
      chain i j _ b =
          each_row k h w key (λ m c. 1 + k + h + i * P + j < m → Before (chain_label key i j) c)
          (λ l. absurd (omega arith)) (λ x a l. absurd (omega arith)) (λ x a l. absurd (omega arith)) (λ x y _ c l. inr (refl, apart P i j x y b (omega arith) c))

pub labelling : Labelling
labelling = record {
  prefix = λ k h w key. refl;
  check_row = of_check;
  path = of_path;
  chain = of_chain;
  there = there;
  of_key = of_key;
  back = back;
  rising = rising;
}
