-- A hash fed with rows one after another.
use Rattle.std.proofs.Common.{◌≡◌, ℕ, ◌+◌, List, ◌++◌, sym, ap, ◌∙◌, append_assoc, append-nil}
use Rattle.rows.specs.Bytes.{rows}
use Rattle.rows.proofs.Rows.{rows_none, rows_more}

module _ {State : Type 0} (first : State) (fed : State → List ℕ → State) (joined : (s : State) (a b : List ℕ) → fed (fed s a) b ≡ fed s (a ++ b)) where
  pub fed_none : {s : State} (front : List ℕ) (f : ℕ → List ℕ) → s ≡ fed first front → s ≡ fed first (front ++ rows 0 f)
  fed_none front f e = e ∙ ap (fed first) (sym (append-nil front) ∙ ap (λ t. front ++ t) (sym (rows_none f)))

  pub fed_more : {s t : State} {y : List ℕ} (front : List ℕ) (f : ℕ → List ℕ) (i : ℕ) → t ≡ fed s y → s ≡ fed first (front ++ rows i f) → y ≡ f i →
      t ≡ fed first (front ++ rows (i + 1) f)
  fed_more front f i et es ey =
      et ∙ (λ j. fed (es j) (ey j)) ∙ joined first (front ++ rows i f) (f i)
      ∙ ap (fed first) (append_assoc front (rows i f) (f i) ∙ ap (λ t. front ++ t) (sym (rows_more i f)))
