use Rattle.std.proofs.Common.{◌≡◌, ℕ, ◌+◌, ◌-◌, ◌*◌, ◌^◌, ◌<◌, ◌≤◌, List, length, sym, ap, ◌∙◌, ap₂, inl, inr, arith}
use Rattle.std.proofs.lemmas.Nat.{pow_pos}
use Rattle.std.proofs.lemmas.Bool.{cases_lt}
use Rattle.rows.specs.Bytes.{row_at, rows}
use Rattle.sizes.specs.Sizes.{bits}
use Rattle.lmots.specs.LmOts.{X, p}
use Rattle.lmots.proofs.Cells.{cells_whole}
use Rattle.lmots.proofs.deal.write_positions.Goals as goal

-- the chains below f, and eight more
more : (B count f : ℕ) (x : ℕ → ℕ → List ℕ) (out new : List ℕ) →
    ((i j : ℕ) → i < f → i < count → j < B → row_at (i * B + j) out ≡ x i j) →
    ((l j : ℕ) → l < 8 → f + l < count → j < B → row_at ((f + l) * B + j) new ≡ x (f + l) j) →
    ((i j : ℕ) → i < f → j < B → row_at (i * B + j) new ≡ row_at (i * B + j) out) →
    (i j : ℕ) → i < f + 8 → i < count → j < B → row_at (i * B + j) new ≡ x i j
more B count f x out new before eight old i j h o z =
    elim (cases_lt i f) [
      | inl l ↦ old i j l z ∙ before i j l o z
      | inr l ↦
          let e : f + (i - f) ≡ i = omega arith in
          ap (λ n. row_at (n * B + j) new) (sym e) ∙ eight (i - f) j (omega arith) (omega arith) z ∙ ap (λ n. x n j) e
    ]

pub loop-first-preserved : goal.loop-first-preserved
loop-first-preserved g c =
    let a = c.args in
    more (2 ^ bits a.width) (p (bits a.width)) c.loop-first.first (X g.H.Hash.hashed a.origin.id.bytes a.origin.seed.bytes a.q) c.loop-first.out c.write_chains.new.out
    c.loop-first.invariant c.write_chains.ensures.new c.write_chains.ensures.old

-- all chains, once they are all written
all : (B count n : ℕ) (x : ℕ → ℕ → List ℕ) (out : List ℕ) → 0 < B → length out ≡ 32 * (n * B) → n ≤ count →
    ((i j : ℕ) → i < count → i < n → j < B → row_at (i * B + j) out ≡ x i j) → out ≡ rows n (λ i. rows B (x i))
all B count n x out pos l most known = cells_whole B n x out pos l (λ i j h z. known i j (omega arith) h z)

pub returns-else-out-count-clause-written : goal.returns-else-out-count-clause-written
returns-else-out-count-clause-written g c =
    let a = c.args in
    let w = bits a.width in
    let e = ap₂ (λ m n. 32 * (m * n)) c.chain_count-count.ensures.value c.position_count.ensures.value in
    all (2 ^ w) c.loop-first.first (p w) (X g.H.Hash.hashed a.origin.id.bytes a.origin.seed.bytes a.q) c.loop-first.out (pow_pos w)
    (omega arith) (omega arith) c.loop-first.invariant

pub returns-else-out-count-2-clause-written : goal.returns-else-out-count-2-clause-written
returns-else-out-count-2-clause-written g c =
    let a = c.args in
    let w = bits a.width in
    let x = X g.H.Hash.hashed a.origin.id.bytes a.origin.seed.bytes a.q in
    let e = ap₂ (λ m n. 32 * (m * n)) c.chain_count-count.ensures.value c.position_count.ensures.value in
    all (2 ^ w) (c.loop-first.first + 8) (p w) x c.write_chains.new.out (pow_pos w) (omega arith) (omega arith)
    (more (2 ^ w) (p w) c.loop-first.first x c.loop-first.out c.write_chains.new.out c.loop-first.invariant c.write_chains.ensures.new c.write_chains.ensures.old)
