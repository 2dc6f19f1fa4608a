-- Splitting, and splitting again.
use Rattle.std.proofs.Common.{◌≡◌, ℕ, ◌*◌, ◌<◌, List, [], ◌∷◌, ◌++◌, length, Some, None, Ok, Err, Option, Result, sym, refl, ap, ◌∙◌, arith}
use Rattle.std.proofs.lemmas.Option.{same_Some}
use Rattle.rows.specs.Bytes.{row_at, rows, xored}
use Rattle.rows.proofs.Rows.{rows_same, rows_whole, row_of_all, length_rows, length_part}
use Rattle.rows.proofs.Added.{sums}
use Rattle.plan.specs.Shape.{Shape}
use Rattle.plan.specs.Keys.{owner}
use Rattle.layout.specs.Table.{rows_of_group}
use Rattle.pads.specs.declared.label.Label.{Label}
use Rattle.pads.specs.Source.{Source}
use Rattle.splitting.specs.declared.refusal.Refusal.{Refusal}
use Rattle.splitting.specs.Sources.{pad_of, padded}
use Rattle.splitting.specs.Split.{members_of, part_label, refusal, split_rows, split_for, answer, split}
use Rattle.splitting.specs.Laws.{Splitting}
use Rattle.splitting.proofs.Listed.{length_padded}
use Rattle.pads.proofs.Rising.{labelling}
use Rattle.splitting.proofs.Fitting.{all_passed, fits, no_refusal}

-- ---- pads
module _ (sources : List Source) (l : Label) where
  later : (ts : List ℕ) (row x : List ℕ) → xored (padded sources ts l row) x ≡ padded sources ts l (xored row x)
  later [] row x = refl
  later (t ∷ ts) row x = later ts (xored row (pad_of sources t l)) x ∙ ap (padded sources ts l) (sums.order row (pad_of sources t l) x)

  off : (ts : List ℕ) (row : List ℕ) → padded sources ts l (padded sources ts l row) ≡ row
  off [] row = refl
  off (t ∷ ts) row =
      let x = pad_of sources t l in
      ap (padded sources ts l) (later ts (xored row x) x) ∙ off ts (xored (xored row x) x) ∙ sums.back row x

  anywhere : (ss us : List ℕ) (t : ℕ) (row : List ℕ) → padded sources (ss ++ t ∷ us) l row ≡ padded sources (t ∷ ss ++ us) l row
  anywhere [] us t row = refl
  anywhere (s ∷ ss) us t row =
      anywhere ss us t (xored row (pad_of sources s l)) ∙ ap (padded sources (ss ++ us) l) (sums.order row (pad_of sources s l) (pad_of sources t l))

  each : (ss us : List ℕ) (t : ℕ) (row : List ℕ) → xored (padded sources (ss ++ t ∷ us) l row) (pad_of sources t l) ≡ padded sources (ss ++ us) l row
  each ss us t row =
      let x = pad_of sources t l in
      ap (λ r. xored r x) (anywhere ss us t row) ∙ later (ss ++ us) (xored row x) x ∙ ap (padded sources (ss ++ us) l) (sums.back row x)

-- ---- refused or accepted
pub refused : (p : Shape) (sources : List Source) (key : ℕ) (sheet : List ℕ) (e : Refusal) → refusal p sources key (length sheet) ≡ Some e → split p sources key sheet ≡ Err e
refused p sources key sheet e h = ap (λ r. answer r (split_for p sources key sheet (owner p key))) h

pub accepted : (p : Shape) (sources : List Source) (key g : ℕ) (sheet : List ℕ) → refusal p sources key (length sheet) ≡ None → owner p key ≡ Some g → split p sources key sheet ≡ Ok (split_rows p sources g key sheet)
accepted p sources key g sheet h o = ap (λ r. answer r (split_for p sources key sheet (owner p key))) h ∙ ap (λ x. Ok (split_for p sources key sheet x)) o

-- an answer of rows means that nothing was refused
pub answered : {X : Type 0} (r : Option Refusal) (x y : X) → answer r x ≡ Ok y → (r ≡ None) × (x ≡ y)
answered {X = X} None x y e = (refl, given x y e)
  where
    given : (a b : X) → ◌≡◌ {A = Result X Refusal} (Ok a) (Ok b) → a ≡ b
    given a b h = cc
answered (Some r) x y e = let z : ◌≡◌ {A = ℕ} 0 1 = cc in absurd (omega arith)

module _ (p : Shape) (sources : List Source) (key : ℕ) (sheet part : List ℕ) (e : split p sources key sheet ≡ Ok part) where
  pub fine : refusal p sources key (length sheet) ≡ None
  fine = (answered (refusal p sources key (length sheet)) (split_for p sources key sheet (owner p key)) part e).0

  module _ (g : ℕ) (o : owner p key ≡ Some g) where
    abbrev R : ℕ
    R = rows_of_group p g

    abbrev label : ℕ → Label
    label = part_label p g key

    abbrev row : ℕ → List ℕ
    row n = padded sources (members_of p g) (label n) (row_at n sheet)

    pub long : length sheet ≡ 32 * R
    long =
        let all = all_passed p sources key (length sheet) fine in
        let same : all.g ≡ g = same_Some all.g g (sym all.owns ∙ o) in
        all.long ∙ ap (λ x. 32 * rows_of_group p x) same

    is_part : part ≡ rows R row
    is_part = sym (answered (refusal p sources key (length sheet)) (split_for p sources key sheet (owner p key)) part e).1 ∙ ap (split_for p sources key sheet) o

    row_long : (n : ℕ) → n < R → length (row n) ≡ 32
    row_long n l = length_padded sources (members_of p g) (label n) (row_at n sheet) ∙ length_part sheet (32 * n) 32 (omega (arith, long))

    split_long : length part ≡ 32 * R
    split_long = ap length is_part ∙ length_rows row R row_long

    hidden : (n : ℕ) → n < R → row_at n part ≡ row n
    hidden n l = ap (row_at n) is_part ∙ row_of_all row R n row_long l

    row_back : (n : ℕ) → n < R → padded sources (members_of p g) (label n) (row_at n part) ≡ row_at n sheet
    row_back n l = ap (padded sources (members_of p g) (label n)) (hidden n l) ∙ off sources (label n) (members_of p g) (row_at n sheet)

    again : split p sources key part ≡ Ok sheet
    again =
        accepted p sources key g part (ap (refusal p sources key) (split_long ∙ sym long) ∙ fine) o
        ∙ ap (λ x. Ok x) (rows_same R (λ n. padded sources (members_of p g) (label n) (row_at n part)) (λ n. row_at n sheet) row_back ∙ sym (rows_whole sheet R (λ n. row_at n sheet) long (λ n l. refl)))

  stays_long : length part ≡ length sheet
  stays_long = let all = all_passed p sources key (length sheet) fine in split_long all.g all.owns ∙ sym (long all.g all.owns)

  twice : split p sources key part ≡ Ok sheet
  twice = let all = all_passed p sources key (length sheet) fine in again all.g all.owns

pub splitting : Splitting
splitting = record {
  fits = λ p sources key sheet part e. fits p sources key (length sheet) (fine p sources key sheet part e);
  splits = λ p sources key sheet f.
      let none = no_refusal p sources key (length sheet) f in
      (split_rows p sources f.g key sheet, accepted p sources key f.g sheet none f.owns);
  long = stays_long;
  twice = twice;
  none = λ sources l row. refl;
  each = λ sources ss us t l row. each sources l ss us t row;
  off = λ sources ts l row. off sources l ts row;
  anywhere = λ sources ss us t l row. anywhere sources l ss us t row;
  hidden = λ p sources key g sheet part e o n l. hidden p sources key sheet part e g o n l;
  rows_back = λ p sources key g sheet part e o n l. row_back p sources key sheet part e g o n l;
  labels = labelling;
}
