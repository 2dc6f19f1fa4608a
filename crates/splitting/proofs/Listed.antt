-- Lists of sources and of members, looked at one after the other.
use Rattle.std.proofs.Common.{◌≡◌, ℕ, zero, suc, ◌-◌, ◌≤◌, Bool, ◌||◌, List, [], ◌∷◌, ◌++◌, map, length, get_or, replicate, Some, None, Option, MatchOption, Bor, sym, refl, ap, ◌∙◌, ap₂, arith}
use Rattle.std.specs.Slice.{IsGetResult}
use Rattle.std.proofs.lemmas.List.{length-map, get_or_past, get_or_default}
use Rattle.std.proofs.Math.ListN.{get_or-map}
use lib.Bits.{xor_zero_r}
use Rattle.std.specs.List.{list_any}
use Rattle.rows.specs.Bytes.{xored}
use Rattle.rows.proofs.Added.{length_xored}
use Rattle.pads.specs.declared.label.Label.{Label}
use Rattle.pads.specs.Source.{Source}
use Rattle.pads.specs.Row.{AllRows}
use Rattle.pads.proofs.BookRows.{zero_row}
use Rattle.splitting.specs.Sources.{no_source, source_of, pad_of, padded, PadsAreRows}

-- tests of what a function makes of each element
pub any_mapped : {A B : Type 0} (test : B → Bool) (f : A → B) (xs : List A) → list_any (λ x. test (f x)) xs ≡ list_any test (map f xs)
any_mapped test f [] = refl
any_mapped test f (x ∷ xs) = ap (λ b. test (f x) || b) (any_mapped test f xs)

-- ---- sources, by a function from values to what they mean
module _ {P : Type 0} (f : P → Source) where
  -- what holds of the source of each value, and of no source, holds of every trustee's
  pub of_each : (Q : Source → Type 0) → Q no_source → ((x : P) → Q (f x)) → (xs : List P) (t : ℕ) → Q (source_of (map f xs) t)
  of_each Q none each xs zero = none
  of_each Q none each [] (suc i) = none
  of_each Q none each (y ∷ ys) (suc zero) = each y
  of_each Q none each (y ∷ ys) (suc (suc i)) = of_each Q none each ys (suc i)

  -- where each gives rows, every trustee's source does
  pub of_rows : ((x : P) → AllRows (f x).pad) → ((x : P) (key : ℕ) → AllRows ((f x).check key)) → (xs : List P) → PadsAreRows (map f xs)
  of_rows pads checks xs = record {
    pads = of_each (λ s. AllRows s.pad) (λ l. zero_row) pads xs;
    checks = λ t key. of_each (λ s. AllRows (s.check key)) (λ prefix. zero_row) (λ x. checks x key) xs t;
  }

  -- the source of a trustee, by what stands at her place
  pub source_is : (xs : List P) (t i : ℕ) (r : Option (Bor P)) → 1 ≤ t → i ≡ t - 1 → IsGetResult xs i i r →
      MatchOption r (source_of (map f xs) t ≡ no_source) (λ s. source_of (map f xs) t ≡ f s.now)
  source_is xs t i r l e got = by r got
    where
      at : source_of (map f xs) t ≡ get_or (map f xs) i no_source
      at = let s : t ≡ suc i = omega arith in ap (source_of (map f xs)) s

      by : (o : Option (Bor P)) → IsGetResult xs i i o → MatchOption o (source_of (map f xs) t ≡ no_source) (λ s. source_of (map f xs) t ≡ f s.now)
      by None h = at ∙ get_or_past (map f xs) i no_source (omega (arith, h.3, length-map xs f))
      by (Some s) h =
          at ∙ get_or_default (map f xs) i no_source (f s.now) (omega (arith, h.3.0, length-map xs f))
          ∙ get_or-map f xs i s.now ∙ ap f (sym h.1)

-- ---- members
-- pads of one more member, added to what holds those of the members before
padded_more : (sources : List Source) (ts : List ℕ) (t : ℕ) (l : Label) (row : List ℕ) → padded sources (ts ++ t ∷ []) l row ≡ xored (padded sources ts l row) (pad_of sources t l)
padded_more sources [] t l row = refl
padded_more sources (u ∷ us) t l row = padded_more sources us t l (xored row (pad_of sources u l))

pub one_more : (sources : List Source) (ts : List ℕ) (t : ℕ) (l : Label) (row old new : List ℕ) → old ≡ padded sources ts l row → new ≡ xored old (pad_of sources t l) → new ≡ padded sources (ts ++ t ∷ []) l row
one_more sources ts t l row old new before added = added ∙ ap (λ r. xored r (pad_of sources t l)) before ∙ sym (padded_more sources ts t l row)

pub length_padded : (sources : List Source) (ts : List ℕ) (l : Label) (row : List ℕ) → length (padded sources ts l row) ≡ length row
length_padded sources [] l row = refl
length_padded sources (t ∷ ts) l row = length_padded sources ts l (xored row (pad_of sources t l)) ∙ length_xored row (pad_of sources t l)

-- zeros added
pub xored_zeros : (row : List ℕ) (n : ℕ) → xored row (replicate n 0) ≡ row
unfolding xored
xored_zeros [] n = refl
xored_zeros (x ∷ xs) zero = refl
xored_zeros (x ∷ xs) (suc n) = ap₂ (λ y ys. y ∷ ys) (xor_zero_r x) (xored_zeros xs n)
