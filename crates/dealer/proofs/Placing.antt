-- A part, written at its place in the table.
use borrow.Rule.Slice.PartMut.{put_mid}
use Rattle.std.proofs.Common.{◌≡◌, ℕ, ◌+◌, ◌-◌, ◌*◌, Bool, true, false, eqb, List, [], ◌∷◌, ◌++◌, length, take, drop, Some, None, Option, sym, refl, ap, ◌∙◌, ap₂, ⊎_elim, append_assoc, arith}
use Rattle.std.proofs.lemmas.List.{take-append-drop}
use Rattle.std.proofs.lemmas.Bool.{cases_Bool, cond-false, eq-eqb, ne_eqb, eqb-true}
use Rattle.checks.specs.Checks.{first_refusal}
use Rattle.rows.specs.Bytes.{part}
use Rattle.rows.proofs.Rows.{placed, part_then}
use Rattle.plan.specs.Shape.{Shape}
use Rattle.plan.specs.Keys.{owner}
use Rattle.layout.specs.Table.{rows_of_group, table_rows, section_of, place_in, by_owner, part_start, part_size}
use Rattle.layout.proofs.Lying.{in_whole}
use Rattle.pads.specs.Source.{Source}
use Rattle.splitting.specs.declared.refusal.Refusal.TheVariants.{Sources, SameChecks, Undealt, Buffer, NotHeld}
use Rattle.splitting.specs.Sources.{distinct, all_hold}
use Rattle.splitting.specs.Split.{members_of, split_checks, refusal_if, part_long, refusal}
use Rattle.splitting.proofs.Fitting.{all_passed}
use Rattle.dealer.specs.Tabled.{written_at, at_place, tabled}

-- ---- what is refused
module _ (p : Shape) (sources : List Source) (key n : ℕ) where
  abbrev whole : Bool
  whole = eqb n (32 * table_rows p)

  size_none : whole ≡ false → part_size p key n ≡ 0
  size_none e = cond-false whole (by_owner (λ g. 32 * rows_of_group p g) (owner p key)) 0 e

  fits_same : (g : ℕ) → owner p key ≡ Some g → part_long p (part_size p key n) g ≡ whole
  fits_same g o =
      ⊎_elim
      (λ (e : whole ≡ true). eq-eqb _ _ (in_whole p key n g (λ k. 32 * rows_of_group p k) (eqb-true _ _ e) o) ∙ sym e)
      (λ (e : whole ≡ false). ne_eqb _ _ (λ z. let none = size_none e in omega arith) ∙ sym e)
      (cases_Bool whole)

  pub same_refusal : refusal p sources key (part_size p key n) ≡ refusal_if p sources key (λ _. whole)
  same_refusal = by (owner p key) refl
    where
      by : (o : Option ℕ) → owner p key ≡ o → first_refusal (split_checks p sources key (part_long p (part_size p key n)) o) ≡ first_refusal (split_checks p sources key (λ _. whole) o)
      by None e = refl
      by (Some g) e =
          let others = all_hold sources (members_of p g) key in
          ap (λ b. first_refusal ((eqb (length sources) p.trustees, Sources) ∷ (distinct sources, SameChecks) ∷ (true, Undealt) ∷ (b, Buffer) ∷ (others, NotHeld) ∷ [])) (fits_same g e)

  -- where nothing is refused, the buffer has the table's length
  pub is_whole : refusal p sources key (part_size p key n) ≡ None → n ≡ 32 * table_rows p
  is_whole e =
      let all = all_passed p sources key (part_size p key n) e in
      ⊎_elim
      (λ (t : whole ≡ true). eqb-true _ _ t)
      (λ (f : whole ≡ false). let none = size_none f in let long = all.long in absurd (omega arith))
      (cases_Bool whole)

-- ---- bytes in the middle
pub put_in : (a e : ℕ) (xs ys : List ℕ) → length ys ≡ e - a → put_mid a (e - a) xs ys ≡ take a xs ++ ys ++ drop (a + length ys) xs
put_in a e xs ys l =
    let k : a + length ys - a ≡ e - a = omega arith in
    ap (λ m. put_mid a m xs ys) (sym k) ∙ placed xs ys ys a refl

-- the middle itself put back
pub put_back : (a e : ℕ) (xs ys : List ℕ) → length ys ≡ e - a → ys ≡ part a (e - a) xs → put_mid a (e - a) xs ys ≡ xs
put_back a e xs ys l same =
    put_in a e xs ys l
    ∙ ap₂ (λ u v. take a xs ++ u ++ drop (a + v) xs) same l
    ∙ append_assoc (take a xs) (part a (e - a) xs) (drop (a + (e - a)) xs)
    ∙ ap (λ t. take a xs ++ t) (sym (part_then xs a (e - a)))
    ∙ take-append-drop a xs

-- ---- the table with a part at its place
pub is_tabled : (p : Shape) (key g start : ℕ) (bytes table : List ℕ) → owner p key ≡ Some g → start ≡ part_start p key (length table) → length table ≡ 32 * table_rows p →
    take start table ++ bytes ++ drop (start + length bytes) table ≡ tabled p key bytes table
is_tabled p key g start bytes table o s w =
    ap (λ a. written_at a bytes table) (s ∙ in_whole p key (length table) g (λ k. 32 * place_in (section_of p k) key) w o) ∙ ap (at_place p key bytes table) (sym o)
