-- The laws of tables.
use Rattle.std.proofs.Common.{◌≡◌, ℕ, ◌+◌, ◌-◌, ◌*◌, ◌/◌, ◌<◌, ◌≤◌, min, List, length, Some, sym, ap, ◌∙◌, subst, div-mul-le_self, arith}
use Rattle.std.specs.Option.{option_map}
use Rattle.std.proofs.lemmas.Nat.{le-div}
use Rattle.rows.specs.Bytes.{row_at}
use Rattle.plan.specs.Shape.{Shape}
use Rattle.plan.specs.Keys.{owner}
use Rattle.plan.specs.Laws.{Ranges}
use Rattle.layout.specs.Table.{rows_of_group, table_rows, section_of, place_in}
use Rattle.layout.specs.Laws.{Places}
use Rattle.helper.specs.Tables.{number_in, row_in, of_plan}
use Rattle.helper.specs.Holding.{HoldsPart}
use Rattle.helper.specs.Laws.{There, PartAtPlace, Lending}

-- as many of some rows from a place on as some bytes have whole
module _ (rows at n : ℕ) where
  counted : (index : ℕ) → index < min rows (n / 32 - at) → (index < rows) × (32 * (at + index) + 32 ≤ n)
  counted index l =
      let whole = div-mul-le_self n 32 in
      (omega (arith, l), omega (arith, l, whole))

  counts : (index : ℕ) → index < rows → 32 * (at + index) + 32 ≤ n → index < min rows (n / 32 - at)
  counts index l f =
      let whole : at + index + 1 ≤ n / 32 = le-div (at + index + 1) n 32 (omega arith) (omega (arith, f)) in
      omega (arith, l, whole)

  counts_all : 32 * (at + rows) ≤ n → min rows (n / 32 - at) ≡ rows
  counts_all f =
      let whole : at + rows ≤ n / 32 = le-div (at + rows) n 32 (omega arith) (omega (arith, f)) in
      omega (arith, whole)

module _ (p : Shape) (bytes : List ℕ) (g key : ℕ) (o : owner p key ≡ Some g) where
  abbrev at : ℕ
  at = place_in (section_of p g) key

  number : (of_plan bytes p).number key ≡ min (rows_of_group p g) (length bytes / 32 - at)
  number = ap (λ x. number_in bytes key (option_map (section_of p) x)) o

  there : (index : ℕ) → index < (of_plan bytes p).number key → There p bytes g key index
  there index l =
      let x = counted (rows_of_group p g) at (length bytes) index (subst (λ k. index < k) number l) in
      record { in_part = x.0; in_bytes = x.1 }

  held : (index : ℕ) → There p bytes g key index → index < (of_plan bytes p).number key
  held index x = omega (number, counts (rows_of_group p g) at (length bytes) index x.in_part x.in_bytes, arith)

  row : (index : ℕ) → (of_plan bytes p).row key index ≡ row_at (at + index) bytes
  row index = ap (λ x. row_in bytes key index (option_map (section_of p) x)) o

  all : Ranges p → Places p → 32 * table_rows p ≤ length bytes → (of_plan bytes p).number key ≡ rows_of_group p g
  all r s long =
      let inside = s.inside g key (r.owner_owns g key o) in
      number ∙ counts_all (rows_of_group p g) at (length bytes) (omega (arith, inside, long))

  part : (bs : List ℕ) → PartAtPlace p bytes g key bs → HoldsPart (of_plan bytes p) key bs
  part bs x =
      let is : (of_plan bytes p).number key ≡ rows_of_group p g = number ∙ counts_all (rows_of_group p g) at (length bytes) x.inside in
      record { number = x.long ∙ ap (λ n. 32 * n) (sym is); row = λ index l. row index ∙ x.row index (omega (is, arith)) }

pub lending : (p : Shape) → Ranges p → Places p → Lending p
lending p r s = record {
  there = λ bytes g key index o l. there p bytes g key o index l;
  held = λ bytes g key index o x. held p bytes g key o index x;
  row = λ bytes g key index o. row p bytes g key o index;
  all = λ bytes g key o long. all p bytes g key o r s long;
  part = λ bytes g key bs o x. part p bytes g key o bs x;
  undealt = λ bytes key o. ap (λ x. number_in bytes key (option_map (section_of p) x)) o;
}
