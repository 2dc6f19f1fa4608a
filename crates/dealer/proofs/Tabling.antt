-- Parts in the table.
use Rattle.std.proofs.Common.{◌≡◌, ℕ, ◌+◌, ◌-◌, ◌*◌, ◌<◌, ◌≤◌, List, [], ◌∷◌, ◌++◌, length, take, drop, Some, None, Option, refl, ap, ◌∙◌, subst, ⊎_elim, append_assoc, arith, length-append, length-drop, All, Contains}
use Rattle.std.proofs.lemmas.List.{take-take, take-append-le, drop-append-le, drop-drop, drop-take, length-take-le}
use Rattle.std.proofs.lemmas.List.Elements.{All-head, All-tail, All-contains}
use Rattle.std.proofs.lemmas.Map.Made.{Contains-tail}
use Rattle.std.proofs.lemmas.Bool.{cases_lt, cases_eq}
use Rattle.rows.specs.Bytes.{part, row_at}
use Rattle.rows.proofs.Rows.{part_behind}
use Rattle.plan.specs.Shape.{Shape}
use Rattle.plan.specs.Keys.{owner}
use Rattle.plan.specs.Laws.{Ranges}
use Rattle.layout.specs.Laws.{Places}
use Rattle.layout.specs.Table.{rows_of_group, table_rows, section_of, place_in}
use Rattle.helper.specs.Holding.{HoldsPart}
use Rattle.helper.specs.Tables.{of_plan}
use Rattle.helper.proofs.Lent.{lending}
use Rattle.dealer.specs.Tabled.{written_at, at_place, tabled, dealt_all, AllDealt}
use Rattle.dealer.specs.Laws.{PartsFit, IsTable, Tabling}

pub in_front : (x rest : List ℕ) (m n : ℕ) → m + n ≤ length x → part m n (x ++ rest) ≡ part m n x
in_front x rest m n l = ap (take n) (drop-append-le m x rest (omega arith)) ∙ take-append-le n (drop m x) rest (omega (arith, length-drop m x))

in_take : (t : List ℕ) (a m n : ℕ) → m + n ≤ a → part m n (take a t) ≡ part m n t
in_take t a m n l =
    let k = a - m in
    let e : a ≡ m + k = omega arith in
    ap (λ b. part m n (take b t)) e ∙ ap (take n) (drop-take m k t) ∙ take-take n k (drop m t) (omega arith)

in_drop : (t : List ℕ) (e m n : ℕ) → e ≤ m → part (m - e) n (drop e t) ≡ part m n t
in_drop t e m n l = let s : e + (m - e) ≡ m = omega arith in ap (take n) (drop-drop (m - e) e t ∙ ap (λ k. drop k t) s)

-- ---- some bytes written at a place
module _ (a : ℕ) (bytes table : List ℕ) (room : a + length bytes ≤ length table) where
  front_long : length (take a table ++ bytes) ≡ a + length bytes
  front_long = length-append (take a table) bytes ∙ ap (λ n. n + length bytes) (length-take-le a table (omega arith))

  there : (m n : ℕ) → m + n ≤ length bytes → part (a + m) n (written_at a bytes table) ≡ part m n bytes
  there m n l =
      ap (part (a + m) n) (append_assoc (take a table) bytes (drop (a + length bytes) table))
      ∙ part_behind (take a table) (bytes ++ drop (a + length bytes) table) a m n (length-take-le a table (omega arith))
      ∙ in_front bytes (drop (a + length bytes) table) m n l

  before : (m n : ℕ) → m + n ≤ a → part m n (written_at a bytes table) ≡ part m n table
  before m n l =
      ap (part m n) (append_assoc (take a table) bytes (drop (a + length bytes) table))
      ∙ in_front (take a table) (bytes ++ drop (a + length bytes) table) m n (omega (arith, length-take-le a table (omega arith)))
      ∙ in_take table a m n l

  after : (m n : ℕ) → a + length bytes ≤ m → part m n (written_at a bytes table) ≡ part m n table
  after m n l =
      let e = a + length bytes in
      let s : m ≡ e + (m - e) = omega arith in
      ap (λ k. part k n (written_at a bytes table)) s
      ∙ part_behind (take a table ++ bytes) (drop e table) e (m - e) n front_long
      ∙ in_drop table e m n l

  kept_long : length (written_at a bytes table) ≡ length table
  kept_long = length-append (take a table ++ bytes) (drop (a + length bytes) table) ∙ omega (arith, front_long, length-drop (a + length bytes) table)

-- ---- and parts
module _ (p : Shape) (r : Ranges p) (s : Places p) where
  placed : (g key : ℕ) (bytes table : List ℕ) → owner p key ≡ Some g → tabled p key bytes table ≡ written_at (32 * place_in (section_of p g) key) bytes table
  placed g key bytes table o = ap (at_place p key bytes table) o

  room : (g key : ℕ) (bytes table : List ℕ) → owner p key ≡ Some g → length table ≡ 32 * table_rows p → length bytes ≡ 32 * rows_of_group p g → 32 * place_in (section_of p g) key + length bytes ≤ length table
  room g key bytes table o lt lb = let i = s.inside g key (r.owner_owns g key o) in omega (arith, i, lt, lb)

  -- the part at its own place
  own : (g key : ℕ) (bytes table : List ℕ) → owner p key ≡ Some g → length table ≡ 32 * table_rows p → length bytes ≡ 32 * rows_of_group p g →
      (n : ℕ) → n < rows_of_group p g → row_at (place_in (section_of p g) key + n) (tabled p key bytes table) ≡ row_at n bytes
  own g key bytes table o lt lb n l =
      let at = place_in (section_of p g) key in
      let e : 32 * (at + n) ≡ 32 * at + 32 * n = omega arith in
      ap (row_at (at + n)) (placed g key bytes table o) ∙ ap (λ m. part m 32 (written_at (32 * at) bytes table)) e
      ∙ there (32 * at) bytes table (room g key bytes table o lt lb) (32 * n) 32 (omega (arith, lb))

  -- and the other parts, which stay
  others : (g k a b : ℕ) (bytes table : List ℕ) → owner p a ≡ Some g → owner p b ≡ Some k → (a ≡ b → ⊥) → length table ≡ 32 * table_rows p → length bytes ≡ 32 * rows_of_group p g →
      (n : ℕ) → n < rows_of_group p k → row_at (place_in (section_of p k) b + n) (tabled p a bytes table) ≡ row_at (place_in (section_of p k) b + n) table
  others g k a b bytes table oa ob ne lt lb n l =
      ap (row_at (place_in (section_of p k) b + n)) (placed g a bytes table oa)
      ∙ ⊎_elim
      (λ (m : a < b). let q = s.apart g k a b (r.owner_owns g a oa) (r.owner_owns k b ob) m in
      after (32 * place_in (section_of p g) a) bytes table (room g a bytes table oa lt lb) (32 * (place_in (section_of p k) b + n)) 32 (omega (arith, q, lb)))
      (λ (m : b ≤ a). let q = s.apart k g b a (r.owner_owns k b ob) (r.owner_owns g a oa) (less a b ne m) in
      before (32 * place_in (section_of p g) a) bytes table (room g a bytes table oa lt lb) (32 * (place_in (section_of p k) b + n)) 32 (omega (arith, q, l)))
      (cases_lt a b)
    where
      less : (a b : ℕ) → (a ≡ b → ⊥) → b ≤ a → b < a
      less a b ne m = ⊎_elim (λ (l : b < a). l) (λ (l : a ≤ b). absurd (ne (omega arith))) (cases_lt b a)

  long : (g key : ℕ) (bytes table : List ℕ) → owner p key ≡ Some g → length table ≡ 32 * table_rows p → length bytes ≡ 32 * rows_of_group p g → length (tabled p key bytes table) ≡ 32 * table_rows p
  long g key bytes table o lt lb = ap length (placed g key bytes table o) ∙ kept_long (32 * place_in (section_of p g) key) bytes table (room g key bytes table o lt lb) ∙ lt

  -- ---- parts of many keys
  module _ (parts : ℕ → List ℕ) where
    abbrev Fits : ℕ → Type 0
    Fits a = (g : ℕ) → owner p a ≡ Some g → length (parts a) ≡ 32 * rows_of_group p g

    -- a key without an owner leaves the table as it was
    long_any : (a : ℕ) (table : List ℕ) → Fits a → length table ≡ 32 * table_rows p → length (tabled p a (parts a) table) ≡ 32 * table_rows p
    long_any a table fits lt = by (owner p a) refl
      where
        by : (o : Option ℕ) → owner p a ≡ o → length (tabled p a (parts a) table) ≡ 32 * table_rows p
        by None e = ap (λ o. length (at_place p a (parts a) table o)) e ∙ lt
        by (Some g) e = long g a (parts a) table e lt (fits g e)

    module _ (g key n : ℕ) (o : owner p key ≡ Some g) (l : n < rows_of_group p g) where
      abbrev row : List ℕ → List ℕ
      row table = row_at (place_in (section_of p g) key + n) table

      -- a row that is already what its part has stays so
      stays : (a : ℕ) (table : List ℕ) → Fits a → length table ≡ 32 * table_rows p → row table ≡ row_at n (parts key) → row (tabled p a (parts a) table) ≡ row_at n (parts key)
      stays a table fits lt held = by (owner p a) refl
        where
          by : (x : Option ℕ) → owner p a ≡ x → row (tabled p a (parts a) table) ≡ row_at n (parts key)
          by None e = ap (λ x. row (at_place p a (parts a) table x)) e ∙ held
          by (Some k) e =
              ⊎_elim
              (λ (same : a ≡ key). ap (λ b. row (tabled p b (parts b) table)) same ∙ own g key (parts key) table o lt (fits_key same) n l)
              (λ (ne : a ≡ key → ⊥). others k g a key (parts a) table e o ne lt (fits k e) n l ∙ held)
              (cases_eq a key)
            where
              fits_key : a ≡ key → length (parts key) ≡ 32 * rows_of_group p g
              fits_key same = subst Fits same fits g o

      stay : (keys table : List ℕ) → All Fits keys → length table ≡ 32 * table_rows p → row table ≡ row_at n (parts key) → row (dealt_all p parts keys table) ≡ row_at n (parts key)
      stay [] table fit lt held = held
      stay (a ∷ keys) table fit lt held =
          let fits = All-head Fits a keys fit in
          stay keys (tabled p a (parts a) table) (All-tail Fits a keys fit) (long_any a table fits lt) (stays a table fits lt held)

      -- and that of a key among those dealt is so afterwards
      order : (keys table : List ℕ) → All Fits keys → length table ≡ 32 * table_rows p → Contains keys key → row (dealt_all p parts keys table) ≡ row_at n (parts key)
      order [] table fit lt among = absurd (omega (arith, among.1))
      order (a ∷ keys) table fit lt among =
          let fits = All-head Fits a keys fit in
          let rest = All-tail Fits a keys fit in
          ⊎_elim
          (λ (same : a ≡ key). stay keys (tabled p a (parts a) table) rest (long_any a table fits lt)
          (ap (λ b. row (tabled p b (parts b) table)) same ∙ own g key (parts key) table o lt (subst Fits same fits g o) n l))
          (λ (ne : a ≡ key → ⊥). order keys (tabled p a (parts a) table) rest (long_any a table fits lt) (Contains-tail a keys key ne among))
          (cases_eq a key)

    -- one key more
    more : (keys : List ℕ) (key : ℕ) (table : List ℕ) → dealt_all p parts (keys ++ key ∷ []) table ≡ tabled p key (parts key) (dealt_all p parts keys table)
    more [] key table = refl
    more (a ∷ keys) key table = more keys key (tabled p a (parts a) table)

    dealt_long : (keys table : List ℕ) → PartsFit p parts keys → length table ≡ 32 * table_rows p → length (dealt_all p parts keys table) ≡ 32 * table_rows p
    dealt_long [] table fit lt = lt
    dealt_long (a ∷ keys) table fit lt = dealt_long keys (tabled p a (parts a) table) (All-tail Fits a keys fit) (long_any a table (All-head Fits a keys fit) lt)

    -- so a helper lends it
    lends : (keys table : List ℕ) → length table ≡ 32 * table_rows p → PartsFit p parts keys → (g key : ℕ) → Contains keys key → owner p key ≡ Some g →
        HoldsPart (of_plan (dealt_all p parts keys table) p) key (parts key)
    lends keys table lt fit g key among o =
        let inside = s.inside g key (r.owner_owns g key o) in
        (lending p r s).part (dealt_all p parts keys table) g key (parts key) o (record {
          long = All-contains Fits keys key fit among g o;
          inside = omega (arith, inside, dealt_long keys table fit lt);
          row = λ n l. order g key n o l keys table fit lt among;
        })

    whole : (keys table : List ℕ) → length table ≡ 32 * table_rows p → PartsFit p parts keys → AllDealt p keys → IsTable p parts (dealt_all p parts keys table)
    whole keys table lt fit all = record {
      long = dealt_long keys table fit lt;
      dealt = λ g key o. lends keys table lt fit g key (all key (r.inside g key (r.owner_owns g key o))) o;
      undealt = λ key o. (lending p r s).undealt (dealt_all p parts keys table) key o;
    }

  pub tabling : Tabling p
  tabling = record {
    own = own;
    others = others;
    long = long;
    more = more;
    order = λ parts keys table lt fit g key n among o l. order parts g key n o l keys table fit lt among;
    lends = λ parts keys table lt fit g key among o. lends parts keys table lt fit g key among o;
    whole = whole;
  }
