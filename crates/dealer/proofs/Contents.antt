-- What each row of a key sheet holds.
use Rattle.std.proofs.Common.{◌≡◌, ℕ, ◌+◌, ◌*◌, ◌/◌, ◌%◌, ◌<◌, List, ◌++◌, length, Some, sym, ap, ◌∙◌, append_assoc, arith, slice_index, length-append, mul_comm}
use Rattle.std.proofs.lemmas.Nat.{div-mul-add, mod-mul-add, mul-add-lt}
use Rattle.rows.specs.Bytes.{part, row_at, rows}
use Rattle.rows.proofs.Rows.{length_rows, row_of_all, length_part, part_behind, part_front}
use Rattle.plan.specs.Keys.{owner}
use Rattle.lmots.proofs.Cells.{rows_cells}
use Rattle.lms.specs.Scheme.{Holds, components, positions}
use Rattle.layout.specs.Part.{part_rows}
use Rattle.layout.specs.Table.{rows_of_group}
use Rattle.pads.specs.declared.label.Label.{Label}
use Rattle.pads.specs.Labelled.{label_at}
use Rattle.pads.proofs.Placed.{each_row, back}
use Rattle.splitting.specs.Sources.{padded, PadsAreRows}
use Rattle.splitting.specs.Split.{members_of, part_row, split_for}
use Rattle.splitting.proofs.Listed.{length_padded}
use Rattle.dealer.specs.Sheet.{Deal, prefix_of, path_of, chain_of, check_row_of, sheet_for, by_owner, key_sheet, key_part, content}
use Rattle.dealer.specs.Laws.{KeySheets}
use Rattle.dealer.proofs.Tabling.{in_front}

-- ---- row i behind some rows, and row i of these
module _ (m i : ℕ) (f : ℕ → List ℕ) (rest : List ℕ) (long : (j : ℕ) → j < m → length (f j) ≡ 32) where
  behind_rows : row_at (m + i) (rows m f ++ rest) ≡ row_at i rest
  behind_rows =
      let e : 32 * (m + i) ≡ 32 * m + 32 * i = omega arith in
      ap (λ a. part a 32 (rows m f ++ rest)) e ∙ part_behind (rows m f) rest (32 * m) (32 * i) 32 (length_rows f m long)

  among_rows : i < m → row_at i (rows m f ++ rest) ≡ f i
  among_rows l = in_front (rows m f) rest (32 * i) 32 (omega (arith, length_rows f m long)) ∙ row_of_all f m i long l

-- ---- the four parts of a sheet
abbrev four : (k h n : ℕ) (C : List ℕ) (checks path chains : ℕ → List ℕ) → List ℕ
four k h n C checks path chains = C ++ rows k checks ++ rows h path ++ rows n chains

-- row by row
module _
    (k h n : ℕ) (C : List ℕ) (checks path chains : ℕ → List ℕ)
    (C-long : length C ≡ 32) (checks-long : (i : ℕ) → length (checks i) ≡ 32)
    (path-long : (i : ℕ) → length (path i) ≡ 32) (chains-long : (i : ℕ) → length (chains i) ≡ 32)
  where
    abbrev all : List ℕ
    all = four k h n C checks path chains

    abbrev behind : List ℕ
    behind = rows k checks ++ (rows h path ++ rows n chains)

    tied : all ≡ C ++ behind
    tied = simp append_assoc

    behind_prefix : (i : ℕ) → row_at (1 + i) all ≡ row_at i behind
    behind_prefix i =
        let e : 32 * (1 + i) ≡ 32 + 32 * i = omega arith in
        ap (row_at (1 + i)) tied ∙ ap (λ a. part a 32 (C ++ behind)) e ∙ part_behind C behind 32 (32 * i) 32 C-long

    prefix_row : row_at 0 all ≡ C
    prefix_row = ap (row_at 0) tied ∙ part_front C behind 32 C-long

    check_row : (i : ℕ) → i < k → row_at (1 + i) all ≡ checks i
    check_row i l = behind_prefix i ∙ among_rows k i checks (rows h path ++ rows n chains) (λ j _. checks-long j) l

    behind_checks : (i : ℕ) → row_at (1 + k + i) all ≡ row_at i (rows h path ++ rows n chains)
    behind_checks i =
        let e : 1 + k + i ≡ 1 + (k + i) = omega arith in
        ap (λ a. row_at a all) e ∙ behind_prefix (k + i) ∙ behind_rows k i checks (rows h path ++ rows n chains) (λ j _. checks-long j)

    path_row_at : (i : ℕ) → i < h → row_at (1 + k + i) all ≡ path i
    path_row_at i l = behind_checks i ∙ among_rows h i path (rows n chains) (λ j _. path-long j) l

    chain_row : (i : ℕ) → i < n → row_at (1 + k + h + i) all ≡ chains i
    chain_row i l =
        let e : 1 + k + h + i ≡ 1 + k + (h + i) = omega arith in
        ap (λ a. row_at a all) e ∙ behind_checks (h + i) ∙ behind_rows h i path (rows n chains) (λ j _. path-long j)
        ∙ row_of_all chains n i (λ j _. chains-long j) l

    all_long : length all ≡ 32 * (1 + k + h + n)
    all_long =
        ap length tied ∙ length-append C behind
        ∙ omega (
          arith,
          length-append (rows k checks) (rows h path ++ rows n chains),
          length-append (rows h path) (rows n chains),
          length_rows checks k (λ j _. checks-long j),
          length_rows path h (λ j _. path-long j),
          length_rows chains n (λ j _. chains-long j),
          C-long,
        )

-- the sheet of a dealt key
pub owned_sheet : (d : Deal) (g key : ℕ) → owner d.plan key ≡ Some g → key_sheet d key ≡ sheet_for d (members_of d.plan g) key
owned_sheet d g key o = ap (by_owner (λ x. sheet_for d (members_of d.plan x) key)) o

-- ---- and by labels
module _ (d : Deal) (ots tree : ℕ) (holds : Holds d.hashed ots tree) (are : PadsAreRows d.sources) where
  module _ (g key : ℕ) where
    abbrev k : ℕ
    k = length (members_of d.plan g)

    abbrev h : ℕ
    h = d.plan.height

    abbrev w : ℕ
    w = d.plan.width

    abbrev P : ℕ
    P = positions w

    abbrev N : ℕ
    N = components w * P

    abbrev C : List ℕ
    C = prefix_of d key

    abbrev checks : ℕ → List ℕ
    checks i = check_row_of d key (slice_index (members_of d.plan g) i)

    abbrev path : ℕ → List ℕ
    path = path_of d key

    -- the rows of the chains, counted through
    abbrev chains : ℕ → List ℕ
    chains m = chain_of d key (m / P) (m % P)

    abbrev sheet : List ℕ
    sheet = sheet_for d (members_of d.plan g) key

    abbrev parts : List ℕ
    parts = four k h N C checks path chains

    is_four : sheet ≡ parts
    is_four = ap (λ x. C ++ rows k checks ++ rows h path ++ x) (sym (rows_cells P (components w) (chain_of d key)))

    C-long : length C ≡ 32
    C-long = holds.prefix_long d.identifier d.seed key

    checks-long : (i : ℕ) → length (checks i) ≡ 32
    checks-long i = (are.checks (slice_index (members_of d.plan g) i) key C).long

    path-long : (i : ℕ) → length (path i) ≡ 32
    path-long i = holds.path_long d.identifier d.seed h w key i

    chains-long : (m : ℕ) → length (chains m) ≡ 32
    chains-long m = holds.component_long d.identifier d.seed key (m / P) (m % P)

    sheet-long : length sheet ≡ 32 * rows_of_group d.plan g
    sheet-long = ap length is_four ∙ all_long k h N C checks path chains C-long checks-long path-long chains-long

    -- row by row
    holds_content : (n : ℕ) → n < part_rows h w k → row_at n sheet ≡ content d g (label_at k h w key n)
    holds_content n l = ap (row_at n) is_four ∙ each_row k h w key (λ m x. row_at m parts ≡ content d g x)
        (prefix_row k h N C checks path chains C-long checks-long path-long chains-long)
        (check_row k h N C checks path chains C-long checks-long path-long chains-long)
        (path_row_at k h N C checks path chains C-long checks-long path-long chains-long)
        chain
        n l
      where
        chain : (i j : ℕ) → i < components w → j < P → row_at (1 + k + h + i * P + j) parts ≡ chain_of d key i j
        chain i j a b =
            let e : 1 + k + h + i * P + j ≡ 1 + k + h + (i * P + j) = omega arith in
            ap (λ x. row_at x parts) e
            ∙ chain_row k h N C checks path chains C-long checks-long path-long chains-long (i * P + j) (omega (arith, mul-add-lt i P j (components w) a b, mul_comm P (components w)))
            ∙ (λ t. chain_of d key (div-mul-add i P j b t) (mod-mul-add i P j b t))

    -- the row of a label of this key
    of_label : (n : ℕ) (l : Label) → l.key ≡ key → part_row d.plan g l ≡ Some n → row_at n sheet ≡ content d g l
    of_label n l same at =
        let q = back k h w n l at in
        holds_content n q.0 ∙ ap (content d g) (ap (λ a. label_at k h w a n) (sym same) ∙ q.1)

    -- ---- and of the part
    abbrev row : ℕ → List ℕ
    row n = padded d.sources (members_of d.plan g) (label_at k h w key n) (row_at n sheet)

    row-long : (n : ℕ) → n < rows_of_group d.plan g → length (row n) ≡ 32
    row-long n l = length_padded d.sources (members_of d.plan g) (label_at k h w key n) (row_at n sheet) ∙ length_part sheet (32 * n) 32 (omega (arith, sheet-long))

    part-long : length (rows (rows_of_group d.plan g) row) ≡ 32 * rows_of_group d.plan g
    part-long = length_rows row (rows_of_group d.plan g) row-long

    part_of_label : (n : ℕ) (l : Label) → l.key ≡ key → part_row d.plan g l ≡ Some n → row_at n (rows (rows_of_group d.plan g) row) ≡ padded d.sources (members_of d.plan g) l (content d g l)
    part_of_label n l same at =
        let q = back k h w n l at in
        let is : label_at k h w key n ≡ l = ap (λ a. label_at k h w a n) (sym same) ∙ q.1 in
        row_of_all row (rows_of_group d.plan g) n row-long q.0
        ∙ (λ t. padded d.sources (members_of d.plan g) (is t) (of_label n l same at t))

  owned_part : (g key : ℕ) → owner d.plan key ≡ Some g → key_part d key ≡ rows (rows_of_group d.plan g) (row g key)
  owned_part g key o = ap (λ x. split_for d.plan d.sources key (key_sheet d key) x) o ∙ ap (λ s. rows (rows_of_group d.plan g) (λ n. padded d.sources (members_of d.plan g) (label_at (length (members_of d.plan g)) d.plan.height d.plan.width key n) (row_at n s))) (owned_sheet d g key o)

  pub key_sheets : KeySheets d
  key_sheets = record {
    long = λ g key o. ap length (owned_sheet d g key o) ∙ sheet-long g key;
    labelled = λ key g n l o same at. ap (row_at n) (owned_sheet d g key o) ∙ of_label g key n l same at;
    part_long = λ g key o. ap length (owned_part g key o) ∙ part-long g key;
    part = λ g key n l o same at. ap (row_at n) (owned_part g key o) ∙ part_of_label g key n l same at;
  }
