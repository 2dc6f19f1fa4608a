-- What splitting answers, as a function of the plan, the sources, the key and the rows.
use Rattle.std.specs.Prelude.{ℕ, ◌*◌, Bool, false, List, [], ◌∷◌, length, Some, None, Ok, Err, Option, Result, ◌==◌, is_some}
use Rattle.checks.specs.Checks.{first_refusal}
use Rattle.rows.specs.Bytes.{row_at, rows}
use Rattle.plan.specs.Shape.{Shape}
use Rattle.plan.specs.Keys.{owner}
pub use Rattle.plan.specs.Groups.{members_of}
use Rattle.layout.specs.Table.{rows_of_group}
use Rattle.pads.specs.declared.label.Label.{Label}
use Rattle.pads.specs.Labelled.{label_at, row_of}
use Rattle.pads.specs.Source.{Source}
use Rattle.splitting.specs.declared.refusal.Refusal.{Refusal}
use Rattle.splitting.specs.declared.refusal.Refusal.TheVariants.{Sources, SameChecks, Undealt, Buffer, NotHeld}
use Rattle.splitting.specs.Sources.{distinct, all_hold, padded}

-- ---- in the part of a key of group g: the label of row n, and the row of a label, where there is one
abbrev pub part_label : Shape → ℕ → ℕ → ℕ → Label
part_label p g key n = label_at (length (members_of p g)) p.height p.width key n

abbrev pub part_row : Shape → ℕ → Label → Option ℕ
part_row p g l = row_of (length (members_of p g)) p.height p.width l

-- ---- what is refused
-- a test of the group that owns a key: where no group does, it fails
abbrev pub of_owner : (ℕ → Bool) → Option ℕ → Bool
of_owner test None = false
of_owner test (Some g) = test g

-- what is checked, in this order, where `group` owns the key: as many sources as trustees, no two that
-- clash, a dealt key, a buffer that fits, and every member's source holds the key
abbrev pub split_checks : Shape → List Source → ℕ → (ℕ → Bool) → Option ℕ → List (Bool × Refusal)
split_checks p sources key fits group =
    (length sources == p.trustees, Sources)
    ∷ (distinct sources, SameChecks)
    ∷ (is_some group, Undealt)
    ∷ (of_owner fits group, Buffer)
    ∷ (of_owner (λ g. all_hold sources (members_of p g) key) group, NotHeld)
    ∷ []

abbrev pub refusal_if : Shape → List Source → ℕ → (ℕ → Bool) → Option Refusal
refusal_if p sources key fits = first_refusal (split_checks p sources key fits (owner p key))

-- a buffer of n bytes fits a part of group g
abbrev pub part_long : Shape → ℕ → ℕ → Bool
part_long p n g = n == 32 * rows_of_group p g

abbrev pub refusal : Shape → List Source → ℕ → ℕ → Option Refusal
refusal p sources key n = refusal_if p sources key (part_long p n)

-- ---- and what is written
-- rows of a key of group g, to each of which the pads of all members at its label are added
abbrev pub split_rows : Shape → List Source → ℕ → ℕ → List ℕ → List ℕ
split_rows p sources g key sheet =
    rows (rows_of_group p g)
    (λ n. padded sources (members_of p g) (part_label p g key n) (row_at n sheet))

abbrev pub split_for : Shape → List Source → ℕ → List ℕ → Option ℕ → List ℕ
split_for p sources key sheet None = sheet
split_for p sources key sheet (Some g) = split_rows p sources g key sheet

-- the whole answer: a refusal, or the rows afterwards
abbrev pub answer : {X : Type 0} → Option Refusal → X → Result X Refusal
answer None x = Ok x
answer (Some e) x = Err e

abbrev pub split : Shape → List Source → ℕ → List ℕ → Result (List ℕ) Refusal
split p sources key sheet =
    answer (refusal p sources key (length sheet)) (split_for p sources key sheet (owner p key))
