-- The reader and the sheet of a plan: a sheet passes all checks just if it is the sheet of a plan,
-- and then of the plan that is read.
use Rattle.std.specs.Prelude.{◌≡◌, ℕ, List, map, None}
use Rattle.std.specs.List.{range_with_len}
use Rattle.checks.specs.Checks.{first_refusal}
use Rattle.plan.specs.Shape.{Shape, Valid}
use Rattle.plan_sheet.specs.Written.{written}
use Rattle.plan_sheet.specs.Checks.{checks, n_of, h_of, w_of, m_of, mask_at}

-- what a sheet says, where it passes
abbrev pub plan_of : List ℕ → Shape
plan_of s = record {
  trustees = n_of s;
  height = h_of s;
  width = w_of s;
  masks = map (mask_at s) (range_with_len 2 (m_of s));
}

-- a sheet that passes is the one sheet of a plan
abbrev pub Sound : Type 0
Sound = (s : List ℕ) → first_refusal (checks s) ≡ None →
    Valid (plan_of s) × (s ≡ written (plan_of s))

-- the sheet of a plan passes, and says that plan
abbrev pub Complete : Type 0
Complete = (p : Shape) → Valid p →
    (first_refusal (checks (written p)) ≡ None) × (plan_of (written p) ≡ p)
