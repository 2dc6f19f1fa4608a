-- The order of the checks, told by the places that their refusals name.
use Rattle.std.specs.Prelude.{◌≡◌, ℕ, ◌+◌, ◌*◌, ◌<◌, ◌≤◌, Bool, false, if◌then◌else◌, List, Some, ◌==◌, slice_get}
use Rattle.checks.specs.Checks.{first_refusal}
use Rattle.plan_sheet.specs.declared.refusal.Refusal.{Refusal}
use Rattle.plan_sheet.specs.Refusals.{number_of, line_of, field_of}
use Rattle.plan_sheet.specs.Checks.{checks}

-- a refusal's rank: by its line, in a line by its field, a whole line (field 0) behind its eight
-- fields, and at one place by its number
abbrev pub rank : Refusal → ℕ
rank e = 100 * line_of e + 10 * (if field_of e == 0 then 9 else field_of e) + number_of e

pub record InPlace : Type 0 where
  -- the checks of a sheet rise
  pub rising : (s : List ℕ) (i j : ℕ) (a b : Bool × Refusal) → i < j →
      slice_get (checks s) i ≡ Some a → slice_get (checks s) j ≡ Some b → rank a.1 < rank b.1
  -- so the refusal of a sheet is the lowest of all checks that fail
  pub lowest : (s : List ℕ) (e : Refusal) → first_refusal (checks s) ≡ Some e →
      (i : ℕ) (r : Refusal) → slice_get (checks s) i ≡ Some (false, r) → rank e ≤ rank r
