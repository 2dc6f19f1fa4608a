-- What the program prints.
use Rattle.std.specs.Prelude.{ℕ, ◌+◌, ◌-◌, Bool, true, false, List, [], ◌∷◌, ◌++◌, length, Some, None, Option, nat_le, string_bytes}
use Rattle.std.specs.List.{range_with_len, flat_map}
use Rattle.checks.specs.Checks.{first_refusal}
use Rattle.plan.specs.declared.group.Group.{Group}
use Rattle.plan.specs.Shape.{Shape}
use Rattle.plan.specs.Members.{members}
use Rattle.plan.specs.Keys.{undealt}
use Rattle.plan.specs.Groups.{group_of}
use Rattle.plan_sheet.specs.declared.refusal.Refusal.{Refusal}
use Rattle.plan_sheet.specs.declared.refusal.Refusal.TheVariants.{Layout}
use Rattle.plan_sheet.specs.declared.report.Report.{Report}
use Rattle.plan_sheet.specs.declared.report.Report.TheVariants.{Ranges, Refused}
use Rattle.columns.specs.Number.{right}
use Rattle.plan_sheet.specs.Refusals.{number_of, line_of, field_of}
use Rattle.plan_sheet.specs.Checks.{checks}
use Rattle.plan_sheet.specs.Law.{plan_of}

-- numbers in fields of 6, and a line feed
abbrev pub row : List ℕ → List ℕ
row ns = flat_map (right 6) ns ++ 10 ∷ []

-- a group's number, first key, last key and member count
unfoldable pub group_row : Group → List ℕ
group_row g = row (g.number ∷ g.first ∷ ((g.first + g.count) - 1) ∷ length (members g.mask) ∷ [])

-- a line a group, then the number of keys never dealt
unfoldable pub printed : Shape → List ℕ
printed p =
    flat_map (λ g. group_row (group_of p g)) (range_with_len 0 (length p.masks))
    ++ row (undealt p ∷ [])

-- a refusal's number, line and field
unfoldable pub refused : Refusal → List ℕ
refused e = row (number_of e ∷ line_of e ∷ field_of e ∷ [])

-- the checks of what the program was given: more than 4,096 bytes are refused unread
abbrev pub input_checks : List ℕ → List (Bool × Refusal)
input_checks input = (nat_le (length input) 4096, Layout) ∷ checks input

-- the ranges of the plan that the input writes, or a refusal's line
abbrev pub answer_to : Option Refusal → List ℕ → List ℕ
answer_to None input = printed (plan_of input)
answer_to (Some e) input = refused e

-- all that the program prints
abbrev pub answer : List ℕ → List ℕ
answer input = answer_to (first_refusal (input_checks input)) input

-- the text of a report, and whether it is a plan's
abbrev pub text_of : Report → List ℕ
text_of (Ranges text) = string_bytes text
text_of (Refused text) = string_bytes text

abbrev pub has_ranges : Report → Bool
has_ranges (Ranges text) = true
has_ranges (Refused text) = false
