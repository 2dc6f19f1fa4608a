-- The rule of a group line in its own words. An entry is the number in a field, and 0 for a blank.
use Rattle.std.specs.Prelude.{◌≡◌, ◌↔◌, ℕ, ◌<◌, ◌≤◌, true, false, ◌⊎◌, List, Some, None, slice_index, EachIndex, SomeIndex}
use Rattle.std.specs.List.{flat_map, range_with_len}
use Rattle.checks.specs.Checks.{first_refusal}
use Rattle.columns.specs.Number.{blank}
use Rattle.plan_sheet.specs.declared.refusal.Refusal.TheVariants.{Members}
use Rattle.plan_sheet.specs.Entries.{mask_of}
use Rattle.plan_sheet.specs.Checks.{field_at, worth, field_checks, entries, above_at, members_check, line_checks}

-- a field that is not blank holds a number that is not above the number of a field before it
abbrev pub NotRising : List ℕ → Type 0
NotRising es = SomeIndex es (λ j. (1 ≤ slice_index es j)
    × SomeIndex es (λ i. (i < j) × (slice_index es j ≤ slice_index es i)))

-- a field that is not blank stands behind a blank one
abbrev pub HasGap : List ℕ → Type 0
HasGap es = SomeIndex es (λ j. (1 ≤ slice_index es j)
    × SomeIndex es (λ i. (i < j) × (slice_index es i ≡ 0)))

-- all fields are blank
abbrev pub NoMember : List ℕ → Type 0
NoMember es = EachIndex es (λ i. slice_index es i ≡ 0)

-- the mask is not above that of the line before
abbrev pub NotAbove : ℕ → List ℕ → Type 0
NotAbove before es = mask_of es ≤ before

-- what can be wrong with the members of a line
abbrev pub MembersFault : List ℕ → ℕ → Type 0
MembersFault s l =
    let es = entries s l 1 8 in
    NotRising es ⊎ HasGap es ⊎ NoMember es ⊎ NotAbove (above_at s l) es

pub record GroupLines : Type 0 where
  -- the check of a line's members fails exactly if one of the four is wrong
  pub fails : (s : List ℕ) (l : ℕ) → ((members_check s l).0 ≡ false) ↔ MembersFault s l
  -- a line is refused by it exactly if, besides, all its fields pass
  pub refused : (s : List ℕ) (l : ℕ) →
      let fields = flat_map (field_checks s l) (range_with_len 1 8) in
      (first_refusal (line_checks s l) ≡ Some (Members l))
      ↔ ((first_refusal fields ≡ None) × MembersFault s l)
  -- and the entry of a field that passes is 0 exactly if the field is blank
  pub bare : (s : List ℕ) (l f : ℕ) → first_refusal (field_checks s l f) ≡ None →
      (worth (field_at 3 s l f) ≡ 0) ↔ (blank (field_at 3 s l f) ≡ true)
