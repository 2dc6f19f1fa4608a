-- The checks of a sheet, in their order. Lines and fields count from 1.
use Rattle.std.specs.Prelude.{◌≡◌, ℕ, ◌+◌, ◌-◌, ◌*◌, ◌/◌, ◌%◌, ◌^◌, ◌<◌, Bool, true, if◌then◌else◌, ◌&&◌, ◌||◌, List, [], ◌∷◌, ◌++◌, map, length, take, drop, is_some, Some, None, Result, MatchResult, ◌==◌, nat_le, nat_lt, slice_index}
use Rattle.std.specs.List.{range_with_len, list_all, flat_map}
use Rattle.std.specs.Option.{unwrap_or}
use Rattle.checks.specs.Checks.{first_refusal}
use Rattle.sizes.specs.Sizes.{is_height, is_width}
use Rattle.plan.specs.Shape.{is_trustees, is_groups, Within, Rising}
use Rattle.columns.specs.Number.{number, blank}
use Rattle.plan_sheet.specs.declared.refusal.Refusal.{Refusal}
use Rattle.plan_sheet.specs.declared.refusal.Refusal.TheVariants.{Layout, NoNumber, OutOfRange, Members, Groups}
use Rattle.plan_sheet.specs.Entries.{orderly, mask_of}

-- ---- what a sheet holds
-- lines have 24 columns and a line feed
abbrev pub line_count : List ℕ → ℕ
line_count s = length s / 25

-- line l ends in its line feed
abbrev pub fed : List ℕ → ℕ → Bool
fed s l = slice_index s (25 * (l - 1) + 24) == 10

-- field f of line l in fields of some columns
abbrev pub field_at : ℕ → List ℕ → ℕ → ℕ → List ℕ
field_at columns s l f = take columns (drop (25 * (l - 1) + columns * (f - 1)) s)

-- the number in a field, or 0
abbrev pub worth : List ℕ → ℕ
worth bytes = unwrap_or (number bytes) 0

-- the four numbers of the heading
abbrev pub n_of : List ℕ → ℕ
n_of s = worth (field_at 6 s 1 1)

abbrev pub h_of : List ℕ → ℕ
h_of s = worth (field_at 6 s 1 2)

abbrev pub w_of : List ℕ → ℕ
w_of s = worth (field_at 6 s 1 3)

abbrev pub m_of : List ℕ → ℕ
m_of s = worth (field_at 6 s 1 4)

-- k entries of a group line from f on, 0 for a blank
abbrev pub entries : List ℕ → ℕ → ℕ → ℕ → List ℕ
entries s l f k = map (λ g. worth (field_at 3 s l g)) (range_with_len f k)

-- the mask of a group line
abbrev pub mask_at : List ℕ → ℕ → ℕ
mask_at s l = mask_of (entries s l 1 8)

-- the mask of the group line before, 0 before the first
abbrev pub above_at : List ℕ → ℕ → ℕ
above_at s l = if l == 2 then 0 else mask_at s (l - 1)

-- ---- the checks: each is a test, and the refusal where it fails
-- the length is that of whole lines, at least two, and each has its line feed
abbrev pub formed : List ℕ → Bool
formed s =
    (length s % 25 == 0 && nat_le 50 (length s))
    && list_all (fed s) (range_with_len 1 (line_count s))

-- a field of the heading: a number, and in its range
unfoldable pub quantity_checks : (ℕ → Bool) → ℕ → ℕ → List ℕ → List (Bool × Refusal)
quantity_checks range l f bytes =
    (is_some (number bytes), NoNumber l f)
    ∷ (range (worth bytes), OutOfRange l f)
    ∷ []

-- the four fields of the heading
abbrev pub heading_checks : List ℕ → List (Bool × Refusal)
heading_checks s =
    quantity_checks is_trustees 1 1 (field_at 6 s 1 1)
    ++ quantity_checks is_height 1 2 (field_at 6 s 1 2)
    ++ quantity_checks is_width 1 3 (field_at 6 s 1 3)
    ++ quantity_checks is_groups 1 4 (field_at 6 s 1 4)

-- as many group lines as groups, and no more than keys
abbrev pub groups_check : List ℕ → Bool × Refusal
groups_check s = (m_of s + 1 == line_count s && nat_le (m_of s) (2 ^ h_of s), Groups)

-- a field of a group line: blank or a number, and then that of one of n trustees
unfoldable pub entry_checks : ℕ → ℕ → ℕ → List ℕ → List (Bool × Refusal)
entry_checks n l f bytes =
    (blank bytes || is_some (number bytes), NoNumber l f)
    ∷ (blank bytes || (nat_le 1 (worth bytes) && nat_le (worth bytes) n), OutOfRange l f)
    ∷ []

-- field f of group line l
abbrev pub field_checks : List ℕ → ℕ → ℕ → List (Bool × Refusal)
field_checks s l f = entry_checks (n_of s) l f (field_at 3 s l f)

-- the members rise without a gap, and their mask is above that of the line before
abbrev pub members_check : List ℕ → ℕ → Bool × Refusal
members_check s l =
    (orderly (Some 0) (entries s l 1 8) && nat_lt (above_at s l) (mask_at s l), Members l)

-- a group line: its eight fields, and then its members
unfoldable pub line_checks : List ℕ → ℕ → List (Bool × Refusal)
line_checks s l = flat_map (field_checks s l) (range_with_len 1 8) ++ members_check s l ∷ []

-- a sheet: its layout, its heading, the number of its group lines, and then these line by line
unfoldable pub checks : List ℕ → List (Bool × Refusal)
checks s =
    (formed s, Layout) ∷ []
    ++ heading_checks s
    ++ groups_check s ∷ []
    ++ flat_map (line_checks s) (range_with_len 2 (line_count s - 1))

-- ---- what reading answers
-- a value, of which something holds, where all checks pass, and otherwise the refusal of the first
-- that fails
abbrev pub Gives : {X : Type 0} → List (Bool × Refusal) → (X → Type 0) → Result X Refusal → Type 0
Gives checks Holds r = MatchResult r
    (λ x. (first_refusal checks ≡ None) × Holds x)
    (λ e. first_refusal checks ≡ Some e)

-- a heading that passes, and its four numbers
pub record Headed (s : List ℕ) (n h w m : ℕ) : Type 0 where
  pub passed : first_refusal (heading_checks s) ≡ None
  pub n_is : n ≡ n_of s
  pub h_is : h ≡ h_of s
  pub w_is : w ≡ w_of s
  pub m_is : m ≡ m_of s
  pub n_in : is_trustees n ≡ true
  pub h_in : is_height h ≡ true
  pub w_in : is_width w ≡ true
  pub m_in : is_groups m ≡ true

-- m group lines that pass, and their masks
pub record Lined (s : List ℕ) (n m : ℕ) (masks : List ℕ) : Type 0 where
  pub passed : first_refusal (flat_map (line_checks s) (range_with_len 2 m)) ≡ None
  pub each : (g : ℕ) → g < m → slice_index masks g ≡ mask_at s (g + 2)
  pub within : Within (2 ^ n) m masks
  pub rising : Rising m masks
  pub long : length masks ≡ 70
