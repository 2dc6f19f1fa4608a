-- Which label each row of a key's part has: the prefix, a check row for each of k members, h path rows,
-- and the chains, position by position.
use Rattle.std.specs.Prelude.{ℕ, ◌+◌, ◌-◌, ◌*◌, ◌/◌, ◌%◌, if◌then◌else◌, ◌&&◌, Some, None, Option, ◌==◌, nat_lt}
use Rattle.lms.specs.Scheme.{components, positions}
use Rattle.pads.specs.declared.label.Label.{Label}

-- ---- the labels of a key, by what stands in the row
abbrev pub prefix_label : ℕ → Label
prefix_label key = record { kind = 4; key = key; i = 0; j = 0 }

-- of the member at position i
abbrev pub check_row_label : ℕ → ℕ → Label
check_row_label key i = record { kind = 5; key = key; i = i; j = 0 }

-- level i
abbrev pub path_label : ℕ → ℕ → Label
path_label key i = record { kind = 1; key = key; i = i; j = 0 }

-- chain i at position j
abbrev pub chain_label : ℕ → ℕ → ℕ → Label
chain_label key i j = record { kind = 2; key = key; i = i; j = j }

-- ---- the label of row n
abbrev pub label_at : ℕ → ℕ → ℕ → ℕ → ℕ → Label
label_at k h w key n =
    if nat_lt n 1 then prefix_label key
    else if nat_lt n (1 + k) then check_row_label key (n - 1)
    else if nat_lt n (1 + k + h) then path_label key (n - (1 + k))
    else chain_label key ((n - (1 + k + h)) / positions w) ((n - (1 + k + h)) % positions w)

-- ---- and back: the row of a label, where its key's part has it
abbrev pub row_of : ℕ → ℕ → ℕ → Label → Option ℕ
row_of k h w l =
    if l.kind == 4 && (l.i == 0 && l.j == 0) then Some 0
    else if l.kind == 5 && (nat_lt l.i k && l.j == 0) then Some (1 + l.i)
    else if l.kind == 1 && (nat_lt l.i h && l.j == 0) then Some (1 + k + l.i)
    else if l.kind == 2 && (nat_lt l.i (components w) && nat_lt l.j (positions w))
    then Some (1 + k + h + l.i * positions w + l.j)
    else None
