-- The rows of a key's part of the public table, and of its key sheet: the prefix, a check row for
-- each of k members, h path rows from level 0, and a row for every position of every component.
use Rattle.std.specs.Prelude.{ℕ, ◌+◌, ◌*◌}
use Rattle.lms.specs.Scheme.{components, positions}

abbrev pub part_rows : ℕ → ℕ → ℕ → ℕ
part_rows h w k = 1 + k + h + components w * positions w
