-- How many keys of a range are spent, and how many are free.
use Rattle.std.specs.Prelude.{ℕ, ◌+◌, Bool, not, ◌&&◌, count_by, nat_le, nat_lt}
use Rattle.std.specs.List.{range_with_len}
use Rattle.ledger.specs.Standing.{Standing}

-- whether a number is one of count numbers from first on
abbrev pub in_range : ℕ → ℕ → ℕ → Bool
in_range first count k = nat_le first k && nat_lt k (first + count)

-- how many of count numbers from first on are spent
unfoldable pub spent_in : Standing → ℕ → ℕ → ℕ
spent_in s first count = count_by s.spent (range_with_len first count)

-- and how many are free
unfoldable pub free_in : Standing → ℕ → ℕ → ℕ
free_in s first count = count_by (λ k. not (s.spent k)) (range_with_len first count)
