-- What a ledger means that is lent.
use Rattle.std.specs.Prelude.{ℕ}
use Rattle.std.specs.Borrow.{MutBor}
use Rattle.ledger.specs.Standing.{Standing}

-- what the ledger means that is lent
abbrev pub of_lent : {L : Type 0} → (L → Standing) → MutBor L → Standing
of_lent f loan = f loan.now

-- the same loan, with a key spent on the ledger
abbrev pub lent_after : {L : Type 0} → (L → ℕ → L) → MutBor L → ℕ → MutBor L
lent_after f loan key = record loan { now = f loan.now key }
