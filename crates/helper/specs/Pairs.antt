-- What two helpers mean together.
use Rattle.std.specs.Prelude.{if◌then◌else◌, nat_lt}
use Rattle.helper.specs.Holding.{Holding}
use Rattle.helper.specs.declared.pair.Pair.{Pair}

-- for a key of which the first holds any row the first answers, and otherwise the second
abbrev pub paired : Holding → Holding → Holding
paired a b = record {
  number = λ key. if nat_lt 0 (a.number key) then a.number key else b.number key;
  row = λ key index. if nat_lt 0 (a.number key) then a.row key index else b.row key index;
}

-- a pair as a helper
abbrev pub of_pair : {A B : Type 0} → (A → Holding) → (B → Holding) → Pair A B → Holding
of_pair f g p = paired (f p.first) (g p.second)

-- both halves are
abbrev pub PairFaithful : {A B : Type 0} → (A → Type 0) → (B → Type 0) → Pair A B → Type 0
PairFaithful F G p = F p.first × G p.second
