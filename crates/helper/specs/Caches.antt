-- What a cache means: what it stands over, and which rows it keeps.
use Rattle.std.specs.Prelude.{ℕ, List, Option}
use Rattle.helper.specs.declared.cache.Cache.{Cache}
use Rattle.helper.specs.Holding.{Holding}
use Rattle.helper.specs.Entries.{lookup, cached, Agrees}

module _ {H : Type 0} where
  -- the helper below
  abbrev pub below_of : Cache H → H
  below_of c = c.below

  -- the row that it keeps of a key at an index, or none
  abbrev pub kept : Cache H → ℕ → ℕ → Option (List ℕ)
  kept c key index = lookup c.entries key index

  -- the rows that it keeps before those below
  abbrev pub of_cache : (H → Holding) → Cache H → Holding
  of_cache holding c = cached c.entries (holding c.below)

  -- each row that it keeps is the one below
  abbrev pub KeepsBelow : (H → Holding) → Cache H → Type 0
  KeepsBelow holding c = Agrees c.entries (holding c.below)

  -- the helper below is faithful, and each row that is kept is the one below
  abbrev pub CacheFaithful : (H → Holding) → (H → Type 0) → Cache H → Type 0
  CacheFaithful holding Faithful c = Faithful c.below × KeepsBelow holding c
