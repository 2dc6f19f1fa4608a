-- What a helper holds that lends one row.
use Rattle.std.specs.Prelude.{if◌then◌else◌, replicate}
use Rattle.helper.specs.Holding.{Holding}
use Rattle.ring_suites.specs.declared.once.Once.{Once}

-- as many rows as the helper below, and its rows until one was lent; zeros from then on
abbrev pub of_once : {H : Type 0} → (H → Holding) → Once H → Holding
of_once holding o = record {
  number = (holding o.below).number;
  row = λ key index. if o.lent then replicate 32 0 else (holding o.below).row key index;
}
