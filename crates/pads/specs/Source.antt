-- What a source of pads means.
use Rattle.std.specs.Prelude.{ℕ, Bool, true, List}
use Rattle.hash.specs.declared.hmac.HmacKey.{HmacKey}
use Rattle.pads.specs.declared.label.Label.{Label}
use Rattle.pads.specs.Labels.{label_bytes, check_bytes}

-- the keys held, a pad for each label, and a check pad for each key and prefix
pub record Source : Type 0 where
  pub held : ℕ → Bool
  pub pad : Label → List ℕ
  pub check : ℕ → List ℕ → List ℕ

-- a label to stand where a list of labels has ended
abbrev pub nothing : Label
nothing = record { kind = 0; key = 0; i = 0; j = 0 }

-- a message authentication code from the two half-fed states of its key
abbrev pub mac_of : {S : Type 0} → (S → List ℕ → S) → (S → List ℕ) → S → S → List ℕ → List ℕ
mac_of fed closed inner outer text = closed (fed outer (closed (fed inner text)))

-- and the code under a key that is kept as these two
abbrev pub mac_under : {H S : Type 0} →
    (H → S) → (S → List ℕ → S) → (S → List ℕ) → HmacKey H → List ℕ → List ℕ
mac_under state fed closed key = mac_of fed closed (state key.inner) (state key.outer)

-- every key held, and all pads codes of their labels
abbrev pub by_mac : (List ℕ → List ℕ) → Source
by_mac mac = record {
  held = λ k. true;
  pad = λ l. mac (label_bytes l);
  check = λ k prefix. mac (check_bytes k prefix);
}
