-- The bytes of labels.
use Rattle.std.specs.Prelude.{ℕ, ◌^◌, ◌<◌, List, ◌++◌}
use Rattle.rows.specs.Bytes.{u8str, u16str, u32str}
use Rattle.pads.specs.declared.label.Label.{Label}

-- kind, key, i and j, each with its top byte first
abbrev pub label_bytes : Label → List ℕ
label_bytes l = u8str l.kind ++ u32str l.key ++ u16str l.i ++ u8str l.j

-- a check pad's: kind 10 and the key, and the prefix behind them
abbrev pub check_bytes : ℕ → List ℕ → List ℕ
check_bytes key prefix = label_bytes (record { kind = 10; key = key; i = 0; j = 0 }) ++ prefix

-- fields that fit in their 1, 4, 2 and 1 bytes
pub record InRange (l : Label) : Type 0 where
  pub kind : l.kind < 2 ^ 8
  pub key : l.key < 2 ^ 32
  pub i : l.i < 2 ^ 16
  pub j : l.j < 2 ^ 8
