-- The bytes of labels tell them apart.
use Rattle.std.proofs.Common.{◌≡◌, ◌≢◌, ℕ, ◌+◌, ◌*◌, ◌/◌, ◌%◌, ◌^◌, ◌<◌, List, length, get_or, take, drop, sym, refl, ap, ◌∙◌, arith, length-append}
use Rattle.rows.specs.Bytes.{str_to_u32, part}
use Rattle.rows.proofs.Numbers.{u32_back}
use Rattle.pads.specs.declared.label.Label.{Label}
use Rattle.pads.specs.Labels.{label_bytes, check_bytes, InRange}
use Rattle.pads.specs.Laws.{Naming}

-- the label that some bytes are read as
label_from : List ℕ → Label
label_from s = record { kind = get_or s 0 0; key = str_to_u32 (part 1 4 s); i = get_or s 5 0 * 256 + get_or s 6 0; j = get_or s 7 0 }

u16_back : (x : ℕ) → x < 2 ^ 16 → x / 256 % 256 * 256 + x % 256 ≡ x
u16_back x l = omega arith

back : (l : Label) → InRange l → label_from (label_bytes l) ≡ l
unfolding label_from
back l r = λ t. record { kind = l.kind; key = u32_back l.key r.key t; i = u16_back l.i r.i t; j = l.j }

labels : (a b : Label) → InRange a → InRange b → label_bytes a ≡ label_bytes b → a ≡ b
labels a b ra rb e = sym (back a ra) ∙ ap label_from e ∙ back b rb

-- the label of a check pad, of which the prefix stands behind
abbrev check_label : ℕ → Label
check_label key = record { kind = 10; key = key; i = 0; j = 0 }

apart : (l : Label) (key : ℕ) (prefix : List ℕ) → 0 < length prefix → label_bytes l ≢ check_bytes key prefix
apart l key prefix some e = let same : 8 ≡ 8 + length prefix = ap length e ∙ length-append (label_bytes (check_label key)) prefix in omega arith

checks : (a b : ℕ) (x y : List ℕ) → a < 2 ^ 32 → b < 2 ^ 32 → check_bytes a x ≡ check_bytes b y → (a ≡ b) × (x ≡ y)
checks a b x y la lb e = (
  ap (λ (l : Label). l.key) (labels (check_label a) (check_label b) (in_range a la) (in_range b lb) (ap (take 8) e)),
  ap (drop 8) e,
)
  where
    in_range : (key : ℕ) → key < 2 ^ 32 → InRange (check_label key)
    in_range key l = record { kind = omega arith; key = l; i = omega arith; j = omega arith }

pub naming : Naming
naming = record {
  long = λ l. refl;
  check_long = λ key prefix. length-append (label_bytes (check_label key)) prefix;
  labels = labels;
  apart = apart;
  checks = checks;
}
