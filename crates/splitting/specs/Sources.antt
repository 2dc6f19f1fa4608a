-- The trustees' pad sources, in trustee order, by what they mean.
use Rattle.std.specs.Prelude.{ℕ, Bool, true, false, not, ◌&&◌, List, [], ◌∷◌, replicate, slice_index_or}
use Rattle.std.specs.List.{list_any, list_all}
use Rattle.std.specs.Str.{bytes_eq}
use Rattle.rows.specs.Bytes.{xored}
use Rattle.pads.specs.declared.label.Label.{Label}
use Rattle.pads.specs.Row.{AllRows}
use Rattle.pads.specs.Source.{Source}

-- what a trustee without a source has: no key held, and zero rows
abbrev pub no_source : Source
no_source = record {
  held = λ k. false;
  pad = λ l. replicate 32 0;
  check = λ k prefix. replicate 32 0;
}

-- two sources that hold key 0 and have the same check pad for it and a zero prefix
abbrev pub clash : Source → Source → Bool
clash a b =
    a.held 0
    && (b.held 0 && bytes_eq (a.check 0 (replicate 32 0)) (b.check 0 (replicate 32 0)))

abbrev pub clashes_any : Source → List Source → Bool
clashes_any a others = list_any (clash a) others

-- no two of them clash
abbrev pub distinct : List Source → Bool
distinct [] = true
distinct (a ∷ rest) = not (clashes_any a rest) && distinct rest

-- the source of a trustee; they count from 1, and trustee 0 has none
abbrev pub source_of : List Source → ℕ → Source
source_of sources t = slice_index_or (no_source ∷ sources) t no_source

-- the pad of a trustee at a label
abbrev pub pad_of : List Source → ℕ → Label → List ℕ
pad_of sources t l = (source_of sources t).pad l

-- the sources of some trustees hold a key
abbrev pub all_hold : List Source → List ℕ → ℕ → Bool
all_hold sources ts key = list_all (λ t. (source_of sources t).held key) ts

-- a row with the pads of some trustees at a label added to it
abbrev pub padded : List Source → List ℕ → Label → List ℕ → List ℕ
padded sources [] l row = row
padded sources (t ∷ ts) l row = padded sources ts l (xored row (pad_of sources t l))

-- every pad and every check pad of every trustee is a row of 32 bytes
pub record PadsAreRows (sources : List Source) : Type 0 where
  pub pads : (t : ℕ) → AllRows (source_of sources t).pad
  pub checks : (t key : ℕ) → AllRows ((source_of sources t).check key)
