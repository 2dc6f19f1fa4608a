-- The verifier's tests in their order: where one fails, and where only the last is left.
use Rattle.std.proofs.Common.{◌≡◌, ℕ, ◌+◌, ◌*◌, ◌^◌, ◌<◌, ◌≤◌, Bool, true, false, ◌&&◌, eqb, ltb, List, length, Decides, sym, ◌∙◌}
use Rattle.std.specs.Str.{bytes_eq}
use Rattle.std.proofs.lemmas.Slice.Eq.{bytes_eq-Decides}
use Rattle.std.proofs.lemmas.Bool.{eq-eqb, ne_eqb, lt-ltb, le-ltb}
use Rattle.std.proofs.lemmas.Bool.Decides.{same_from_decides}
use Rattle.rows.specs.Bytes.{str_to_u32, part, row_at}
use Rattle.lmots.specs.LmOts.{p}
use Rattle.lms.specs.Lms.{signature_length, candidate_root, accepts_as}

module _ (hashed : List ℕ → List ℕ) (key message sig : List ℕ) (h w : ℕ) where
  abbrev a : Bool
  a = eqb (length sig) (signature_length h w)

  abbrev b : Bool
  b = eqb (str_to_u32 (part 4 4 sig)) (str_to_u32 (part 4 4 key))

  abbrev c : Bool
  c = eqb (str_to_u32 (part (40 + 32 * p w) 4 sig)) (str_to_u32 (part 0 4 key))

  abbrev d : Bool
  d = ltb (str_to_u32 (part 0 4 sig)) (2 ^ h)

  abbrev reached : List ℕ
  reached =
      candidate_root hashed (part 8 16 key) h w (str_to_u32 (part 0 4 sig)) (part 8 32 sig) message
      (λ i. row_at i (part 40 (32 * p w) sig)) (λ k. row_at k (part (44 + 32 * p w) (32 * h) sig))

  abbrev e : Bool
  e = bytes_eq (part 24 32 key) reached

  pub wrong_length : (length sig ≡ signature_length h w → ⊥) → false ≡ accepts_as hashed key message sig h w
  unfolding accepts_as
  wrong_length n = sym (λ j. ne_eqb (length sig) (signature_length h w) n j && b && c && d && e)

  module _ (l : length sig ≡ signature_length h w) where
    ta : a ≡ true
    ta = eq-eqb (length sig) (signature_length h w) l

    -- the two codes together
    pub wrong_codes : (b && c) ≡ false → false ≡ accepts_as hashed key message sig h w
    unfolding accepts_as
    wrong_codes n = sym ((λ j. ta j && b && c && d && e) ∙ (λ j. n j && d && e))

    module _ (o : (b && c) ≡ true) where
      tb : (a && b && c) ≡ true
      tb = (λ j. ta j && b && c) ∙ o

      pub wrong_number : 2 ^ h ≤ str_to_u32 (part 0 4 sig) → false ≡ accepts_as hashed key message sig h w
      unfolding accepts_as
      wrong_number n = sym (λ j. tb j && le-ltb (str_to_u32 (part 0 4 sig)) (2 ^ h) n j && e)

      pub last_test : str_to_u32 (part 0 4 sig) < 2 ^ h → (r : Bool) → Decides r (part 24 32 key ≡ reached) → r ≡ accepts_as hashed key message sig h w
      unfolding accepts_as
      last_test n r s =
          same_from_decides r e s (bytes_eq-Decides (part 24 32 key) reached)
          ∙ sym (λ j. tb j && lt-ltb (str_to_u32 (part 0 4 sig)) (2 ^ h) n j && e)
