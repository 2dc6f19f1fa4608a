-- What is accepted fits together.
use Rattle.std.proofs.Common.{◌≡◌, ℕ, ◌+◌, ◌*◌, ◌<◌, ◌≤◌, true, List, ◌++◌, length, get_or, sym, refl, ap, ◌∙◌, ap₂, arith}
use Rattle.std.proofs.lemmas.Slice.Eq.{bytes_eq-Decides}
use Rattle.std.proofs.lemmas.Bool.{and_parts, leb-true, ltb-true, eqb-true}
use Rattle.rows.specs.Bytes.{u32str, str_to_u32, part, row_at}
use Rattle.rows.proofs.Numbers.{bytes_back}
use Rattle.rows.proofs.Rows.{rows_whole, length_part}
use Rattle.sizes.specs.declared.height.Height.{Height}
use Rattle.sizes.specs.declared.width.Width.{Width}
use Rattle.sizes.specs.Sizes.{levels, bits}
use Rattle.lmots.specs.LmOts.{p}
use Rattle.lms.specs.Accepted.{Accepted}
use Rattle.lms.specs.Lms.{ots_code, tree_code, width_of, accepts_as, given, accepts}
use Rattle.lms.proofs.Coding.{height_given, width_given}
use Rattle.lms.proofs.Joints.{key_parts, sig_parts}

module _
    (hashed : List ℕ → List ℕ) (ots tree : ℕ) (key message sig : List ℕ)
    (key-bytes : (i : ℕ) → get_or key i 0 < 256) (sig-bytes : (i : ℕ) → get_or sig i 0 < 256)
  where
    parted : length message ≤ 65536 → length key ≡ 56 → (height : Height) (width : Width) →
        str_to_u32 (part 0 4 key) ≡ tree_code tree (levels height) → str_to_u32 (part 4 4 key) ≡ ots_code ots (bits width) →
        accepts_as hashed key message sig (levels height) (bits width) ≡ true → Accepted hashed ots tree key message sig
    unfolding accepts_as
    parted lm lk height width eh ew holds =
        let h = levels height in
        let w = bits width in
        let n = 32 * p w in
        let t₁ = and_parts _ _ holds in
        let t₂ = and_parts _ _ t₁.0 in
        let t₃ = and_parts _ _ t₂.0 in
        let t₄ = and_parts _ _ t₃.0 in
        let ls : length sig ≡ 44 + n + 32 * h = eqb-true _ _ t₄.0 in
        let so : str_to_u32 (part 4 4 sig) ≡ ots_code ots w = eqb-true _ _ t₄.1 ∙ ew in
        let st : str_to_u32 (part (40 + n) 4 sig) ≡ tree_code tree h = eqb-true _ _ t₃.1 ∙ eh in
        let Y = part 40 n sig in
        let Z = part (44 + n) (32 * h) sig in
        let lY : length Y ≡ 32 * p w = length_part sig 40 n (omega arith) in
        let lZ : length Z ≡ 32 * h = length_part sig (44 + n) (32 * h) (omega arith) in
        record {
          height = height;
          width = width;
          I = part 8 16 key;
          N = part 24 32 key;
          i_long = length_part key 8 16 (omega arith);
          n_long = length_part key 24 32 (omega arith);
          root_laid = key_parts key lk
              ∙ ap₂ (λ a b. a ++ b ++ part 8 16 key ++ part 24 32 key)
              (sym (bytes_back key 0 (omega arith) key-bytes) ∙ ap u32str eh) (sym (bytes_back key 4 (omega arith) key-bytes) ∙ ap u32str ew);
          message_short = lm;
          q = str_to_u32 (part 0 4 sig);
          q_below = ltb-true _ _ t₂.1;
          C = part 8 32 sig;
          c_long = length_part sig 8 32 (omega arith);
          y = λ i. row_at i Y;
          y_long = λ i l. length_part Y (32 * i) 32 (omega arith);
          path = λ k. row_at k Z;
          path_long = λ k l. length_part Z (32 * k) 32 (omega arith);
          sig_laid = sig_parts sig n (32 * h) ls
              ∙ (λ j. sym (bytes_back sig 0 (omega arith) sig-bytes) j ++ (sym (bytes_back sig 4 (omega arith) sig-bytes) ∙ ap u32str so) j ++ part 8 32 sig
              ++ rows_whole Y (p w) (λ i. row_at i Y) lY (λ i l. refl) j
              ++ (sym (bytes_back sig (40 + n) (omega arith) sig-bytes) ∙ ap u32str st) j
              ++ rows_whole Z h (λ k. row_at k Z) lZ (λ k l. refl) j);
          reached = sym ((bytes_eq-Decides _ _).0 t₁.1);
        }

    pub accepted_from : accepts hashed ots tree key message sig ≡ true → Accepted hashed ots tree key message sig
    accepted_from holds =
        let t = and_parts _ _ holds in
        let s = and_parts _ _ t.0 in
        let h = height_given tree (str_to_u32 (part 0 4 key)) (λ h. given (width_of ots (str_to_u32 (part 4 4 key))) (accepts_as hashed key message sig h)) t.1 in
        let w = width_given ots (str_to_u32 (part 4 4 key)) (accepts_as hashed key message sig (levels h.0)) h.2 in
        parted (leb-true _ _ s.0) (eqb-true _ _ s.1) h.0 w.0 h.1 w.1 w.2
