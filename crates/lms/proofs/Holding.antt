-- What a ring may hold of the scheme.
use Rattle.std.proofs.Common.{◌≡◌, ℕ, ◌+◌, ◌/◌, ◌^◌, ◌<◌, ◌≤◌, true, List, length, refl, arith}
use lib.Bits.{bit_xor}
use Rattle.std.proofs.lemmas.Nat.{pow_pos}
use Rattle.std.proofs.lemmas.Bool.{and_parts, leb-true, eqb-true}
use Rattle.rows.specs.Bytes.{str_to_u32, part}
use Rattle.sizes.specs.declared.height.Height.{Height}
use Rattle.sizes.specs.declared.width.Width.{Width}
use Rattle.sizes.specs.Sizes.{levels, bits}
use Rattle.lmots.specs.LmOts.{prefix, digest}
use Rattle.lmots.proofs.Chains.{digit_below}
use Rattle.lms.specs.Lms.{root_length, signature_length, longest, width_of, signature_with, accepts_as, given, accepts}
use Rattle.lms.specs.Scheme.{Holds, position, positions}
use Rattle.lms.proofs.Coding.{height_given, width_given}
use Rattle.lms.proofs.Sound.{signing_sound, lengths_hold, length_start, length_x, length_node}

-- what a yes says of the lengths
module _ (hashed : List ℕ → List ℕ) (ots tree : ℕ) (key message sig : List ℕ) (yes : accepts hashed ots tree key message sig ≡ true) where
  first_tests : (length message ≤ longest) × (length key ≡ root_length)
  first_tests =
      let s = and_parts _ _ (and_parts _ _ yes).0 in
      (leb-true (length message) longest s.0, eqb-true (length key) root_length s.1)

  signature_sized : (height : Height) × (width : Width) × (length sig ≡ signature_length (levels height) (bits width))
  unfolding accepts_as
  signature_sized =
      let h = height_given tree (str_to_u32 (part 0 4 key)) (λ h. given (width_of ots (str_to_u32 (part 4 4 key))) (accepts_as hashed key message sig h)) (and_parts _ _ yes).1 in
      let w = width_given ots (str_to_u32 (part 4 4 key)) (accepts_as hashed key message sig (levels h.0)) h.2 in
      let codes = and_parts _ _ (and_parts _ _ w.2).0 in
      (h.0, w.0, eqb-true _ _ (and_parts _ _ (and_parts _ _ codes.0).0).0)

within : (w : ℕ) (Q : List ℕ) (i : ℕ) → position w Q i < positions w
within w Q i = let b = digit_below w Q i in let z = pow_pos w in omega arith

module _ (hashed : List ℕ → List ℕ) (long : (m : List ℕ) → length (hashed m) ≡ 32) where
  length_digest : (I : List ℕ) (q : ℕ) (C message : List ℕ) → length (digest hashed I q C message) ≡ 32
  unfolding digest
  length_digest I q C message = long _

  pub holds : (ots tree : ℕ) → ots < 2 ^ 16 → tree < 2 ^ 16 → Holds hashed ots tree
  unfolding signature_with
  holds ots tree ots< tree< = record {
    assembles = λ h w I seed q message. refl;
    verifies = λ height width I seed lI q l message m.
        signing_sound hashed long ots tree ots< tree< height width I seed (prefix hashed I seed q) lI (length_start hashed long I seed q 0xfffd) q l message m;
    within = within;
    prefix_long = λ I seed q. length_start hashed long I seed q 0xfffd;
    component_long = length_x hashed long;
    path_long = λ I seed h w q k. length_node hashed long I seed h w k (bit_xor ((2 ^ h + q) / 2 ^ k) 1);
    digest_long = length_digest;
    root_sized = λ key message sig yes. (first_tests hashed ots tree key message sig yes).1;
    signature_sized = signature_sized hashed ots tree;
    bounded = λ key message sig yes. (first_tests hashed ots tree key message sig yes).0;
    root_long = λ h w I seed lI. (lengths_hold hashed long ots tree h w I seed (prefix hashed I seed 0) lI (length_start hashed long I seed 0 0xfffd) 0 I).1;
    signature_long = λ h w I seed lI q message. (lengths_hold hashed long ots tree h w I seed (prefix hashed I seed q) lI (length_start hashed long I seed q 0xfffd) q message).0;
  }
