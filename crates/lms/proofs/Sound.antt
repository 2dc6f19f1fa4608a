-- What fits together is accepted, and what is signed fits together.
use Rattle.std.proofs.Common.{◌≡◌, ℕ, zero, suc, ◌+◌, ◌-◌, ◌*◌, ◌/◌, ◌^◌, ◌<◌, Bool, true, ◌&&◌, List, ◌++◌, length, Some, sym, refl, ap, ◌∙◌, ap₂, arith}
use lib.Bits.{bit_xor}
use Rattle.std.proofs.lemmas.Slice.Eq.{bytes_eq-Decides}
use Rattle.std.proofs.lemmas.Bool.{and_from, le-leb, lt-ltb, eq-eqb}
use Rattle.rows.specs.Bytes.{u32str, str_to_u32, part, row_at, rows}
use Rattle.rows.proofs.Numbers.{u32_back}
use Rattle.rows.proofs.Rows.{rows_same, length_rows, row_of_all}
use Rattle.sizes.specs.Sizes.{levels, bits}
use Rattle.lmots.specs.LmOts.{p, digit, chain, one_time_key, digest, candidate_key, start, X, public_key}
use Rattle.lmots.proofs.Chains.{chain_cut, digit_below, length_chain}
use Rattle.lms.specs.Accepted.{Accepted}
use Rattle.lms.specs.Laws.{SigningSound, LengthsHold}
use Rattle.lms.specs.Lms.{leaf_node, inner_node, climbed, candidate_root, node, path_of, ots_code, tree_code, width_of, height_of, root_layout, layout, root, signature_with, accepts_as, given, accepts}
use Rattle.lms.proofs.Coding.{width_back, height_back, ots_code_small, tree_code_small, number_small}
use Rattle.lms.proofs.Joints.{key_length, key_tree, key_ots, key_id, key_root, sig_length, sig_number, sig_ots, sig_prefix, sig_rows, sig_tree, sig_path}
use Rattle.lms.proofs.Trees.{up_to_root, climbed_same}

-- a candidate reads p rows and h of the path only
pub candidate_same : (hashed : List ℕ → List ℕ) (I : List ℕ) (h w q : ℕ) (C message : List ℕ) (y y' path path' : ℕ → List ℕ) →
    ((i : ℕ) → i < p w → y i ≡ y' i) → ((k : ℕ) → k < h → path k ≡ path' k) →
    candidate_root hashed I h w q C message y path ≡ candidate_root hashed I h w q C message y' path'
candidate_same hashed I h w q C message y y' path path' s t =
    let Q = digest hashed I q C message in
    let a = λ (z : ℕ → List ℕ) (i : ℕ). chain hashed I q i (digit w Q i) (2 ^ w - 1 - digit w Q i) (z i) in
    ap (λ r. climbed hashed I path (2 ^ h + q) (leaf_node hashed I (2 ^ h + q) (one_time_key hashed I q r)) h)
    (rows_same (p w) (a y) (a y') (λ i l. ap (chain hashed I q i (digit w Q i) (2 ^ w - 1 - digit w Q i)) (s i l)))
    ∙ climbed_same hashed I path path' (2 ^ h + q) (leaf_node hashed I (2 ^ h + q) (one_time_key hashed I q (rows (p w) (a y')))) h t

module _ (hashed : List ℕ → List ℕ) (I seed : List ℕ) (h w q : ℕ) where
  -- chains ended from the signature's rows give the public key
  key_of_rows : (Q : List ℕ) → candidate_key hashed I w q Q (λ i. X hashed I seed q i (digit w Q i)) ≡ public_key hashed I seed w q
  key_of_rows Q =
      ap (one_time_key hashed I q)
      (rows_same (p w) (λ i. chain hashed I q i (digit w Q i) (2 ^ w - 1 - digit w Q i) (X hashed I seed q i (digit w Q i))) (λ i. X hashed I seed q i (2 ^ w - 1))
      (λ i l. chain_cut hashed I q i (start hashed I seed q i) (digit w Q i) (2 ^ w - 1) (digit_below w Q i)))

  -- and the root
  root_of_rows : q < 2 ^ h → (C message : List ℕ) →
      candidate_root hashed I h w q C message (λ i. X hashed I seed q i (digit w (digest hashed I q C message) i)) (path_of hashed I seed h w q) ≡ node hashed I seed h w h 1
  unfolding node
  root_of_rows o C message =
      let e : q ≡ 2 ^ h + q - 2 ^ h = omega arith in
      up_to_root hashed I seed h w q o (path_of hashed I seed h w q)
      (leaf_node hashed I (2 ^ h + q) (candidate_key hashed I w q (digest hashed I q C message) (λ i. X hashed I seed q i (digit w (digest hashed I q C message) i))))
      (ap (leaf_node hashed I (2 ^ h + q)) (key_of_rows (digest hashed I q C message) ∙ ap (public_key hashed I seed w) e))
      (λ k l. refl)

module _ (hashed : List ℕ → List ℕ) (long : (m : List ℕ) → length (hashed m) ≡ 32) (I seed : List ℕ) where
  pub length_start : (q i : ℕ) → length (start hashed I seed q i) ≡ 32
  unfolding start
  length_start q i = long _

  pub length_x : (q i j : ℕ) → length (X hashed I seed q i j) ≡ 32
  length_x q i j = length_chain hashed long I q i 0 j (start hashed I seed q i) (length_start q i)

  pub length_node : (h w k r : ℕ) → length (node hashed I seed h w k r) ≡ 32
  unfolding node leaf_node inner_node
  length_node h w zero r = long _
  length_node h w (suc k) r = long _

both : {a b : Bool} → a ≡ true → b ≡ true → (a && b) ≡ true
both {a} {b} x y = and_from a b x y

-- a key and a signature of parts that fit
module _
    (hashed : List ℕ → List ℕ) (h w q : ℕ) (A B I N D C Y Z message : List ℕ)
    (lA : length A ≡ 4) (lB : length B ≡ 4) (lI : length I ≡ 16) (lN : length N ≡ 32) (lD : length D ≡ 4) (lC : length C ≡ 32)
    (lY : length Y ≡ 32 * p w) (lZ : length Z ≡ 32 * h)
    (number : str_to_u32 D ≡ q) (qs : q < 2 ^ h)
    (rooted : candidate_root hashed I h w q C message (λ i. row_at i Y) (λ k. row_at k Z) ≡ N)
  where
    parts_accepted : accepts_as hashed (A ++ B ++ I ++ N) message (D ++ B ++ C ++ Y ++ A ++ Z) h w ≡ true
    unfolding accepts_as
    parts_accepted =
        let n = 32 * p w in
        let s = D ++ B ++ C ++ Y ++ A ++ Z in
        let nq : str_to_u32 (part 0 4 s) ≡ q = ap str_to_u32 (sig_number D B C Y A Z n lD lB lC lY lA) ∙ number in
        let cand : candidate_root hashed (part 8 16 (A ++ B ++ I ++ N)) h w (str_to_u32 (part 0 4 s)) (part 8 32 s) message
        (λ i. row_at i (part 40 n s)) (λ k. row_at k (part (44 + n) (32 * h) s))
        ≡ candidate_root hashed I h w q C message (λ i. row_at i Y) (λ k. row_at k Z) =
        λ j. candidate_root hashed (key_id A B I N lA lB lI lN j) h w (nq j) (sig_prefix D B C Y A Z n lD lB lC lY lA j) message
        (λ i. row_at i (sig_rows D B C Y A Z n lD lB lC lY lA j)) (λ k. row_at k (sig_path D B C Y A Z n lD lB lC lY lA (32 * h) lZ j)) in
        both (both (both (both
        (eq-eqb _ _ (sig_length D B C Y A Z n lD lB lC lY lA (32 * h) lZ))
        (eq-eqb _ _ (ap str_to_u32 (sig_ots D B C Y A Z n lD lB lC lY lA ∙ sym (key_ots A B I N lA lB lI lN)))))
        (eq-eqb _ _ (ap str_to_u32 (sig_tree D B C Y A Z n lD lB lC lY lA ∙ sym (key_tree A B I N lA lB lI lN)))))
        (lt-ltb _ _ (rw nq qs)))
        ((bytes_eq-Decides _ _).1 (key_root A B I N lA lB lI lN ∙ sym rooted ∙ sym cand))

-- what fits together is accepted
pub accepted_yes : (hashed : List ℕ → List ℕ) (ots tree : ℕ) → ots < 2 ^ 16 → tree < 2 ^ 16 → (key message sig : List ℕ) →
    Accepted hashed ots tree key message sig → accepts hashed ots tree key message sig ≡ true
accepted_yes hashed ots tree ots< tree< key message sig a =
    let h = levels a.height in
    let w = bits a.width in
    let A = u32str (tree_code tree h) in
    let B = u32str (ots_code ots w) in
    let Y = rows (p w) a.y in
    let Z = rows h a.path in
    let K = root_layout ots tree h w a.I a.N in
    let S = layout ots tree h w a.q a.C Y Z in
    let eh : height_of tree (str_to_u32 (part 0 4 K)) ≡ Some h =
    ap (λ s. height_of tree (str_to_u32 s)) (key_tree A B a.I a.N refl refl a.i_long a.n_long)
    ∙ ap (height_of tree) (u32_back (tree_code tree h) (tree_code_small tree h tree<)) ∙ height_back tree a.height in
    let ew : width_of ots (str_to_u32 (part 4 4 K)) ≡ Some w =
    ap (λ s. width_of ots (str_to_u32 s)) (key_ots A B a.I a.N refl refl a.i_long a.n_long)
    ∙ ap (width_of ots) (u32_back (ots_code ots w) (ots_code_small ots w ots<)) ∙ width_back ots a.width in
    let yes : accepts hashed ots tree K message S ≡ true =
    both (both (le-leb (length message) 65536 a.message_short) (eq-eqb (length K) 56 (key_length A B a.I a.N refl refl a.i_long a.n_long)))
    (ap₂ (λ b c. given b (λ d. given c (accepts_as hashed K message S d))) eh ew
    ∙ parts_accepted hashed h w a.q A B a.I a.N (u32str a.q) a.C Y Z message refl refl a.i_long a.n_long refl a.c_long
    (length_rows a.y (p w) a.y_long) (length_rows a.path h a.path_long)
    (u32_back a.q (number_small a.height a.q a.q_below)) a.q_below
    (candidate_same hashed a.I h w a.q a.C message (λ i. row_at i Y) a.y (λ k. row_at k Z) a.path
    (λ i l. row_of_all a.y (p w) i a.y_long l) (λ k l. row_of_all a.path h k a.path_long l)
    ∙ a.reached)) in
    ap₂ (λ k s. accepts hashed ots tree k message s) a.root_laid a.sig_laid ∙ yes

pub signing_sound : SigningSound
unfolding root signature_with
signing_sound hashed long ots tree ots< tree< height width I seed C lI lC q q< message lm =
    let h = levels height in
    let w = bits width in
    let Q = digest hashed I q C message in
    accepted_yes hashed ots tree ots< tree< (root hashed ots tree h w I seed) message (signature_with hashed ots tree h w I seed q C message)
    (record {
      height = height;
      width = width;
      I = I;
      N = node hashed I seed h w h 1;
      i_long = lI;
      n_long = length_node hashed long I seed h w h 1;
      root_laid = refl;
      message_short = lm;
      q = q;
      q_below = q<;
      C = C;
      c_long = lC;
      y = λ i. X hashed I seed q i (digit w Q i);
      y_long = λ i l. length_x hashed long I seed q i (digit w Q i);
      path = path_of hashed I seed h w q;
      path_long = λ k l. length_node hashed long I seed h w k (bit_xor ((2 ^ h + q) / 2 ^ k) 1);
      sig_laid = refl;
      reached = root_of_rows hashed I seed h w q q< C message;
    })

pub lengths_hold : LengthsHold
unfolding root signature_with
lengths_hold hashed long ots tree h w I seed C lI lC q message =
    let Q = digest hashed I q C message in
    let Y = λ (i : ℕ). X hashed I seed q i (digit w Q i) in
    let P = path_of hashed I seed h w q in (
      sig_length (u32str q) (u32str (ots_code ots w)) C (rows (p w) Y) (u32str (tree_code tree h)) (rows h P) (32 * p w) refl refl lC
          (length_rows Y (p w) (λ i l. length_x hashed long I seed q i (digit w Q i))) refl (32 * h)
          (length_rows P h (λ k l. length_node hashed long I seed h w k (bit_xor ((2 ^ h + q) / 2 ^ k) 1))),
      key_length (u32str (tree_code tree h)) (u32str (ots_code ots w)) I (node hashed I seed h w h 1) refl refl lI (length_node hashed long I seed h w h 1),
    )
