-- The assembled bytes give back their parts.
use Rattle.std.proofs.Common.{◌≡◌, ℕ, ◌+◌, ◌≤◌, List, [], ◌++◌, length, take, drop, sym, refl, ap, ◌∙◌, append_assoc, arith, length-append, length-drop}
use Rattle.std.proofs.lemmas.List.{take_all}
use Rattle.rows.specs.Bytes.{part}
use Rattle.rows.proofs.Rows.{part_behind, part_front, part_whole, part_then}
use Rattle.rows.proofs.Writing.{Put, grow}

module _ (a b c d : List ℕ) (la : length a ≡ 4) (lb : length b ≡ 4) (lc : length c ≡ 16) (ld : length d ≡ 32) where
  grouped : a ++ b ++ c ++ d ≡ a ++ (b ++ (c ++ d))
  grouped = simp append_assoc

  pub key_length : length (a ++ b ++ c ++ d) ≡ 56
  key_length = simp length-append (omega arith)

  pub key_tree : part 0 4 (a ++ b ++ c ++ d) ≡ a
  key_tree = ap (part 0 4) grouped ∙ part_front a (b ++ (c ++ d)) 4 la

  pub key_ots : part 4 4 (a ++ b ++ c ++ d) ≡ b
  key_ots = ap (part 4 4) grouped ∙ part_behind a (b ++ (c ++ d)) 4 0 4 la ∙ part_front b (c ++ d) 4 lb

  pub key_id : part 8 16 (a ++ b ++ c ++ d) ≡ c
  key_id =
      ap (part 8 16) grouped ∙ part_behind a (b ++ (c ++ d)) 4 4 16 la ∙ part_behind b (c ++ d) 4 0 16 lb ∙ part_front c d 16 lc

  pub key_root : part 24 32 (a ++ b ++ c ++ d) ≡ d
  key_root =
      ap (part 24 32) grouped ∙ part_behind a (b ++ (c ++ d)) 4 20 32 la ∙ part_behind b (c ++ d) 4 16 32 lb ∙ part_behind c d 16 0 32 lc
      ∙ part_whole d 32 ld

module _
    (a b c y d z : List ℕ) (n : ℕ)
    (la : length a ≡ 4) (lb : length b ≡ 4) (lc : length c ≡ 32) (ly : length y ≡ n) (ld : length d ≡ 4)
  where
    abbrev s : List ℕ
    s = a ++ b ++ c ++ y ++ d ++ z

    tied : s ≡ a ++ (b ++ (c ++ (y ++ (d ++ z))))
    tied = simp append_assoc

    pub sig_length : (m : ℕ) → length z ≡ m → length s ≡ 44 + n + m
    sig_length m e = simp length-append (omega arith)

    pub sig_number : part 0 4 s ≡ a
    sig_number = ap (part 0 4) tied ∙ part_front a (b ++ (c ++ (y ++ (d ++ z)))) 4 la

    past_ots : (m k : ℕ) → part (4 + (4 + m)) k s ≡ part m k (c ++ (y ++ (d ++ z)))
    past_ots m k =
        ap (part (4 + (4 + m)) k) tied ∙ part_behind a (b ++ (c ++ (y ++ (d ++ z)))) 4 (4 + m) k la
        ∙ part_behind b (c ++ (y ++ (d ++ z))) 4 m k lb

    pub sig_ots : part 4 4 s ≡ b
    sig_ots = ap (part 4 4) tied ∙ part_behind a (b ++ (c ++ (y ++ (d ++ z)))) 4 0 4 la ∙ part_front b (c ++ (y ++ (d ++ z))) 4 lb

    pub sig_prefix : part 8 32 s ≡ c
    sig_prefix = past_ots 0 32 ∙ part_front c (y ++ (d ++ z)) 32 lc

    pub sig_rows : part 40 n s ≡ y
    sig_rows = past_ots 32 n ∙ part_behind c (y ++ (d ++ z)) 32 0 n lc ∙ part_front y (d ++ z) n ly

    past_rows : (m k : ℕ) → part (40 + (n + m)) k s ≡ part m k (d ++ z)
    past_rows m k =
        let e : 40 + (n + m) ≡ 4 + (4 + (32 + (n + m))) = omega arith in
        ap (λ j. part j k s) e ∙ past_ots (32 + (n + m)) k ∙ part_behind c (y ++ (d ++ z)) 32 (n + m) k lc ∙ part_behind y (d ++ z) n m k ly

    pub sig_tree : part (40 + n) 4 s ≡ d
    sig_tree = let e : 40 + n ≡ 40 + (n + 0) = omega arith in ap (λ j. part j 4 s) e ∙ past_rows 0 4 ∙ part_front d z 4 ld

    pub sig_path : (m : ℕ) → length z ≡ m → part (44 + n) m s ≡ z
    sig_path m lz =
        let e : 44 + n ≡ 40 + (n + (4 + 0)) = omega arith in
        ap (λ j. part j m s) e ∙ past_rows (4 + 0) m ∙ part_behind d z 4 0 m ld ∙ part_whole z m lz

-- a key and a signature fall into their parts
module _ (s : List ℕ) where
  pub key_parts : length s ≡ 56 → s ≡ part 0 4 s ++ part 4 4 s ++ part 8 16 s ++ part 24 32 s
  key_parts l =
      let e : drop 24 s ≡ part 24 32 s = sym (take_all 32 (drop 24 s) (omega (arith, length-drop 24 s))) in
      part_then s 0 4 ∙ ap (λ t. part 0 4 s ++ t) (part_then s 4 4 ∙ ap (λ t. part 4 4 s ++ t) (part_then s 8 16 ∙ ap (λ t. part 8 16 s ++ t) e))
      ∙ tied4 (part 0 4 s) (part 4 4 s) (part 8 16 s) (part 24 32 s)
    where
      tied4 : (a b c d : List ℕ) → a ++ (b ++ (c ++ d)) ≡ a ++ b ++ c ++ d
      tied4 a b c d = simp append_assoc

  pub sig_parts : (n m : ℕ) → length s ≡ 44 + n + m → s ≡ part 0 4 s ++ part 4 4 s ++ part 8 32 s ++ part 40 n s ++ part (40 + n) 4 s ++ part (44 + n) m s
  sig_parts n m l =
      let a : 40 + n + 4 ≡ 44 + n = omega arith in
      let e : drop (40 + n + 4) s ≡ part (44 + n) m s = ap (λ k. drop k s) a ∙ sym (take_all m (drop (44 + n) s) (omega (arith, length-drop (44 + n) s))) in
      part_then s 0 4
      ∙ ap (λ t. part 0 4 s ++ t)
      (part_then s 4 4
      ∙ ap (λ t. part 4 4 s ++ t)
      (part_then s 8 32 ∙ ap (λ t. part 8 32 s ++ t) (part_then s 40 n ∙ ap (λ t. part 40 n s ++ t) (part_then s (40 + n) 4 ∙ ap (λ t. part (40 + n) 4 s ++ t) e))))
      ∙ tied6 (part 0 4 s) (part 4 4 s) (part 8 32 s) (part 40 n s) (part (40 + n) 4 s) (part (44 + n) m s)
    where
      tied6 : (a b c y d z : List ℕ) → a ++ (b ++ (c ++ (y ++ (d ++ z)))) ≡ a ++ b ++ c ++ y ++ d ++ z
      tied6 a b c y d z = simp append_assoc

-- a key written part by part
pub written_key : (o o₁ o₂ o₃ o₄ a b c d : List ℕ) → length a ≡ 4 → length b ≡ 4 → length c ≡ 16 → length d ≡ 32 →
    length o ≡ 56 → length o₁ ≡ 56 → length o₂ ≡ 56 → length o₃ ≡ 56 → length o₄ ≡ 56 →
    Put o 0 a o₁ → Put o₁ 4 b o₂ → Put o₂ 8 c o₃ → Put o₃ 24 d o₄ → o₄ ≡ a ++ b ++ c ++ d
written_key o o₁ o₂ o₃ o₄ a b c d la lb lc ld l l₁ l₂ l₃ l₄ p q r s =
    let e₁ : take 4 o₁ ≡ a = grow o o₁ [] a 0 4 p (omega arith) refl (omega arith) in
    let e₂ : take 8 o₂ ≡ a ++ b = grow o₁ o₂ a b 4 8 q (omega arith) e₁ (omega arith) in
    let e₃ : take 24 o₃ ≡ a ++ b ++ c = grow o₂ o₃ (a ++ b) c 8 24 r (omega arith) e₂ (omega arith) in
    let e₄ : take 56 o₄ ≡ a ++ b ++ c ++ d = grow o₃ o₄ (a ++ b ++ c) d 24 56 s (omega arith) e₃ (omega arith) in
    sym (take_all 56 o₄ (omega arith)) ∙ e₄

-- and the first 40 bytes of a signature
pub written_head : (o o₁ o₂ o₃ a b c : List ℕ) → length a ≡ 4 → length b ≡ 4 → length c ≡ 32 →
    40 ≤ length o → length o₁ ≡ length o → length o₂ ≡ length o → Put o 0 a o₁ → Put o₁ 4 b o₂ → Put o₂ 8 c o₃ → take 40 o₃ ≡ a ++ b ++ c
written_head o o₁ o₂ o₃ a b c la lb lc l l₁ l₂ p q r =
    let e₁ : take 4 o₁ ≡ a = grow o o₁ [] a 0 4 p (omega arith) refl (omega arith) in
    let e₂ : take 8 o₂ ≡ a ++ b = grow o₁ o₂ a b 4 8 q (omega arith) e₁ (omega arith) in
    grow o₂ o₃ (a ++ b) c 8 40 r (omega arith) e₂ (omega arith)

-- and the rest of it behind these
pub written_rest : (n m : ℕ) (o₃ o₄ o₅ o₆ F y d z : List ℕ) → length o₆ ≡ 44 + n + m → take 40 o₃ ≡ F →
    take (40 + n) o₄ ≡ take 40 o₃ ++ y → take (40 + n + 4) o₅ ≡ take (40 + n) o₄ ++ d → take (40 + n + 4 + m) o₆ ≡ take (40 + n + 4) o₅ ++ z →
    o₆ ≡ F ++ y ++ d ++ z
written_rest n m o₃ o₄ o₅ o₆ F y d z l e s t v =
    sym (take_all (40 + n + 4 + m) o₆ (omega arith)) ∙ v ∙ ap (λ x. x ++ z) (t ∙ ap (λ x. x ++ d) (s ∙ ap (λ x. x ++ y) e))

-- what `put` writes lies behind what was in front
pub put_behind : (o o' b : List ℕ) (a n : ℕ) → Put o a b o' → n ≤ length o → a + length b ≡ n → take n o' ≡ take a o ++ b
put_behind o o' b a n put fits l = grow o o' (take a o) b a n put (omega arith) refl l
