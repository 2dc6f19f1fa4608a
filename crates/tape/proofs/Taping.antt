-- Tapes, their lines, and what they list.
use Rattle.std.proofs.Common.{◌≡◌, ℕ, zero, suc, ◌+◌, ◌*◌, ◌/◌, ◌%◌, ◌^◌, ◌<◌, ◌≤◌, Bool, true, false, cond, not, ◌&&◌, ◌||◌, eqb, ltb, leb, List, [], ◌∷◌, ◌++◌, map, length, get_or, take, replicate, Some, None, Option, sym, refl, ap, ◌∙◌, ⊎_elim, append_assoc, arith}
use Rattle.std.specs.List.{flat_map, cons_option, list_any, AllByRecursion as All, IsDistinct}
use Rattle.std.proofs.lemmas.List.{length-append, take_at, get_or_at, replicate-append-replicate, take_more, take_all, length-take-le, length-replicate}
use Rattle.std.proofs.Math.Bool.{or-false}
use Rattle.std.proofs.lemmas.Bool.{and_parts, and_from, or_parts, cases_Bool, cond-true, cond-false, eq-eqb, eqb-true, ltb-true, lt-ltb, not-true, not_from_false, false≢true}
use Rattle.std.proofs.lemmas.List.Elements.{All-from_recursion}
use Rattle.std.proofs.lemmas.List.Folds.{list_any_none}
use Rattle.std.proofs.lemmas.Map.Keys.{IsDistinct-cons, IsDistinct-head, IsDistinct-tail}
use Rattle.std.proofs.lemmas.Option.{none-some}
use Rattle.sizes.specs.declared.height.Height.{Height}
use Rattle.sizes.specs.Sizes.{levels}
use Rattle.columns.specs.Number.{spaces, right, number, blank}
use Rattle.columns.proofs.Telling.{spaces_are}
use Rattle.columns.proofs.Text.{number_is, number_right, length_right}
use Rattle.sizes.proofs.Heights.{keys_most}
use Rattle.tape.specs.Lines.{lines, line_of, taped, line_key, unused, listed, lists, blanks, all_unused, fresh_key, sound, spent_on, flat, with_line}
use Rattle.checks.proofs.Ordered.{passed}
use Rattle.tape.specs.declared.refusal.Refusal.TheVariants.{Damaged}
use Rattle.tape.specs.Tapes.{whole_lines, checks}
use Rattle.tape.specs.Laws.{OfTree, Kept, Accepted}

-- ---- one line
abbrev pub Small : ℕ → Type 0
Small key = key < 100000

pub length_line : (key : ℕ) → Small key → length (line_of key) ≡ 6
length_line key s = length-append (right 5 key) (10 ∷ []) ∙ omega (arith, length_right 5 key 5 (omega arith) (omega arith) (omega arith) (omega arith))

pub key_of_line : (key : ℕ) → Small key → line_key (line_of key) ≡ Some key
key_of_line key s =
    let five = length_right 5 key 5 (omega arith) (omega arith) (omega arith) (omega arith) in
    let six : (eqb (length (line_of key)) 6 && eqb (get_or (line_of key) 5 0) 10) ≡ true = and_from (eqb (length (line_of key)) 6) (eqb (get_or (line_of key) 5 0) 10) (eq-eqb _ _ (length_line key s)) (eq-eqb _ _ (get_or_at (right 5 key) 10 [] 0 5 five)) in
    cond-true (eqb (length (line_of key)) 6 && eqb (get_or (line_of key) 5 0) 10) (number (take 5 (line_of key))) None six ∙ ap number (take_at (right 5 key) (10 ∷ []) 5 five) ∙ number_right 5 key (omega arith)

pub unused_is : (line : List ℕ) → unused line ≡ true → line ≡ spaces 6
unused_is line e = let p = and_parts (eqb (length line) 6) (blank line) e in spaces_are line p.1 ∙ ap spaces (eqb-true _ _ p.0)

pub used_line : (key : ℕ) → Small key → unused (line_of key) ≡ false
used_line key s =
    ⊎_elim
    (λ (e : unused (line_of key) ≡ true).
    let five = length_right 5 key 5 (omega arith) (omega arith) (omega arith) (omega arith) in
    let ten : ◌≡◌ {A = ℕ} 10 32 = sym (get_or_at (right 5 key) 10 [] 0 5 five) ∙ ap (λ l. get_or l 5 0) (unused_is (line_of key) e) in
    absurd (omega arith))
    (λ (e : unused (line_of key) ≡ false). e)
    (cases_Bool (unused (line_of key)))

-- a used line is the line of its key
line_is : (line : List ℕ) (key : ℕ) → line_key line ≡ Some key → line ≡ line_of key
line_is line key e =
    ⊎_elim
    (λ (t : (eqb (length line) 6 && eqb (get_or line 5 0) 10) ≡ true).
    let p = and_parts (eqb (length line) 6) (eqb (get_or line 5 0) 10) t in
    let six : length line ≡ 6 = eqb-true _ _ p.0 in
    let five : length (take 5 line) ≡ 5 = length-take-le 5 line (omega arith) in
    let n = number_is (take 5 line) key (omega arith) (sym (cond-true (eqb (length line) 6 && eqb (get_or line 5 0) 10) (number (take 5 line)) None t) ∙ e) in
    let r : take 5 line ≡ right 5 key = n.0 ∙ ap (λ k. right k key) five in
    let whole : take 6 line ≡ take 5 line ++ get_or line 5 0 ∷ [] = take_more line 5 0 (omega arith) in
    sym (take_all 6 line (omega arith)) ∙ whole ∙ ap (λ c. take 5 line ++ c ∷ []) (eqb-true _ _ p.1) ∙ ap (λ xs. xs ++ 10 ∷ []) r)
    (λ (f : (eqb (length line) 6 && eqb (get_or line 5 0) 10) ≡ false). absurd (none-some key (sym (cond-false (eqb (length line) 6 && eqb (get_or line 5 0) 10) (number (take 5 line)) None f) ∙ e)))
    (cases_Bool (eqb (length line) 6 && eqb (get_or line 5 0) 10))

-- ---- lines of bytes
pub lines_cons : (line rest : List ℕ) → length line ≡ 6 → lines (line ++ rest) ≡ line ∷ lines rest
unfolding lines
lines_cons [] rest h = absurd (omega arith)
lines_cons (a ∷ []) rest h = absurd (omega arith)
lines_cons (a ∷ b ∷ []) rest h = absurd (omega arith)
lines_cons (a ∷ b ∷ c ∷ []) rest h = absurd (omega arith)
lines_cons (a ∷ b ∷ c ∷ d ∷ []) rest h = absurd (omega arith)
lines_cons (a ∷ b ∷ c ∷ d ∷ e ∷ []) rest h = absurd (omega arith)
lines_cons (a ∷ b ∷ c ∷ d ∷ e ∷ f ∷ []) rest h = refl
lines_cons (a ∷ b ∷ c ∷ d ∷ e ∷ f ∷ g ∷ more) rest h = absurd (omega arith)

pub flat_lines : (xs : List ℕ) → flat (lines xs) ≡ xs
unfolding lines
flat_lines [] = refl
flat_lines (a ∷ []) = refl
flat_lines (a ∷ b ∷ []) = refl
flat_lines (a ∷ b ∷ c ∷ []) = refl
flat_lines (a ∷ b ∷ c ∷ d ∷ []) = refl
flat_lines (a ∷ b ∷ c ∷ d ∷ e ∷ []) = refl
flat_lines (a ∷ b ∷ c ∷ d ∷ e ∷ f ∷ rest) = ap (λ t. a ∷ b ∷ c ∷ d ∷ e ∷ f ∷ t) (flat_lines rest)

-- the lines of a tape
abbrev pub taped_lines : List ℕ → ℕ → List (List ℕ)
taped_lines keys room = map line_of keys ++ replicate room (spaces 6)

six_more : (room : ℕ) → spaces (6 * suc room) ≡ spaces 6 ++ spaces (6 * room)
six_more room = let e : 6 * suc room ≡ 6 + 6 * room = omega arith in ap spaces e ∙ sym (replicate-append-replicate 6 (6 * room) 32)

lines_spaces : (room : ℕ) → lines (spaces (6 * room)) ≡ replicate room (spaces 6)
unfolding lines
lines_spaces zero = refl
lines_spaces (suc room) = ap lines (six_more room) ∙ lines_cons (spaces 6) (spaces (6 * room)) refl ∙ ap (λ t. spaces 6 ∷ t) (lines_spaces room)

pub lines_taped : (keys : List ℕ) (room : ℕ) → All Small keys → lines (taped keys room) ≡ taped_lines keys room
unfolding taped
lines_taped [] room a = lines_spaces room
lines_taped (key ∷ keys) room a =
    ap lines (append_assoc (line_of key) (flat_map line_of keys) (spaces (6 * room)))
    ∙ lines_cons (line_of key) (flat_map line_of keys ++ spaces (6 * room)) (length_line key a.0)
    ∙ ap (λ t. line_of key ∷ t) (lines_taped keys room a.1)

flat_taped : (keys : List ℕ) (room : ℕ) → flat (taped_lines keys room) ≡ taped keys room
unfolding taped
flat_taped [] zero = refl
flat_taped [] (suc room) = ap (λ t. spaces 6 ++ t) (flat_taped [] room) ∙ sym (six_more room)
flat_taped (key ∷ keys) room = ap (λ t. line_of key ++ t) (flat_taped keys room) ∙ sym (append_assoc (line_of key) (flat_map line_of keys) (spaces (6 * room)))

-- ---- what a tape lists
-- a test that finds none fails at each
pub each_fails : (p : ℕ → Bool) (ks : List ℕ) → list_any p ks ≡ false → All (λ k. p k ≡ false) ks
each_fails p [] e = tt
each_fails p (k ∷ ks) e = let parts = or_parts (p k) (list_any p ks) e in (parts.0, each_fails p ks parts.1)

pub finds_none : (p : ℕ → Bool) (ks : List ℕ) → All (λ k. p k ≡ false) ks → list_any p ks ≡ false
finds_none p ks a = list_any_none p ks (All-from_recursion (λ k. p k ≡ false) ks a)

listed_blank : (room : ℕ) → listed (replicate room (spaces 6)) ≡ []
listed_blank zero = refl
listed_blank (suc room) = listed_blank room

pub listed_taped : (keys : List ℕ) (room : ℕ) → All Small keys → listed (taped_lines keys room) ≡ keys
listed_taped [] room a = listed_blank room
listed_taped (key ∷ keys) room a = ap (λ o. cons_option o (listed (taped_lines keys room))) (key_of_line key a.0) ∙ ap (λ ks. key ∷ ks) (listed_taped keys room a.1)

lists_taped : (keys : List ℕ) (room k : ℕ) → All Small keys → lists (taped_lines keys room) k ≡ list_any (eqb k) keys
lists_taped keys room k a = ap (list_any (eqb k)) (listed_taped keys room a)

blanks_blank : (room : ℕ) → blanks (replicate room (spaces 6)) ≡ room
blanks_blank zero = refl
blanks_blank (suc room) = omega (arith, blanks_blank room)

all_blank : (room : ℕ) → all_unused (replicate room (spaces 6)) ≡ true
all_blank zero = refl
all_blank (suc room) = all_blank room

pub blanks_taped : (keys : List ℕ) (room : ℕ) → All Small keys → blanks (taped_lines keys room) ≡ room
blanks_taped [] room a = blanks_blank room
blanks_taped (key ∷ keys) room a = let none : ◌≡◌ {A = ℕ} (cond (unused (line_of key)) 1 0) 0 = cond-false (unused (line_of key)) 1 0 (used_line key a.0) in omega (arith, none, blanks_taped keys room a.1)

-- ---- the test
sound_blank : (limit room : ℕ) → sound limit (replicate room (spaces 6)) ≡ true
sound_blank limit zero = refl
sound_blank limit (suc room) = all_blank room

sound_taped : (limit : ℕ) (keys : List ℕ) (room : ℕ) → limit ≤ 1024 → All (λ k. k < limit) keys → All Small keys → IsDistinct eqb keys → sound limit (taped_lines keys room) ≡ true
sound_taped limit [] room m a s d = sound_blank limit room
sound_taped limit (key ∷ keys) room m a s d =
    let rest = taped_lines keys room in
    let absent : lists rest key ≡ false = lists_taped keys room key s.1 ∙ finds_none (eqb key) keys (IsDistinct-head eqb key keys d) in
    cond-false (unused (line_of key)) (all_unused rest) (fresh_key limit (line_key (line_of key)) rest && sound limit rest) (used_line key s.0)
    ∙ ap (λ o. fresh_key limit o rest && sound limit rest) (key_of_line key s.0)
    ∙ and_from _ _ (and_from _ _ (lt-ltb key limit a.0) (not_from_false _ absent)) (sound_taped limit keys room m a.1 s.1 (IsDistinct-tail eqb key keys d))

-- what lines in order are
record Ordered (limit : ℕ) (ls : List (List ℕ)) : Type 0 where
  keys : List ℕ
  room : ℕ
  written : ls ≡ taped_lines keys room
  below : All (λ k. k < limit) keys
  distinct : IsDistinct eqb keys

all_spaces : (ls : List (List ℕ)) → all_unused ls ≡ true → ls ≡ replicate (length ls) (spaces 6)
all_spaces [] h = refl
all_spaces (l ∷ ls) h = let p = and_parts (unused l) (all_unused ls) h in ap (λ x. x ∷ ls) (unused_is l p.0) ∙ ap (λ xs. spaces 6 ∷ xs) (all_spaces ls p.1)

smaller : (limit : ℕ) → limit ≤ 1024 → (keys : List ℕ) → All (λ k. k < limit) keys → All Small keys
smaller limit m [] a = tt
smaller limit m (k ∷ ks) a = (omega (arith, a.0), smaller limit m ks a.1)

ordered : (limit : ℕ) → limit ≤ 1024 → (ls : List (List ℕ)) → sound limit ls ≡ true → Ordered limit ls
unfolding IsDistinct
ordered limit m [] h = record { keys = []; room = 0; written = refl; below = tt; distinct = tt }
ordered limit m (l ∷ ls) h =
    ⊎_elim
    (λ (u : unused l ≡ true).
    let rest : all_unused ls ≡ true = sym (cond-true (unused l) (all_unused ls) _ u) ∙ h in
    record { keys = []; room = suc (length ls); written = ap (λ x. x ∷ ls) (unused_is l u) ∙ ap (λ xs. spaces 6 ∷ xs) (all_spaces ls rest); below = tt; distinct = tt })
    (λ (u : unused l ≡ false). used (λ e. ordered limit m ls e) (line_key l) refl (and_parts (fresh_key limit (line_key l) ls) (sound limit ls) (sym (cond-false (unused l) (all_unused ls) _ u) ∙ h)))
    (cases_Bool (unused l))
  where
    used : (sound limit ls ≡ true → Ordered limit ls) → (o : Option ℕ) → line_key l ≡ o → (fresh_key limit (line_key l) ls ≡ true) × (sound limit ls ≡ true) → Ordered limit (l ∷ ls)
    used go None e p = absurd (false≢true (ap (λ o. fresh_key limit o ls) (sym e) ∙ p.0))
    used go (Some key) e p =
        let fresh = and_parts (ltb key limit) (not (lists ls key)) (ap (λ o. fresh_key limit o ls) (sym e) ∙ p.0) in
        let r = go p.1 in
        let absent : list_any (eqb key) r.keys ≡ false = sym (lists_taped r.keys r.room key (smaller limit m r.keys r.below)) ∙ ap (λ xs. lists xs key) (sym r.written) ∙ not-true _ fresh.1 in
        record {
          keys = key ∷ r.keys;
          room = r.room;
          written = ap (λ x. x ∷ ls) (line_is l key e) ∙ ap (λ xs. line_of key ∷ xs) r.written;
          below = (ltb-true key limit fresh.0, r.below);
          distinct = IsDistinct-cons eqb key r.keys (each_fails (eqb key) r.keys absent) r.distinct;
        }

-- lines in order are whole
length_taped : (keys : List ℕ) (room : ℕ) → All Small keys → length (taped keys room) ≡ 6 * (length keys + room)
unfolding taped
length_taped [] room a = length-replicate {A = ℕ} (6 * room) 32 ∙ omega arith
length_taped (key ∷ keys) room a =
    ap length (append_assoc (line_of key) (flat_map line_of keys) (spaces (6 * room))) ∙ length-append (line_of key) (flat_map line_of keys ++ spaces (6 * room)) ∙ omega (arith, length_line key a.0, length_taped keys room a.1)

pub whole : (limit : ℕ) (bytes : List ℕ) → limit ≤ 1024 → sound limit (lines bytes) ≡ true → length bytes % 6 ≡ 0
whole limit bytes m e =
    let r = ordered limit m (lines bytes) e in
    let is : bytes ≡ taped r.keys r.room = sym (flat_lines bytes) ∙ ap flat r.written ∙ flat_taped r.keys r.room in
    omega (arith, ap length is, length_taped r.keys r.room (smaller limit m r.keys r.below))

-- ---- a key written over the first unused line
pub spent_taped : (keys : List ℕ) (room key : ℕ) → All Small keys → spent_on (taped_lines keys (suc room)) key ≡ taped_lines (keys ++ key ∷ []) room
spent_taped [] room key a = refl
spent_taped (k ∷ ks) room key a =
    let rest = taped_lines ks (suc room) in
    cond-false (unused (line_of k)) (line_of key ∷ rest) (line_of k ∷ spent_on rest key) (used_line k a.0) ∙ ap (λ t. line_of k ∷ t) (spent_taped ks room key a.1)

-- ---- tapes for a tree
module _ (h : Height) where
  pub small_keys : (keys : List ℕ) → OfTree h keys → All Small keys
  small_keys = smaller (2 ^ levels h) (keys_most h)

  -- lines in order are whole
  pub uncut : (bytes : List ℕ) → sound (2 ^ levels h) (lines bytes) ≡ true → whole_lines bytes ≡ true
  uncut bytes e = eq-eqb _ _ (whole (2 ^ levels h) bytes (keys_most h) e)

  -- so it is the check of the lines that accepts
  pub accepted_from : (bytes : List ℕ) → sound (2 ^ levels h) (lines bytes) ≡ true → Accepted h bytes
  accepted_from bytes e = cond-true _ _ _ (uncut bytes e) ∙ cond-true _ _ _ e

  pub sound_from : (bytes : List ℕ) → Accepted h bytes → sound (2 ^ levels h) (lines bytes) ≡ true
  sound_from bytes e = passed (checks (levels h) bytes) e 1 (sound (2 ^ levels h) (lines bytes), Damaged) refl

  pub kept : (bytes : List ℕ) → Accepted h bytes → Kept h bytes
  kept bytes e =
      let r = ordered (2 ^ levels h) (keys_most h) (lines bytes) (sound_from bytes e) in
      record { keys = r.keys; room = r.room; written = sym (flat_lines bytes) ∙ ap flat r.written ∙ flat_taped r.keys r.room; below = r.below; distinct = r.distinct }

  pub accepts : (bytes : List ℕ) → Kept h bytes → Accepted h bytes
  accepts bytes k =
      let small = small_keys k.keys k.below in
      accepted_from bytes (
      ap (λ xs. sound (2 ^ levels h) (lines xs)) k.written
      ∙ ap (sound (2 ^ levels h)) (lines_taped k.keys k.room small)
      ∙ sound_taped (2 ^ levels h) k.keys k.room (keys_most h) k.below small k.distinct)

  pub says : (keys : List ℕ) (room k : ℕ) → OfTree h keys → (leb (2 ^ levels h) k || lists (lines (taped keys room)) k) ≡ (leb (2 ^ levels h) k || list_any (eqb k) keys)
  says keys room k a =
      let small = small_keys keys a in
      ap (λ ls. leb (2 ^ levels h) k || lists ls k) (lines_taped keys room small) ∙ ap (λ b. leb (2 ^ levels h) k || b) (lists_taped keys room k small)

  pub roomy : (keys : List ℕ) (room : ℕ) → OfTree h keys → blanks (lines (taped keys room)) ≡ room
  roomy keys room a = let small = small_keys keys a in ap blanks (lines_taped keys room small) ∙ blanks_taped keys room small

  pub grows : (keys : List ℕ) (room key : ℕ) → OfTree h keys → with_line (taped keys (room + 1)) key ≡ taped (keys ++ key ∷ []) room
  grows keys room key a =
      let small = small_keys keys a in
      let e : room + 1 ≡ suc room = omega arith in
      ap (λ r. with_line (taped keys r) key) e ∙ ap (λ ls. flat (spent_on ls key)) (lines_taped keys (suc room) small) ∙ ap flat (spent_taped keys room key small) ∙ flat_taped (keys ++ key ∷ []) room

-- spaces list nothing
pub spaces_free : (n h k : ℕ) → eqb (n % 6) 0 ≡ true → (leb (2 ^ h) k || lists (lines (spaces n)) k) ≡ leb (2 ^ h) k
spaces_free n h k w =
    let m : n ≡ 6 * (n / 6) = omega (arith, eqb-true (n % 6) 0 w) in
    ap (λ ls. leb (2 ^ h) k || list_any (eqb k) (listed ls)) (ap lines (ap spaces m) ∙ lines_spaces (n / 6))
    ∙ ap (λ ks. leb (2 ^ h) k || list_any (eqb k) ks) (listed_blank (n / 6))
    ∙ or-false (leb (2 ^ h) k)
