-- Tapes that are spent on and opened again.
use Rattle.std.proofs.Common.{◌≡◌, ℕ, suc, ◌+◌, ◌-◌, ◌*◌, ◌/◌, ◌%◌, ◌^◌, ◌<◌, ◌≤◌, Bool, true, false, cond, not, ◌||◌, eqb, leb, List, [], ◌∷◌, ◌++◌, length, take, drop, fold, None, Ok, Err, Result, is_ok, OnOk, sym, refl, ap, subst, ◌∙◌, ⊎_elim, append_assoc, arith}
use Rattle.std.specs.List.{AllByRecursion as All, IsDistinct, list_any}
use Rattle.std.specs.Cmp.{nat_eq_equiv}
use Rattle.std.proofs.lemmas.List.{append-nil, drop-drop}
use Rattle.std.proofs.lemmas.Map.Keys.{IsDistinct-push}
use Rattle.std.proofs.lemmas.Bool.{cases_Bool, cond-true, cond-false, eqb-true, leb-false, or_parts}
use Rattle.sizes.specs.declared.height.Height.{Height}
use Rattle.sizes.specs.Sizes.{levels}
use Rattle.sizes.proofs.Heights.{keys_most}
use Rattle.columns.specs.Number.{spaces}
use Rattle.checks.specs.Checks.{first_refusal}
use Rattle.checks.proofs.Ordered.{passed}
use Rattle.ledger.specs.declared.refusal.Refusal.{Refusal}
use Rattle.ledger.specs.Standing.{Standing, Fresh}
use Rattle.ledger.specs.Spend.{checks, Spends}
use Rattle.ledger.proofs.Checked.{was_free, had_room}
use Rattle.tape.specs.declared.refusal.Refusal.TheVariants.{Damaged}
use Rattle.tape.specs.Lines.{lines, line_of, unused, listed, lists, blanks, taped, FirstUnused, with_line, OneLine}
use Rattle.tape.specs.declared.tapes.Tape.{Tape}
use Rattle.tape.specs.Tapes.{of_tape, standing_of, standing_on, new_checks, accepted, whole_lines, blanked}
use Rattle.tape.specs.Laws.{OfTree, Accepted, Spendable, TapesHold}
use Rattle.tape.proofs.Overwriting.{is_intact, key_below, after_is, distinct}
use Rattle.tape.proofs.Taping.{uncut, kept, accepts, says, roomy, grows, spaces_free}

-- ---- one key more
all_more : (P : ℕ → Type 0) (keys : List ℕ) (key : ℕ) → All P keys → P key → All P (keys ++ key ∷ [])
all_more P [] key a p = (p, tt)
all_more P (k ∷ keys) key a p = (a.0, all_more P keys key a.1 p)

-- the first unused line, where there is one
record Place (bytes : List ℕ) : Type 0 where
  at : ℕ
  within : 6 * at + 6 ≤ length bytes
  first : FirstUnused (lines bytes) at

place : (bytes : List ℕ) → 1 ≤ blanks (lines bytes) → Place bytes
unfolding lines
place [] e = absurd (omega (arith, e))
place (a ∷ []) e = let f : 1 ≤ 0 = e in absurd (omega (arith, f))
place (a ∷ b ∷ []) e = let f : 1 ≤ 0 = e in absurd (omega (arith, f))
place (a ∷ b ∷ c ∷ []) e = let f : 1 ≤ 0 = e in absurd (omega (arith, f))
place (a ∷ b ∷ c ∷ d ∷ []) e = let f : 1 ≤ 0 = e in absurd (omega (arith, f))
place (a ∷ b ∷ c ∷ d ∷ x ∷ []) e = let f : 1 ≤ 0 = e in absurd (omega (arith, f))
place (a ∷ b ∷ c ∷ d ∷ x ∷ y ∷ rest) e =
    let line : List ℕ = a ∷ b ∷ c ∷ d ∷ x ∷ y ∷ [] in
    ⊎_elim
    (λ (u : unused line ≡ true). record { at = 0; within = omega arith; first = u })
    (λ (u : unused line ≡ false).
    let none : ◌≡◌ {A = ℕ} (cond (unused line) 1 0) 0 = cond-false (unused line) 1 0 u in
    let p = place rest (omega (arith, none, e)) in
    record { at = suc p.at; within = omega (arith, p.within); first = (u, p.first) })
    (cases_Bool (unused line))

-- what an accepted spend writes
module _ (intact : Bool) (h : Height) (bytes : List ℕ) (key : ℕ) (takes : Spendable intact h bytes key) where
  free : (not intact || (leb (2 ^ levels h) key || lists (lines bytes) key)) ≡ false
  free = was_free (of_tape intact (levels h) bytes) key takes

  room : 1 ≤ blanks (lines bytes)
  room = omega (arith, had_room (of_tape intact (levels h) bytes) key takes, cond-true intact (blanks (lines bytes)) 0 (is_intact intact (levels h) bytes key free))

  small : key < 100000
  small = omega (arith, key_below intact (levels h) bytes key free, keys_most h)

  -- the line that it writes over, and the bytes that it leaves
  at : Place bytes
  at = place bytes room

  put : List ℕ
  put = take (6 * at.at) bytes ++ (line_of key ++ drop 6 (drop (6 * at.at) bytes))

  is_put : put ≡ with_line bytes key
  unfolding put
  is_put = after_is intact (levels h) bytes key free at.at at.within at.first small put refl

  one_line : OneLine bytes key (with_line bytes key)
  unfolding put
  one_line = record {
    at = at.at;
    within = at.within;
    first = at.first;
    written = sym is_put ∙ ap (λ t. take (6 * at.at) bytes ++ (line_of key ++ t)) (drop-drop 6 (6 * at.at) bytes);
  }

  no_repeat : IsDistinct eqb (listed (lines bytes)) → IsDistinct eqb (listed (lines (with_line bytes key)))
  unfolding put
  no_repeat d = subst (λ xs. IsDistinct eqb (listed (lines xs))) is_put (distinct intact (levels h) bytes key free at.at at.within at.first small put refl d)

module _ (h : Height) where
  again : (bytes : List ℕ) (key : ℕ) → Accepted h bytes → Spendable true h bytes key → Accepted h (with_line bytes key)
  again bytes key e takes =
      let k = kept h bytes e in
      let on_keys : Spendable true h (taped k.keys k.room) key = rw k.written at takes in
      let free = or_parts (leb (2 ^ levels h) key) (list_any (eqb key) k.keys) (sym (says h k.keys k.room key k.below) ∙ was_free (of_tape true (levels h) (taped k.keys k.room)) key on_keys) in
      let some : 1 ≤ k.room = omega (arith, had_room (of_tape true (levels h) (taped k.keys k.room)) key on_keys, roomy h k.keys k.room k.below) in
      let left : k.room - 1 + 1 ≡ k.room = omega (arith, some) in
      accepts h (with_line bytes key) (record {
        keys = k.keys ++ key ∷ [];
        room = k.room - 1;
        written = ap (λ xs. with_line xs key) (k.written ∙ ap (taped k.keys) (sym left)) ∙ grows h k.keys (k.room - 1) key k.below;
        below = all_more (λ n. n < 2 ^ levels h) k.keys key k.below (leb-false (2 ^ levels h) key free.0);
        distinct = IsDistinct-push nat_eq_equiv k.keys key k.distinct free.1;
      })

  new : (bytes : List ℕ) → first_refusal (new_checks bytes) ≡ None → Accepted h (blanked bytes)
  unfolding taped IsDistinct
  new bytes none =
      let room = length bytes / 6 in
      let w = passed (new_checks bytes) none 0 (whole_lines bytes, Damaged) refl in
      let m : length bytes ≡ 6 * room = omega (arith, eqb-true (length bytes % 6) 0 w) in
      let blank : blanked bytes ≡ spaces (6 * room) = cond-true (whole_lines bytes) (spaces (length bytes)) bytes w ∙ ap spaces m in
      accepts h (blanked bytes) (record { keys = []; room = room; written = blank; below = tt; distinct = tt })

  follows : (keys more : List ℕ) (room : ℕ) → OfTree h keys → OfTree h more → fold with_line (taped keys (room + length more)) more ≡ taped (keys ++ more) room
  follows keys [] room a b = let e : room + 0 ≡ room = omega arith in ap (taped keys) e ∙ ap (λ ks. taped ks room) (sym (append-nil keys))
  follows keys (key ∷ more) room a b =
      let e : room + length (key ∷ more) ≡ room + length more + 1 = omega arith in
      ap (λ r. fold with_line (with_line (taped keys r) key) more) e
      ∙ ap (λ xs. fold with_line xs more) (grows h keys (room + length more) key a)
      ∙ follows (keys ++ key ∷ []) more room (all_more (λ n. n < 2 ^ levels h) keys key a b.0) b.1
      ∙ ap (λ ks. taped ks room) (append_assoc keys (key ∷ []) more)

pub tapes_hold : TapesHold
tapes_hold = record {
  exact = λ h bytes. (kept h bytes, accepts h bytes);
  uncut = uncut;
  says = says;
  roomy = roomy;
  line = one_line;
  grows = grows;
  follows = follows;
  distinct = λ intact h bytes key d takes. no_repeat intact h bytes key takes d;
  new = new;
  again = again;
}

-- nothing is spent on a new tape but what is no key
pub new_is_fresh : (h : ℕ) (bytes after : List ℕ) (intact : Bool) → intact ≡ whole_lines bytes → after ≡ blanked bytes → first_refusal (new_checks bytes) ≡ None → Fresh h (of_tape intact h after)
new_is_fresh h bytes after intact is blank none k =
    let w = passed (new_checks bytes) none 0 (whole_lines bytes, Damaged) refl in
    ap (λ b. not b || (leb (2 ^ h) k || lists (lines after) k)) (is ∙ w)
    ∙ ap (λ xs. leb (2 ^ h) k || lists (lines xs) k) (blank ∙ cond-true (whole_lines bytes) (spaces (length bytes)) bytes w)
    ∙ spaces_free (length bytes) h k w

-- what a tape's lender finds after an accepted spend on it
pub lined : {X : Type 0} (r : Result X Refusal) (h : Height) (tape : Tape) (before after : List ℕ) (key : ℕ) (left : Standing) →
    standing_of tape ≡ standing_on h before → OnOk r (Spends (standing_of tape) key left) → after ≡ cond (is_ok r) (with_line before key) before →
    OnOk r (OneLine before key after)
lined (Err e) h tape before after key left is spends value = tt
lined (Ok x) h tape before after key left is spends value =
    let o = one_line (accepted (levels h) before) h before key (ap (λ s. first_refusal (checks s key)) (sym is) ∙ spends.accepted) in
    record { at = o.at; within = o.within; first = o.first; written = value ∙ o.written }
