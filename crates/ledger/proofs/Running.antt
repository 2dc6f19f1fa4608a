-- Spends that are accepted, one after the other.
use Rattle.std.proofs.Common.{◌≡◌, ℕ, ◌+◌, ◌^◌, ◌<◌, ◌≤◌, true, false, cond, ◌||◌, eqb, leb, Bool, List, [], ◌∷◌, ◌++◌, length, get_or, take, fold, count_by, Some, None, Option, Ok, Err, Result, is_ok, is_err, OnOk, sym, refl, ap, ◌∙◌, ⊎_elim, arith}
use Rattle.std.specs.List.{AllByRecursion as All, list_any, IsDistinct}
use Rattle.std.proofs.lemmas.Bool.{eq-eqb, eqb-true, false_from_ne_true, false≢true, and_from, le-leb, leb-false, lt-ltb, or_parts, or_right}
use Rattle.std.proofs.lemmas.List.Elements.{All-from_recursion}
use Rattle.std.proofs.lemmas.List.{take_more}
use Rattle.std.proofs.lemmas.List.Sums.{fold_more}
use Rattle.std.proofs.lemmas.Map.Keys.{IsDistinct-cons}
use Rattle.ledger.specs.declared.refusal.Refusal.{Refusal}
use Rattle.ledger.specs.Standing.{Standing, Fresh}
use Rattle.ledger.specs.Spend.{Spends}
use Rattle.ledger.specs.Counts.{in_range, spent_in}
use Rattle.ledger.specs.Runs.{Run, Tries, accepted, Ran, RunsHold}
use Rattle.ledger.proofs.Checked.{was_free}
use Rattle.ledger.proofs.Counting.{count-cons, whole, spent_more, fresh_count, all_counted}

or_turn : (a b c : Bool) → (a || (b || c)) ≡ ((b || a) || c)
or_turn true true c = refl
or_turn true false c = refl
or_turn false true c = refl
or_turn false false c = refl

spent : (before after : Standing) (keys : List ℕ) → Run before keys after → (k : ℕ) → after.spent k ≡ (list_any (eqb k) keys || before.spent k)
spent before after [] r k = ap (λ (s : Standing). s.spent k) r
spent before after (key ∷ keys) r k = spent r.0 after keys r.2 k ∙ ap (λ b. list_any (eqb k) keys || b) (r.1.keys k) ∙ or_turn (list_any (eqb k) keys) (eqb k key) (before.spent k)

-- ---- keys that are accepted are new
abbrev New : Standing → List ℕ → Type 0
New s keys = All (λ k. s.spent k ≡ false) keys

-- keys that are new after a spend are new before it, and other than its key
module _ (before middle : Standing) (key : ℕ) (spends : Spends before key middle) where
  newer : (keys : List ℕ) → New middle keys → All (λ k. eqb key k ≡ false) keys × New before keys
  newer [] n = (tt, tt)
  newer (k ∷ ks) n =
      let p = or_parts (eqb k key) (before.spent k) (sym (spends.keys k) ∙ n.0) in
      let other : eqb key k ≡ false = false_from_ne_true (eqb key k) (λ e. false≢true (sym p.0 ∙ eq-eqb k key (sym (eqb-true key k e)))) in
      let rest = newer ks n.1 in
      ((other, rest.0), (p.1, rest.1))

new : (before after : Standing) (keys : List ℕ) → Run before keys after → IsDistinct eqb keys × New before keys
unfolding IsDistinct
new before after [] r = (tt, tt)
new before after (key ∷ keys) r =
    let later = new r.0 after keys r.2 in
    let n = newer before r.0 key r.1 keys later.1 in
    (IsDistinct-cons eqb key keys n.0 later.0, (was_free before key r.1.accepted, n.1))

-- ---- counts
counted : (before after : Standing) (keys : List ℕ) (first count : ℕ) → Run before keys after → spent_in after first count ≡ spent_in before first count + count_by (in_range first count) keys
counted before after [] first count r = ap (λ s. spent_in s first count) r ∙ omega arith
counted before after (key ∷ keys) first count r =
    omega (arith, counted r.0 after keys first count r.2, spent_more before r.0 key first count (was_free before key r.1.accepted) r.1.keys, count-cons (in_range first count) key keys)

room : (before after : Standing) (keys : List ℕ) → Run before keys after → (after.room ≤ before.room) × (before.room ≤ after.room + length keys)
room before after [] r = let e = ap (λ (s : Standing). s.room) r in (omega (arith, e), omega (arith, e))
room before after (key ∷ keys) r =
    let later = room r.0 after keys r.2 in
    ⊎_elim (λ (e : r.0.room ≡ before.room). (omega (arith, later), omega (arith, later))) (λ (e : r.0.room + 1 ≡ before.room). (omega (arith, later), omega (arith, later))) r.1.left

-- keys that are free on a new ledger are the tree's
below : (s : Standing) (h : ℕ) → Fresh h s → (keys : List ℕ) → New s keys → All (λ k. in_range 0 (2 ^ h) k ≡ true) keys
below s h fresh [] n = tt
below s h fresh (key ∷ keys) n = (and_from (leb 0 key) _ (le-leb 0 key (omega arith)) (lt-ltb key (0 + 2 ^ h) (omega (arith, leb-false (2 ^ h) key (sym (fresh key) ∙ n.0)))), below s h fresh keys n.1)

ran : (before after : Standing) (keys : List ℕ) → Run before keys after → Ran before keys after
ran before after keys r =
    let n = new before after keys r in
    record {
      stays = λ k was. spent before after keys r k ∙ or_right _ _ was;
      spent = spent before after keys r;
      once = n.0;
      new = All-from_recursion _ keys n.1;
      counted = λ first count. counted before after keys first count r;
      left = λ first count. omega (arith, counted before after keys first count r, whole before first count, whole after first count);
      room = room before after keys r;
      from_new = λ h fresh. omega (arith, counted before after keys 0 (2 ^ h) r, fresh_count before h fresh, all_counted (in_range 0 (2 ^ h)) keys (below before h fresh keys n.1));
    }

-- ---- refused spends
tried : (before after : Standing) (asked : List (ℕ × Option Refusal)) → Tries before asked after → Run before (accepted asked) after
tried before after [] t = t
tried before after ((key, None) ∷ rest) t = (t.0, t.1, tried t.0 after rest t.2)
tried before after ((key, Some why) ∷ rest) t = let run = tried t.0 after rest t.2 in rw t.1.1 at run

pub runs_hold : RunsHold
runs_hold = record { ran = ran; tried = tried; whole = whole }

-- ---- one spend more
run_more : (a b c : Standing) (keys : List ℕ) (key : ℕ) → Run a keys b → Spends b key c → Run a (keys ++ key ∷ []) c
run_more a b c [] key r s = let t : Spends a key c = rw (← r) s in (c, t, refl)
run_more a b c (k ∷ ks) key r s = (r.0, r.1, run_more r.0 b c ks key r.2 s)

-- the standing and the value after one key more of a list, which was accepted
module _ {L X : Type 0} (standing : L → Standing) (f : L → ℕ → L) (start now next : L) (keys : List ℕ) (n : ℕ) (within : n < length keys) where
  pub longer : (r : Result X Refusal) → is_err r ≡ false →
      OnOk r (Spends (standing now) (get_or keys n 0) (standing next)) → next ≡ cond (is_ok r) (f now (get_or keys n 0)) now →
      Run (standing start) (take n keys) (standing now) × (now ≡ fold f start (take n keys)) →
      Run (standing start) (take (n + 1) keys) (standing next) × (next ≡ fold f start (take (n + 1) keys))
  longer (Err e) ok spends value sofar = absurd (false≢true (sym ok))
  longer (Ok x) ok spends value sofar = (
    rw (take_more keys n 0 within) (run_more (standing start) (standing now) (standing next) (take n keys) (get_or keys n 0) sofar.0 spends),
    value ∙ ap (λ l. f l (get_or keys n 0)) sofar.1 ∙ sym (fold_more f start keys n 0 within),
  )
