-- The steps of the loop over the fields of a group line.
use Rattle.std.proofs.Common.{◌≡◌, ℕ, zero, suc, ◌+◌, ◌-◌, ◌^◌, ◌<◌, ◌≤◌, Bool, true, false, ◌&&◌, eqb, ltb, List, [], ◌∷◌, ◌++◌, map, is_some, Some, None, Option, unwrap_or, sym, refl, ap, ◌∙◌, subst, append_assoc, zero-add, arith, pow_mono}
use Rattle.std.specs.List.{flat_map, range_with_len}
use Rattle.std.proofs.lemmas.Nat.{pow-add, pow_pos}
use Rattle.std.proofs.lemmas.Bool.{ne_eqb, cond-false, ltb-true, false≢true}
use Rattle.checks.specs.Checks.{first_refusal}
use Rattle.checks.proofs.Ordered.{before, behind}
use Rattle.plan_sheet.specs.declared.refusal.Refusal.{Refusal}
use Rattle.plan_sheet.specs.declared.refusal.Refusal.TheVariants.{Members}
use Rattle.plan_sheet.specs.Entries.{above, orderly, bit, mask_of}
use Rattle.plan_sheet.specs.Checks.{entries, worth, field_at, field_checks, line_checks, members_check, mask_at, above_at}

pub from_next : (a k : ℕ) → 1 ≤ k → range_with_len a k ≡ a ∷ range_with_len (a + 1) (k - 1)
from_next a zero h = absurd (omega arith)
from_next a (suc k) h = let e : k ≡ suc k - 1 = omega arith in ap (λ j. a ∷ range_with_len (a + 1) j) e

pub pow_double : (t : ℕ) → 1 ≤ t → 2 ^ t ≡ 2 ^ (t - 1) + 2 ^ (t - 1)
pow_double t h = let e : t ≡ (t - 1) + 1 = omega arith in ap (λ k. 2 ^ k) e ∙ omega (arith, pow-add 2 (t - 1) 1)

-- a member above the floor keeps the mask below
pub add_bit : (mask floor t : ℕ) → mask < 2 ^ floor → floor < t → mask + 2 ^ (t - 1) < 2 ^ t
add_bit mask floor t small h = let le : floor ≤ t - 1 = omega arith in let p = pow_mono le in omega (arith, pow_double t (omega arith), p)

pub add_bit_under : (mask floor t n : ℕ) → mask < 2 ^ floor → floor < t → t ≤ n → mask + 2 ^ (t - 1) < 2 ^ n
add_bit_under mask floor t n small h le = let p = pow_mono le in omega (arith, add_bit mask floor t small h, p)

pub bit_some : (t : ℕ) → 1 ≤ t → bit t ≡ 2 ^ (t - 1)
bit_some t h = cond-false (eqb t 0) 0 (2 ^ (t - 1)) (ne_eqb t 0 (λ e. omega arith))

-- a member above a floor, where there is one
pub above_floor : (floor : Option ℕ) (t : ℕ) → above floor t ≡ true → unwrap_or floor 8 < t
above_floor None t h = absurd (false≢true h)
above_floor (Some floor) t h = ltb-true floor t h

-- how far the line is read: the next field, and what the fields before it gave
pub record Going (s : List ℕ) (l n place : ℕ) (floor : Option ℕ) (mask : ℕ) (fine : Bool) : Type 0 where
  pub low : 1 ≤ place
  pub high : place ≤ 9
  pub rest : first_refusal (line_checks s l) ≡ first_refusal (flat_map (field_checks s l) (range_with_len place (9 - place)) ++ members_check s l ∷ [])
  pub order : orderly (Some 0) (entries s l 1 8) ≡ (fine && orderly floor (entries s l place (9 - place)))
  pub sum : fine ≡ true → mask_at s l ≡ mask + mask_of (entries s l place (9 - place))
  pub under : mask < 2 ^ n

pub going_first : (s : List ℕ) (l n : ℕ) → Going s l n 1 (Some 0) 0 true
unfolding line_checks
going_first s l n = record { low = omega arith; high = omega arith; rest = refl; order = refl; sum = λ _. sym (zero-add _); under = pow_pos n }

module _ (s : List ℕ) (l n place : ℕ) (floor : Option ℕ) (mask : ℕ) (fine : Bool) (g : Going s l n place floor mask fine) where
  abbrev behind_it : List (Bool × Refusal)
  behind_it = flat_map (field_checks s l) (range_with_len (place + 1) (9 - (place + 1)))

  next_split : place ≤ 8 → range_with_len place (9 - place) ≡ place ∷ range_with_len (place + 1) (9 - (place + 1))
  next_split h = let left : (9 - place) - 1 ≡ 9 - (place + 1) = omega arith in from_next place (9 - place) (omega arith) ∙ ap (λ k. place ∷ range_with_len (place + 1) k) left

  -- the next field, those behind it, and the members
  going_split : place ≤ 8 → first_refusal (line_checks s l) ≡ first_refusal (field_checks s l place ++ (behind_it ++ members_check s l ∷ []))
  going_split h =
      g.rest
      ∙ ap (λ ps. first_refusal (flat_map (field_checks s l) ps ++ members_check s l ∷ [])) (next_split h)
      ∙ ap first_refusal (append_assoc (field_checks s l place) behind_it (members_check s l ∷ []))

  pub going_stop : place ≤ 8 → (e : Refusal) → first_refusal (field_checks s l place) ≡ Some e → first_refusal (line_checks s l) ≡ Some e
  going_stop h e f = going_split h ∙ before (field_checks s l place) (behind_it ++ members_check s l ∷ []) e f

  pub going_next : place ≤ 8 → first_refusal (field_checks s l place) ≡ None → (t : ℕ) → t ≡ worth (field_at 3 s l place)
      → (floor' : Option ℕ) (mask' : ℕ) (fine' : Bool)
      → ((ts : List ℕ) → (fine && orderly floor (t ∷ ts)) ≡ (fine' && orderly floor' ts))
      → (fine' ≡ true → (fine ≡ true) × (mask' ≡ mask + bit t))
      → (mask' < 2 ^ n)
      → Going s l n (place + 1) floor' mask' fine'
  going_next h f t te floor' mask' fine' o m u =
      let rest = entries s l (place + 1) (9 - (place + 1)) in
      let all : entries s l place (9 - place) ≡ t ∷ rest = ap (map (λ p. worth (field_at 3 s l p))) (next_split h) ∙ ap (λ x. x ∷ rest) (sym te) in
      record {
        low = omega arith;
        high = omega arith;
        rest = going_split h ∙ behind (field_checks s l place) (behind_it ++ members_check s l ∷ []) f;
        order = g.order ∙ ap (λ ts. fine && orderly floor ts) all ∙ o rest;
        sum = λ y. let e = ap mask_of all in omega (arith, g.sum (m y).0, (m y).1, e);
        under = u;
      }

-- the end of a line
pub going_all : (s : List ℕ) (l n : ℕ) (floor : Option ℕ) (mask above : ℕ) (fine : Bool) → Going s l n 9 floor mask fine → above ≡ above_at s l
    → ((fine && ltb above mask) ≡ true → (first_refusal (line_checks s l) ≡ None) × (mask ≡ mask_at s l) × (above < mask) × (mask < 2 ^ n))
    × ((fine && ltb above mask) ≡ false → first_refusal (line_checks s l) ≡ Some (Members l))
going_all s l n floor mask above true g a =
    let me : mask_at s l ≡ mask = omega (arith, g.sum refl) in
    let x : (orderly (Some 0) (entries s l 1 8) && ltb (above_at s l) (mask_at s l)) ≡ ltb above mask =
    ap (λ b. b && ltb (above_at s l) (mask_at s l)) g.order ∙ ap (λ k. ltb k (mask_at s l)) (sym a) ∙ ap (λ k. ltb above k) me in (
      (λ y. (g.rest ∙ ap (λ b. first_refusal ((b, Members l) ∷ [])) (x ∙ y), sym me, ltb-true above mask y, g.under)),
      λ y. g.rest ∙ ap (λ b. first_refusal ((b, Members l) ∷ [])) (x ∙ y),
    )
going_all s l n floor mask above false g a = (
  (λ y. absurd (false≢true y)),
  λ y. g.rest ∙ ap (λ b. first_refusal ((b && ltb (above_at s l) (mask_at s l), Members l) ∷ [])) g.order,
)

pub going_start : (s : List ℕ) (l n place : ℕ) (floor mask : Option ℕ) → place ≡ 1 → floor ≡ Some 0 → mask ≡ Some 0 → Going s l n place floor (unwrap_or mask 0) (is_some mask)
going_start s l n place floor mask p f m =
    subst (λ x. Going s l n x floor (unwrap_or mask 0) (is_some mask)) (sym p) (
    subst (λ x. Going s l n 1 x (unwrap_or mask 0) (is_some mask)) (sym f) (
    subst (λ x. Going s l n 1 (Some 0) (unwrap_or x 0) (is_some x)) (sym m) (going_first s l n)))

pub going_at : (s : List ℕ) (l n place place' : ℕ) (floor : Option ℕ) (mask : ℕ) (fine : Bool) → place ≡ place' → Going s l n place floor mask fine → Going s l n place' floor mask fine
going_at s l n place place' floor mask fine e g = subst (λ x. Going s l n x floor mask fine) e g
