-- What can be wrong with the members of a group line.
use Rattle.std.proofs.Common.{◌≡◌, ℕ, zero, suc, ◌+◌, ◌<◌, ◌≤◌, Bool, true, false, cond, ◌&&◌, eqb, ltb, leb, ◌⊎◌, List, [], ◌∷◌, length, get_or, Some, None, Option, unwrap_or, SomeIndex, sym, refl, ap, ◌∙◌, inl, inr, ⊎_elim, arith}
use Rattle.std.specs.List.{flat_map, range_with_len}
use Rattle.std.proofs.lemmas.List.{nil_from_length}
use Rattle.std.proofs.lemmas.Bool.{ne_eqb, eqb-true, leb-true, ltb-true, lt-ltb, cond-false, and_parts, or_cases, cases_Bool, cases_lt, false≢true, true≢false}
use Rattle.std.proofs.lemmas.Option.{none-some, same_Some}
use Rattle.checks.specs.Checks.{first_refusal}
use Rattle.checks.proofs.Ordered.{before, behind}
use Rattle.columns.specs.Number.{blank, unpadded, read_on, plain}
use Rattle.plan_sheet.specs.declared.refusal.Refusal.{Refusal}
use Rattle.plan_sheet.specs.declared.refusal.Refusal.TheVariants.{Layout, NoNumber, OutOfRange, Members, Groups}
use Rattle.plan_sheet.specs.Entries.{above, orderly, bit, mask_of}
use Rattle.plan_sheet.specs.Checks.{worth, field_at, entry_checks, field_checks, entries, above_at, members_check, line_checks}
use Rattle.plan_sheet.specs.GroupLines.{NotRising, HasGap, NoMember, NotAbove, MembersFault, GroupLines}
use Rattle.plan_sheet.proofs.Passing.{first_passes}

not_above : (m n : ℕ) → ltb m n ≡ false → n ≤ m
not_above m n e = ⊎_elim (λ (l : m < n). absurd (true≢false (sym (lt-ltb m n l) ∙ e))) (λ (l : n ≤ m). l) (cases_lt m n)

-- ---- entries that are not orderly
-- some entry is a member, and not above a floor
abbrev TooLow : Option ℕ → List ℕ → Type 0
TooLow floor es = SomeIndex es (λ j. (1 ≤ get_or es j 0) × (above floor (get_or es j 0) ≡ false))

abbrev Disorder : Option ℕ → List ℕ → Type 0
Disorder floor es = TooLow floor es ⊎ NotRising es ⊎ HasGap es

-- what is wrong behind an entry is wrong with it in front
rising_on : (t : ℕ) (ts : List ℕ) → NotRising ts → NotRising (t ∷ ts)
rising_on t ts (j, l, (m, (i, k, (b, n)))) = (suc j, omega arith, (m, (suc i, omega arith, (omega arith, n))))

gap_on : (t : ℕ) (ts : List ℕ) → HasGap ts → HasGap (t ∷ ts)
gap_on t ts (j, l, (m, (i, k, (b, n)))) = (suc j, omega arith, (m, (suc i, omega arith, (omega arith, n))))

disorder : (floor : Option ℕ) (es : List ℕ) → orderly floor es ≡ false → Disorder floor es
disorder floor [] o = absurd (true≢false o)
disorder floor (zero ∷ ts) o = from (disorder None ts o)
  where
    from : Disorder None ts → Disorder floor (0 ∷ ts)
    from (inl (j, l, (m, a))) = inr (inr (suc j, omega arith, (m, (0, omega arith, (omega arith, refl)))))
    from (inr (inl n)) = inr (inl (rising_on 0 ts n))
    from (inr (inr g)) = inr (inr (gap_on 0 ts g))
disorder floor (suc t ∷ ts) o =
    let q : (above floor (suc t) && orderly (Some (suc t)) ts) ≡ false = sym (cond-false (eqb (suc t) 0) (orderly None ts) (above floor (suc t) && orderly (Some (suc t)) ts) (ne_eqb (suc t) 0 (λ e. omega arith))) ∙ o in
    ⊎_elim
    (λ (a : above floor (suc t) ≡ true). from (disorder (Some (suc t)) ts (sym (ap (λ b. b && orderly (Some (suc t)) ts) a) ∙ q)))
    (λ (a : above floor (suc t) ≡ false). inl (0, omega arith, (omega arith, a)))
    (cases_Bool (above floor (suc t)))
  where
    from : Disorder (Some (suc t)) ts → Disorder floor (suc t ∷ ts)
    from (inl (j, l, (m, a))) = inr (inl (suc j, omega arith, (m, (0, omega arith, (omega arith, not_above (suc t) (get_or ts j 0) a)))))
    from (inr (inl n)) = inr (inl (rising_on (suc t) ts n))
    from (inr (inr g)) = inr (inr (gap_on (suc t) ts g))

-- ---- entries that are orderly
above_up : (floor : Option ℕ) (t u : ℕ) → above floor t ≡ true → t < u → above floor u ≡ true
above_up None t u a l = absurd (false≢true a)
above_up (Some floor) t u a l = lt-ltb floor u (omega (arith, ltb-true floor t a))

-- all entries before a member are members below it
orderly_says : (floor : Option ℕ) (es : List ℕ) → orderly floor es ≡ true → (j : ℕ) → j < length es → 1 ≤ get_or es j 0
    → (above floor (get_or es j 0) ≡ true) × ((i : ℕ) → i < j → (1 ≤ get_or es i 0) × (get_or es i 0 < get_or es j 0))
orderly_says floor [] o j l m = absurd (omega arith)
orderly_says floor (zero ∷ ts) o zero l m = absurd (omega arith)
orderly_says floor (zero ∷ ts) o (suc j) l m = absurd (false≢true (orderly_says None ts o j (omega arith) m).0)
orderly_says floor (suc t ∷ ts) o j l m =
    let p = and_parts (above floor (suc t)) (orderly (Some (suc t)) ts) (sym (cond-false (eqb (suc t) 0) (orderly None ts) (above floor (suc t) && orderly (Some (suc t)) ts) (ne_eqb (suc t) 0 (λ e. omega arith))) ∙ o) in
    at j l m p.0 (orderly_says (Some (suc t)) ts p.1)
  where
    at : (j : ℕ) → j < length (suc t ∷ ts) → 1 ≤ get_or (suc t ∷ ts) j 0 → above floor (suc t) ≡ true
        → ((k : ℕ) → k < length ts → 1 ≤ get_or ts k 0 → (above (Some (suc t)) (get_or ts k 0) ≡ true) × ((i : ℕ) → i < k → (1 ≤ get_or ts i 0) × (get_or ts i 0 < get_or ts k 0)))
        → (above floor (get_or (suc t ∷ ts) j 0) ≡ true) × ((i : ℕ) → i < j → (1 ≤ get_or (suc t ∷ ts) i 0) × (get_or (suc t ∷ ts) i 0 < get_or (suc t ∷ ts) j 0))
    at zero l m a h = (a, λ i k. absurd (omega arith))
    at (suc j) l m a h =
        let r = h j (omega arith) m in
        let up : suc t < get_or ts j 0 = ltb-true (suc t) (get_or ts j 0) r.0 in
        (above_up floor (suc t) (get_or ts j 0) a up, before_it r.1 up)
      where
        before_it : ((i : ℕ) → i < j → (1 ≤ get_or ts i 0) × (get_or ts i 0 < get_or ts j 0)) → suc t < get_or ts j 0 → (i : ℕ) → i < suc j → (1 ≤ get_or (suc t ∷ ts) i 0) × (get_or (suc t ∷ ts) i 0 < get_or ts j 0)
        before_it h up zero k = (omega arith, up)
        before_it h up (suc i) k = h i (omega arith)

mask_none : (es : List ℕ) → NoMember es → mask_of es ≡ 0
mask_none [] h = refl
mask_none (t ∷ ts) h =
    let z : t ≡ 0 = h 0 (omega arith) in
    let rest = mask_none ts (λ i l. h (suc i) (omega arith)) in
    omega (arith, ap bit z, rest)

-- ---- the check of a line's members
module _ (es : List ℕ) (before_it : ℕ) where
  abbrev Fault : Type 0
  Fault = NotRising es ⊎ HasGap es ⊎ NoMember es ⊎ NotAbove before_it es

  fault_from : (orderly (Some 0) es && ltb before_it (mask_of es)) ≡ false → Fault
  fault_from h =
      ⊎_elim
      (λ (o : orderly (Some 0) es ≡ true). inr (inr (inr (not_above before_it (mask_of es) (sym (ap (λ b. b && ltb before_it (mask_of es)) o) ∙ h)))))
      (λ (o : orderly (Some 0) es ≡ false). from (disorder (Some 0) es o))
      (cases_Bool (orderly (Some 0) es))
    where
      from : Disorder (Some 0) es → Fault
      from (inl (j, l, (m, a))) = absurd (true≢false (sym (lt-ltb 0 (get_or es j 0) (omega arith)) ∙ a))
      from (inr (inl n)) = inl n
      from (inr (inr g)) = inr (inl g)

  fault_fails : Fault → (orderly (Some 0) es && ltb before_it (mask_of es)) ≡ false
  fault_fails f =
      ⊎_elim
      (λ (t : (orderly (Some 0) es && ltb before_it (mask_of es)) ≡ true). let p = and_parts (orderly (Some 0) es) (ltb before_it (mask_of es)) t in absurd (against p.0 (ltb-true before_it (mask_of es) p.1) f))
      (λ (t : (orderly (Some 0) es && ltb before_it (mask_of es)) ≡ false). t)
      (cases_Bool (orderly (Some 0) es && ltb before_it (mask_of es)))
    where
      against : orderly (Some 0) es ≡ true → before_it < mask_of es → Fault → ⊥
      against o l (inl (j, lj, (m, (i, k, (b, n))))) = let r = (orderly_says (Some 0) es o j lj m).1 i b in omega arith
      against o l (inr (inl (j, lj, (m, (i, k, (b, n)))))) = let r = (orderly_says (Some 0) es o j lj m).1 i b in omega arith
      against o l (inr (inr (inl none))) = omega (arith, mask_none es none)
      against o l (inr (inr (inr low))) = omega arith

-- ---- a line
-- the refusal of a field is no line's
of_field : Refusal → Bool
of_field Layout = false
of_field (NoNumber l f) = true
of_field (OutOfRange l f) = true
of_field (Members l) = false
of_field Groups = false

module _ (s : List ℕ) (l : ℕ) where
  field_refuses : (f : ℕ) (e : Refusal) → first_refusal (field_checks s l f) ≡ Some e → of_field e ≡ true
  unfolding entry_checks of_field
  field_refuses f e h = two _ _ h
    where
      two : (a b : Bool) → cond a (cond b None (Some (OutOfRange l f))) (Some (NoNumber l f)) ≡ Some e → of_field e ≡ true
      two false b h = sym (ap of_field (same_Some (NoNumber l f) e h))
      two true false h = sym (ap of_field (same_Some (OutOfRange l f) e h))
      two true true h = absurd (none-some e h)

  fields_refuse : (a k : ℕ) (e : Refusal) → first_refusal (flat_map (field_checks s l) (range_with_len a k)) ≡ Some e → of_field e ≡ true
  fields_refuse a zero e h = absurd (none-some e h)
  fields_refuse a (suc k) e h = by (fields_refuse (a + 1) k e) (first_refusal (field_checks s l a)) refl
    where
      by : (first_refusal (flat_map (field_checks s l) (range_with_len (a + 1) k)) ≡ Some e → of_field e ≡ true) → (o : Option Refusal) → first_refusal (field_checks s l a) ≡ o → of_field e ≡ true
      by later None o = later (sym (behind (field_checks s l a) (flat_map (field_checks s l) (range_with_len (a + 1) k)) o) ∙ h)
      by later (Some x) o = field_refuses a e (o ∙ sym (before (field_checks s l a) (flat_map (field_checks s l) (range_with_len (a + 1) k)) x o) ∙ h)

  abbrev fields : List (Bool × Refusal)
  fields = flat_map (field_checks s l) (range_with_len 1 8)

  members_refuse : first_refusal (members_check s l ∷ []) ≡ Some (Members l) → (members_check s l).0 ≡ false
  members_refuse h = from (members_check s l).0 h
    where
      from : (b : Bool) → cond b None (Some (Members l)) ≡ Some (Members l) → b ≡ false
      from true h = absurd (none-some (Members l) h)
      from false h = refl

  line_from : first_refusal (line_checks s l) ≡ Some (Members l) → (first_refusal fields ≡ None) × MembersFault s l
  unfolding line_checks of_field
  line_from h = by (first_refusal fields) refl
    where
      by : (o : Option Refusal) → first_refusal fields ≡ o → (first_refusal fields ≡ None) × MembersFault s l
      by None o = (o, fault_from (entries s l 1 8) (above_at s l) (members_refuse (sym (behind fields (members_check s l ∷ []) o) ∙ h)))
      by (Some e) o =
          let same : Some e ≡ Some (Members l) = sym (before fields (members_check s l ∷ []) e o) ∙ h in
          absurd (false≢true (ap of_field (sym (same_Some e (Members l) same)) ∙ fields_refuse 1 8 e o))

  line_to : (first_refusal fields ≡ None) × MembersFault s l → first_refusal (line_checks s l) ≡ Some (Members l)
  unfolding line_checks
  line_to (pass, fault) = behind fields (members_check s l ∷ []) pass ∙ ap (λ b. first_refusal ((b, Members l) ∷ [])) (fault_fails (entries s l 1 8) (above_at s l) fault)

  -- a blank field and its entry
  entry_of_blank : (bytes : List ℕ) → blank bytes ≡ true → worth bytes ≡ 0
  entry_of_blank bytes b =
      let none : unpadded bytes ≡ [] = nil_from_length (unpadded bytes) (eqb-true _ _ b) in
      ap (λ xs. unwrap_or (cond (plain xs) (Some (read_on 0 xs)) None) 0) none

  bare_field : (f : ℕ) → first_refusal (field_checks s l f) ≡ None → worth (field_at 3 s l f) ≡ 0 → blank (field_at 3 s l f) ≡ true
  unfolding entry_checks
  bare_field f h none =
      let bytes = field_at 3 s l f in
      let range = (first_passes _ _ _ (first_passes _ _ _ h).1).0 in
      ⊎_elim
      (λ (b : blank bytes ≡ true). b)
      (λ (r : (leb 1 (worth bytes) && _) ≡ true). absurd (omega (arith, none, leb-true 1 (worth bytes) (and_parts _ _ r).0)))
      (or_cases _ _ range)

pub group_lines : GroupLines
group_lines = record {
  fails = λ s l. (fault_from (entries s l 1 8) (above_at s l), fault_fails (entries s l 1 8) (above_at s l));
  refused = λ s l. (line_from s l, line_to s l);
  bare = λ s l f h. (bare_field s l f h, entry_of_blank s l (field_at 3 s l f));
}
