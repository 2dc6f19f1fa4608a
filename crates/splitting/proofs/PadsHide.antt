-- Rows and pads that change together, and what no pad changes.
use Rattle.std.proofs.Common.{◌≡◌, ◌≢◌, ℕ, zero, suc, ◌+◌, ◌*◌, ◌/◌, ◌%◌, ◌<◌, ◌≤◌, ◌⊎◌, Bool, true, false, cond, not, ◌&&◌, eqb, List, [], ◌∷◌, map, length, get_or, set, Some, None, Ok, Option, sym, refl, ap, ◌∙◌, subst, ap₂, ⊎_elim, arith}
use Rattle.std.specs.Prelude.{Contains, is_some}
use Rattle.std.specs.List.{list_all}
use Rattle.std.proofs.lemmas.List.{length-map, get_or-set_same, get_or-set_other}
use Rattle.std.proofs.lemmas.List.Sums.{AllPass-from_list_all}
use Rattle.std.proofs.lemmas.Nat.{xor_of_8}
use Rattle.std.proofs.lemmas.Bool.{cases_Bool, cases_eq, cond_both, cond-true, cond-false, eq-eqb, ne_eqb, true≢false}
use Rattle.std.proofs.lemmas.Option.{none-some, same_Some}
use Rattle.std.proofs.Math.ListN.{get_or-map}
use lib.Bits.{bit_xor, xor_assoc, xor_self, xor_comm, xor_zero_r}
use Rattle.checks.specs.Checks.{first_refusal}
use Rattle.hash.specs.Bytes.{Bytes}
use Rattle.rows.specs.Bytes.{row_at, xored}
use Rattle.rows.proofs.Rows.{rows_same}
use Rattle.rows.proofs.Added.{sums}
use Rattle.plan.specs.Shape.{Shape}
use Rattle.plan.specs.Keys.{owner}
use Rattle.plan.specs.Members.{members_from, members}
use Rattle.layout.specs.Table.{rows_of_group}
use Rattle.pads.specs.declared.label.Label.{Label}
use Rattle.pads.specs.Row.{IsRow, AllRows}
use Rattle.pads.specs.Source.{Source}
use Rattle.pads.proofs.BookRows.{row_within}
use Rattle.pads.proofs.Placed.{there, of_key, row_inside}
use Rattle.splitting.specs.declared.refusal.Refusal.TheVariants.{Sources, SameChecks, Undealt, Buffer, NotHeld}
use Rattle.splitting.specs.Sources.{no_source, clash, distinct, source_of, pad_of, all_hold, padded}
use Rattle.splitting.specs.Split.{members_of, part_label, part_row, of_owner, part_long, refusal, split_for, answer, split}
use Rattle.splitting.specs.Hiding.{without_pads, DifferInPads, OneChanges, Dealing, ChangeTogether, OtherPads, Hiding}
use Rattle.splitting.proofs.Listed.{any_mapped}
use Rattle.splitting.proofs.Fitting.{all_passed}
use Rattle.splitting.proofs.Undone.{fine, long}

-- ---- bits: a change on both sides is none
both : (x d y : ℕ) → bit_xor (bit_xor x d) (bit_xor y d) ≡ bit_xor x y
both x d y =
    xor_assoc x d (bit_xor y d)
    ∙ ap (bit_xor x) (xor_comm d (bit_xor y d) ∙ xor_assoc y d d ∙ ap (bit_xor y) (xor_self d) ∙ xor_zero_r y)

changed_twice : (row d pad : List ℕ) → length d ≤ length pad → xored (xored row d) (xored pad d) ≡ xored row pad
unfolding xored
changed_twice [] d pad h = refl
changed_twice (x ∷ xs) [] [] h = refl
changed_twice (x ∷ xs) [] (y ∷ ys) h = refl
changed_twice (x ∷ xs) (z ∷ zs) [] h = absurd (omega arith)
changed_twice (x ∷ xs) (z ∷ zs) (y ∷ ys) h = ap₂ (λ u us. u ∷ us) (both x z y) (changed_twice xs zs ys (omega arith))

-- ---- the members one after the other
in_rest : (t s : ℕ) (M : List ℕ) → Contains (s ∷ M) t → s ≢ t → Contains M t
in_rest t s M c n = from c.0 c.1 c.2
  where
    from : (k : ℕ) → k < length (s ∷ M) → get_or (s ∷ M) k t ≡ t → Contains M t
    from zero l e = absurd (n e)
    from (suc k) l e = (k, omega arith, e)

module _ (old new : List Source) (t : ℕ) (l : Label) (d : List ℕ)
    (hers : pad_of new t l ≡ xored (pad_of old t l) d) (wide : length d ≤ length (pad_of old t l))
    (others : (u : ℕ) → u ≢ t → pad_of new u l ≡ pad_of old u l)
  where
    -- of trustees behind her
    absent_step : (b : Bool) (s : ℕ) (M row : List ℕ) → t < s → ((r : List ℕ) → padded new M l r ≡ padded old M l r) →
        padded new (cond b (s ∷ M) M) l row ≡ padded old (cond b (s ∷ M) M) l row
    absent_step false s M row h later = later row
    absent_step true s M row h later = ap (λ x. padded new M l (xored row x)) (others s (λ e. omega arith)) ∙ later (xored row (pad_of old s l))

    absent : (k s mask : ℕ) (row : List ℕ) → t < s → padded new (members_from k s mask) l row ≡ padded old (members_from k s mask) l row
    absent zero s mask row h = refl
    absent (suc k) s mask row h = absent_step (eqb (mask % 2) 1) s (members_from k (s + 1) (mask / 2)) row h (λ r. absent k (s + 1) (mask / 2) r (omega arith))

    -- and of those among whom she is
    present_step : (b : Bool) (s : ℕ) (M row : List ℕ) → Contains (cond b (s ∷ M) M) t → ((r : List ℕ) → t < s + 1 → padded new M l r ≡ padded old M l r) →
        ((r : List ℕ) → Contains M t → padded new M l (xored r d) ≡ padded old M l r) →
        padded new (cond b (s ∷ M) M) l (xored row d) ≡ padded old (cond b (s ∷ M) M) l row
    present_step false s M row c gone later = later row c
    present_step true s M row c gone later =
        ⊎_elim
        (λ (e : s ≡ t).
        ap (λ x. padded new M l (xored (xored row d) x)) (ap (λ u. pad_of new u l) e ∙ hers)
        ∙ ap (padded new M l) (changed_twice row d (pad_of old t l) wide)
        ∙ gone (xored row (pad_of old t l)) (omega arith)
        ∙ ap (λ u. padded old M l (xored row (pad_of old u l))) (sym e))
        (λ (n : s ≢ t).
        ap (λ x. padded new M l (xored (xored row d) x)) (others s n)
        ∙ ap (padded new M l) (sums.order row d (pad_of old s l))
        ∙ later (xored row (pad_of old s l)) (in_rest t s M c n))
        (cases_eq s t)

    present : (k s mask : ℕ) (row : List ℕ) → Contains (members_from k s mask) t → padded new (members_from k s mask) l (xored row d) ≡ padded old (members_from k s mask) l row
    present zero s mask row c = let no : c.0 < 0 = c.1 in absurd (omega arith)
    present (suc k) s mask row c =
        present_step (eqb (mask % 2) 1) s (members_from k (s + 1) (mask / 2)) row c (λ r b. absent k (s + 1) (mask / 2) r b) (λ r i. present k (s + 1) (mask / 2) r i)

    among : (mask : ℕ) (row : List ℕ) → Contains (members mask) t → padded new (members mask) l (xored row d) ≡ padded old (members mask) l row
    unfolding members
    among mask row c = present 8 1 mask row c

row_same : (p : Shape) (g : ℕ) (old new : List Source) (l : Label) (d row : List ℕ) → OneChanges old new (members_of p g) l d →
    padded new (members_of p g) l (xored row d) ≡ padded old (members_of p g) l row
row_same p g old new l d row x = among old new x.t l d x.hers x.long x.others (get_or p.masks g 0) row x.member

-- ---- what is refused depends on no pad
distinct_without : (xs : List Source) → distinct (map without_pads xs) ≡ distinct xs
distinct_without [] = refl
distinct_without (a ∷ rest) = ap₂ (λ x y. not x && y) (sym (any_mapped (clash (without_pads a)) without_pads rest)) (distinct_without rest)

held_without : (xs : List Source) (t key : ℕ) → (source_of (map without_pads xs) t).held key ≡ (source_of xs t).held key
held_without xs zero key = refl
held_without xs (suc i) key = ap (λ (s : Source). s.held key) (get_or-map without_pads xs i no_source)

hold_without : (xs : List Source) (ts : List ℕ) (key : ℕ) → all_hold (map without_pads xs) ts key ≡ all_hold xs ts key
hold_without xs ts key = λ j. list_all (λ t. held_without xs t key j) ts

refusal_without : (p : Shape) (xs : List Source) (key n : ℕ) → refusal p (map without_pads xs) key n ≡ refusal p xs key n
refusal_without p xs key n = λ j. first_refusal (
    (eqb (length-map xs without_pads j) p.trustees, Sources)
    ∷ (distinct_without xs j, SameChecks)
    ∷ (is_some (owner p key), Undealt)
    ∷ (of_owner (part_long p n) (owner p key), Buffer)
    ∷ (of_owner (λ g. hold_without xs (members_of p g) key j) (owner p key), NotHeld)
    ∷ [])

refusals : (p : Shape) (old new : List Source) (key n : ℕ) → DifferInPads old new → refusal p old key n ≡ refusal p new key n
refusals p old new key n same = sym (refusal_without p old key n) ∙ ap (λ xs. refusal p xs key n) same ∙ refusal_without p new key n

-- ---- whole parts
parts : (p : Shape) (g key : ℕ) (old new : Dealing) → owner p key ≡ Some g → ChangeTogether p g key old new →
    split p new.sources key new.sheet ≡ split p old.sources key old.sheet
parts p g key old new o x =
    let M = members_of p g in
    let label = part_label p g key in
    let each : (n : ℕ) → n < rows_of_group p g → padded new.sources M (label n) (row_at n new.sheet) ≡ padded old.sources M (label n) (row_at n old.sheet) =
    λ n l. ap (padded new.sources M (label n)) (x.row n l) ∙ row_same p g old.sources new.sources (label n) (x.change n) (row_at n old.sheet) (x.pad n l) in
    ap (λ r. answer r (split_for p new.sources key new.sheet (owner p key))) (ap (refusal p new.sources key) x.long ∙ sym (refusals p old.sources new.sources key (length old.sheet) x.sources))
    ∙ ap (answer (refusal p old.sources key (length old.sheet)))
    (ap (split_for p new.sources key new.sheet) o
    ∙ rows_same (rows_of_group p g) (λ n. padded new.sources M (label n) (row_at n new.sheet)) (λ n. padded old.sources M (label n) (row_at n old.sheet)) each
    ∙ sym (ap (split_for p old.sources key old.sheet) o))

-- ---- any other rows, with other pads of one member
undone : (x y : ℕ) → bit_xor x (bit_xor x y) ≡ y
undone x y = sym (xor_assoc x x y) ∙ ap (λ z. bit_xor z y) (xor_self x) ∙ xor_comm 0 y ∙ xor_zero_r y

difference : (a b : List ℕ) → length a ≡ length b → xored a (xored a b) ≡ b
unfolding xored
difference [] [] h = refl
difference [] (y ∷ ys) h = absurd (omega arith)
difference (x ∷ xs) [] h = absurd (omega arith)
difference (x ∷ xs) (y ∷ ys) h = ap₂ (λ u us. u ∷ us) (undone x y) (difference xs ys (omega arith))

bytes_xored : (a b : List ℕ) → Bytes a → Bytes b → Bytes (xored a b)
unfolding xored
bytes_xored [] b h k = tt
bytes_xored (x ∷ xs) [] h k = h
bytes_xored (x ∷ xs) (y ∷ ys) h k = (xor_of_8 x y h.0 k.0, bytes_xored xs ys h.1 k.1)

row_xored : (a b : List ℕ) → IsRow a → IsRow b → IsRow (xored a b)
row_xored a b h k = record { long = sums.long a b ∙ h.long; bytes = bytes_xored a b h.bytes k.bytes }

-- a source put in another's place, with what that one is apart from its pads
put_alike : (xs : List Source) (i : ℕ) (v : Source) → without_pads v ≡ without_pads (get_or xs i no_source) → DifferInPads xs (set xs i v)
put_alike [] i v h = refl
put_alike (x ∷ xs) zero v h = ap (λ y. y ∷ map without_pads xs) (sym h)
put_alike (x ∷ xs) (suc i) v h = ap (λ ys. without_pads x ∷ ys) (put_alike xs i v h)

-- whose source holds a key is one of those who have sources
there_is : (xs : List Source) (i key : ℕ) → (get_or xs i no_source).held key ≡ true → i < length xs
there_is [] i key h = absurd (true≢false (sym h))
there_is (x ∷ xs) zero key h = omega arith
there_is (x ∷ xs) (suc i) key h = omega (arith, there_is xs i key h)

-- a pad with a change at the label of a row
changed : List ℕ → (ℕ → List ℕ) → Option ℕ → List ℕ
changed pad change None = pad
changed pad change (Some n) = xored pad (change n)

changed_row : (pad : List ℕ) (change : ℕ → List ℕ) (r : Option ℕ) → IsRow pad → ((n : ℕ) → r ≡ Some n → IsRow (change n)) → IsRow (changed pad change r)
unfolding changed
changed_row pad change None h k = h
changed_row pad change (Some n) h k = row_xored pad (change n) h (k n refl)

changed_at : (pad : List ℕ) (change : ℕ → List ℕ) (r : Option ℕ) (n : ℕ) → r ≡ Some n → changed pad change r ≡ xored pad (change n)
unfolding changed
changed_at pad change r n e = ap (changed pad change) e

unchanged : (pad : List ℕ) (change : ℕ → List ℕ) (r : Option ℕ) → r ≡ None → changed pad change r ≡ pad
unfolding changed
unchanged pad change r e = ap (changed pad change) e

module _ (p : Shape) (g key i : ℕ) (sources : List Source) (sheet other part : List ℕ)
    (owned : owner p key ≡ Some g) (member : Contains (members_of p g) (suc i)) (her-rows : AllRows (source_of sources (suc i)).pad)
    (sheet-bytes : Bytes sheet) (other-bytes : Bytes other) (same : length other ≡ length sheet) (e : split p sources key sheet ≡ Ok part)
    (there-is : i < length sources)
  where
    abbrev R : ℕ
    R = rows_of_group p g

    abbrev her : Source
    her = source_of sources (suc i)

    abbrev label : ℕ → Label
    label = part_label p g key

    abbrev change : ℕ → List ℕ
    change n = xored (row_at n sheet) (row_at n other)

    -- the row of a label of this key
    abbrev row : Label → Option ℕ
    row l = cond (eqb l.key key) (part_row p g l) None

    abbrev hers : Source
    hers = record { held = her.held; pad = λ l. changed (her.pad l) change (row l); check = her.check }

    abbrev new : List Source
    new = set sources i hers

    is_hers : source_of new (suc i) ≡ hers
    is_hers = get_or-set_same sources i hers no_source there-is

    is_others : (u : ℕ) (l : Label) → u ≢ suc i → pad_of new u l ≡ pad_of sources u l
    is_others zero l n = refl
    is_others (suc j) l n = ap (λ (s : Source). s.pad l) (get_or-set_other sources i j hers no_source (λ z. n (ap suc z)))

    has_row : (n : ℕ) → n < R → row (label n) ≡ Some n
    has_row n l =
        let k = length (members_of p g) in
        cond-true (eqb (label n).key key) (part_row p g (label n)) None (eq-eqb (label n).key key (of_key k p.height p.width key n)) ∙ there k p.height p.width key n l

    no_row : (l : Label) → (l.key ≢ key) ⊎ (part_row p g l ≡ None) → row l ≡ None
    no_row l = ⊎_elim
        (λ (n : l.key ≢ key). cond-false (eqb l.key key) (part_row p g l) None (ne_eqb l.key key n))
        (λ (n : part_row p g l ≡ None). cond_both (eqb l.key key) (part_row p g l) None (λ r. r ≡ None) (λ a. n) (λ a. refl))

    row_in : (l : Label) (n : ℕ) → row l ≡ Some n → n < R
    row_in l n a = ⊎_elim
        (λ (y : eqb l.key key ≡ true). row_inside (length (members_of p g)) p.height p.width n l (sym (cond-true (eqb l.key key) (part_row p g l) None y) ∙ a))
        (λ (f : eqb l.key key ≡ false). absurd (none-some n (sym (cond-false (eqb l.key key) (part_row p g l) None f) ∙ a)))
        (cases_Bool (eqb l.key key))

    sheet-long : length sheet ≡ 32 * R
    sheet-long = long p sources key sheet part e g owned

    other-long : length other ≡ 32 * R
    other-long = same ∙ sheet-long

    row_of_sheet : (n : ℕ) → n < R → IsRow (row_at n sheet)
    row_of_sheet n l = row_within n sheet sheet-bytes (omega (arith, sheet-long))

    row_of_other : (n : ℕ) → n < R → IsRow (row_at n other)
    row_of_other n l = row_within n other other-bytes (omega (arith, other-long))

    one : (n : ℕ) → n < R → OneChanges sources new (members_of p g) (label n) (change n)
    one n l = record {
      t = suc i;
      member = member;
      hers = ap (λ (s : Source). s.pad (label n)) is_hers ∙ changed_at (her.pad (label n)) change (row (label n)) n (has_row n l);
      long = omega (arith, sums.long (row_at n sheet) (row_at n other), (row_of_sheet n l).long, (her-rows (label n)).long);
      others = λ u. is_others u (label n);
    }

    together : ChangeTogether p g key (record { sources = sources; sheet = sheet }) (record { sources = new; sheet = other })
    together = record {
      sources = put_alike sources i hers refl;
      long = same;
      change = change;
      row = λ n l. sym (difference (row_at n sheet) (row_at n other) ((row_of_sheet n l).long ∙ sym (row_of_other n l).long));
      pad = one;
    }

    other_pads : OtherPads p g key (suc i) sources other part
    other_pads = record {
      new = new;
      alike = together.sources;
      others = is_others;
      kept = λ l n. ap (λ (s : Source). s.pad l) is_hers ∙ unchanged (her.pad l) change (row l) (no_row l n);
      rows = λ l. subst (λ (s : Source). IsRow (s.pad l)) (sym is_hers) (changed_row (her.pad l) change (row l) (her-rows l) (λ n a.
          let inside = row_in l n a in
          row_xored (row_at n sheet) (row_at n other) (row_of_sheet n inside) (row_of_other n inside)));
      same = parts p g key (record { sources = sources; sheet = sheet }) (record { sources = new; sheet = other }) owned together ∙ e;
    }

any_rows : (p : Shape) (g key t : ℕ) (sources : List Source) (sheet other part : List ℕ) → owner p key ≡ Some g → Contains (members_of p g) t → AllRows (source_of sources t).pad →
    Bytes sheet → Bytes other → length other ≡ length sheet → split p sources key sheet ≡ Ok part → OtherPads p g key t sources other part
any_rows p g key t sources sheet other part owned member her-rows sheet-bytes other-bytes same e = by t member her-rows
  where
    held : (u : ℕ) → Contains (members_of p g) u → (source_of sources u).held key ≡ true
    held u c =
        let all = all_passed p sources key (length sheet) (fine p sources key sheet part e) in
        let is-g : all.g ≡ g = same_Some all.g g (sym all.owns ∙ owned) in
        ap (λ v. (source_of sources v).held key) (sym c.2)
        ∙ AllPass-from_list_all (λ v. (source_of sources v).held key) (members_of p g) (ap (λ x. all_hold sources (members_of p x) key) (sym is-g) ∙ all.held) c.0 u c.1

    by : (u : ℕ) → Contains (members_of p g) u → AllRows (source_of sources u).pad → OtherPads p g key u sources other part
    by zero c r = absurd (true≢false (sym (held 0 c)))
    by (suc i) c r = other_pads p g key i sources sheet other part owned c r sheet-bytes other-bytes same e (there_is sources i key (held (suc i) c))

pub hiding : Hiding
hiding = record { refusals = refusals; row = row_same; parts = parts; any_rows = any_rows }
