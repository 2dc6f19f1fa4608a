-- The members of a mask, their number and their places.
use Rattle.std.proofs.Common.{◌≡◌, ℕ, zero, suc, ◌+◌, ◌-◌, ◌*◌, ◌/◌, ◌%◌, ◌^◌, ◌<◌, ◌≤◌, Bool, true, false, cond, ◌&&◌, eqb, leb, ◌⊎◌, List, [], ◌∷◌, length, get_or, Some, None, Option, MatchOption, slice_get, sym, refl, ap, ◌∙◌, inl, inr, ⊎_elim, arith}
use lib.Bits.{bit_and}
use lib.Count.{ones, count_trailing_zeros}
use Rattle.std.specs.List.{range_with_len, list_all}
use Rattle.std.specs.Option.{option_map}
use Rattle.std.proofs.lemmas.Bool.{and_parts, and_left, and_right, cases_Bool, cases_lt, cond_both, cond-true, cond-false, eqb-true, eq-eqb, ne_eqb, lt-leb, leb-true, false≢true}
use Rattle.std.proofs.lemmas.Nat.{and_mask, one_shl}
use Rattle.std.proofs.lemmas.Option.{slice_get-get_or, slice_get_within, get_or_from_slice_get, none-some, same_Some, cond_some}
use Rattle.plan.specs.Members.{members, members_from, has, place}
use Rattle.plan.specs.Laws.{Seats}
use Rattle.plan.proofs.Tested.{tested_at}

-- ---- what is computed once over all masks
abbrev same : Option ℕ → Option ℕ → Bool
same None None = true
same None (Some y) = false
same (Some x) None = false
same (Some x) (Some y) = eqb x y

same_is : (a b : Option ℕ) → same a b ≡ true → a ≡ b
same_is None None h = refl
same_is None (Some y) h = absurd (false≢true h)
same_is (Some x) None h = absurd (false≢true h)
same_is (Some x) (Some y) h = ap (λ n. Some n) (eqb-true x y h)

-- where a member stands, by the bits below hers
abbrev pub seat : ℕ → ℕ → Option ℕ
seat mask t = cond (has mask t) (Some (ones (mask % 2 ^ (t - 1)))) None

abbrev well : ℕ → Bool
well mask = eqb (ones mask) (length (members mask)) && list_all (λ t. same (place t (members mask)) (seat mask t)) (range_with_len 1 8)

all_well : list_all well (range_with_len 0 256) ≡ true
unfolding members ones
all_well = refl

pub count_is : (mask : ℕ) → mask < 256 → ones mask ≡ length (members mask)
count_is mask small =
    eqb-true _ _ (and_parts (eqb (ones mask) (length (members mask))) _ (tested_at well 0 256 all_well mask (omega arith) (omega arith))).0

-- nobody below the first trustee looked at, and nobody above the last, is a member
outside : (k a mask t : ℕ) → (t < a) ⊎ (a + k ≤ t) → place t (members_from k a mask) ≡ None
outside zero a mask t h = refl
outside (suc k) a mask t h =
    let later : (t < a + 1) ⊎ ((a + 1) + k ≤ t) = ⊎_elim (λ (l : t < a). inl (omega arith)) (λ (l : a + suc k ≤ t). inr (omega arith)) h in
    let none = outside k (a + 1) (mask / 2) t later in
    let other : eqb a t ≡ false = ne_eqb a t (λ e. ⊎_elim (λ (l : t < a). omega arith) (λ (l : a + suc k ≤ t). omega arith) h) in
    cond_both (eqb (mask % 2) 1) (a ∷ members_from k (a + 1) (mask / 2)) (members_from k (a + 1) (mask / 2)) (λ xs. place t xs ≡ None)
    (λ e. cond-false (eqb a t) (Some 0) (option_map suc (place t (members_from k (a + 1) (mask / 2)))) other ∙ ap (option_map suc) none)
    (λ e. none)

pub place_is : (mask t : ℕ) → mask < 256 → place t (members mask) ≡ seat mask t
unfolding members
place_is mask t small =
    let rest = tested_at (λ u. same (place u (members mask)) (seat mask u)) 1 8 (and_parts (eqb (ones mask) (length (members mask))) _ (tested_at well 0 256 all_well mask (omega arith) (omega arith))).1 in
    let nobody : has mask t ≡ false → (t < 1) ⊎ (1 + 8 ≤ t) → place t (members mask) ≡ seat mask t = λ no out. outside 8 1 mask t out ∙ sym (cond-false (has mask t) _ None no) in
    ⊎_elim (λ (l : t < 1). nobody (and_left (leb 1 t) _ (lt-leb 1 t l)) (inl l))
    (λ (g : 1 ≤ t).
    ⊎_elim (λ (l : t < 9). same_is _ _ (rest t g l)) (λ (h : 9 ≤ t). nobody (and_right (leb 1 t) _ (and_left (leb t 8) _ (lt-leb t 8 (omega arith)))) (inr (omega arith))) (cases_lt t 9))
    (cases_lt t 1)

pub no_seat : (mask t : ℕ) → mask < 256 → has mask t ≡ false → place t (members mask) ≡ None
no_seat mask t small out = place_is mask t small ∙ cond-false (has mask t) _ None out

pub seat_is : (mask t : ℕ) → mask < 256 → has mask t ≡ true → place t (members mask) ≡ Some (ones (bit_and mask ((1 * 2 ^ (t - 1)) % 256 - 1)))
seat_is mask t small in' =
    let p = and_parts (leb 1 t) _ in' in
    let low : 1 ≤ t = leb-true 1 t p.0 in
    let high : t ≤ 8 = leb-true t 8 (and_parts (leb t 8) _ p.1).0 in
    let bit : (1 * 2 ^ (t - 1)) % 256 ≡ 2 ^ (t - 1) = one_shl (t - 1) 8 (omega arith) in
    place_is mask t small ∙ cond-true (has mask t) _ None in'
    ∙ sym (ap (λ b. Some (ones (bit_and mask (b - 1)))) bit ∙ ap (λ b. Some (ones b)) (and_mask mask (t - 1)))

-- ---- members rise
pub above : (k a mask i : ℕ) → i < length (members_from k a mask) → a ≤ get_or (members_from k a mask) i 0
above zero a mask i l = absurd (omega arith)
above (suc k) a mask i l =
    let later = above k (a + 1) (mask / 2) in
    let P : List ℕ → Type 0 = λ xs. i < length xs → a ≤ get_or xs i 0 in
    cond_both (eqb (mask % 2) 1) (a ∷ members_from k (a + 1) (mask / 2)) (members_from k (a + 1) (mask / 2)) P
    (λ e. first a (members_from k (a + 1) (mask / 2)) later i)
    (λ e m. omega (arith, later i m))
    l
  where
    first : (x : ℕ) (xs : List ℕ) → ((j : ℕ) → j < length xs → x + 1 ≤ get_or xs j 0) → (j : ℕ) → j < length (x ∷ xs) → x ≤ get_or (x ∷ xs) j 0
    first x xs h zero m = omega arith
    first x xs h (suc j) m = omega (arith, h j (omega arith))

-- each entry is above all before it
abbrev pub Climbing : List ℕ → Type 0
Climbing [] = Unit {0}
Climbing (x ∷ xs) = ((i : ℕ) → i < length xs → x < get_or xs i 0) × Climbing xs

pub climbing_members : (k a mask : ℕ) → Climbing (members_from k a mask)
climbing_members zero a mask = tt
climbing_members (suc k) a mask =
    let rest = climbing_members k (a + 1) (mask / 2) in
    cond_both (eqb (mask % 2) 1) (a ∷ members_from k (a + 1) (mask / 2)) (members_from k (a + 1) (mask / 2)) Climbing
    (λ e. ((λ i l. omega (arith, above k (a + 1) (mask / 2) i l)), rest))
    (λ e. rest)

pub climbs : (xs : List ℕ) → Climbing xs → (i j : ℕ) → i < j → j < length xs → get_or xs i 0 < get_or xs j 0
climbs [] c i j l m = absurd (omega arith)
climbs (x ∷ xs) c i zero l m = absurd (omega arith)
climbs (x ∷ xs) c zero (suc j) l m = c.0 j (omega arith)
climbs (x ∷ xs) c (suc i) (suc j) l m = climbs xs c.1 i j (omega arith) (omega arith)

-- ---- places
there : (t : ℕ) (xs : List ℕ) (i : ℕ) → place t xs ≡ Some i → (i < length xs) × (get_or xs i 0 ≡ t)
there t [] i h = absurd (none-some i h)
there t (x ∷ xs) i h =
    ⊎_elim
    (λ (e : eqb x t ≡ true). here i (same_Some 0 i (sym (cond-true (eqb x t) (Some 0) (option_map suc (place t xs)) e) ∙ h)) (eqb-true x t e))
    (λ (e : eqb x t ≡ false). next (place t xs) i (there t xs) (sym (cond-false (eqb x t) (Some 0) (option_map suc (place t xs)) e) ∙ h))
    (cases_Bool (eqb x t))
  where
    here : (j : ℕ) → 0 ≡ j → x ≡ t → (j < length (x ∷ xs)) × (get_or (x ∷ xs) j 0 ≡ t)
    here zero z e = (omega arith, e)
    here (suc j) z e = absurd (omega arith)

    next : (o : Option ℕ) (j : ℕ) → ((k : ℕ) → o ≡ Some k → (k < length xs) × (get_or xs k 0 ≡ t)) → option_map suc o ≡ Some j → (j < length (x ∷ xs)) × (get_or (x ∷ xs) j 0 ≡ t)
    next None j r h = absurd (none-some j h)
    next (Some k) zero r h = let z : suc k ≡ 0 = cc in absurd (omega arith)
    next (Some k) (suc j) r h = let z : suc k ≡ suc j = cc in let e : k ≡ j = omega arith in let q = r j (ap (λ n. Some n) e) in (omega (arith, q.0), q.1)

stands : (xs : List ℕ) → Climbing xs → (i : ℕ) → i < length xs → place (get_or xs i 0) xs ≡ Some i
stands [] c i l = absurd (omega arith)
stands (x ∷ xs) c zero l = cond-true (eqb x x) (Some 0) _ (eq-eqb x x refl)
stands (x ∷ xs) c (suc i) l =
    let lt = c.0 i (omega arith) in
    cond-false (eqb x (get_or xs i 0)) (Some 0) _ (ne_eqb _ _ (λ e. omega arith)) ∙ ap (option_map suc) (stands xs c.1 i (omega arith))

pub seats : (mask : ℕ) → mask < 256 → Seats mask
unfolding members
seats mask small = record {
  rising = λ i j l m. climbs (members mask) (climbing_members 8 1 mask) i j l m;
  placed = λ t i h. let q = there t (members mask) i h in (q.0, q.1, (cond_some (has mask t) _ i (sym (place_is mask t small) ∙ h)).0);
  stands = λ i l. stands (members mask) (climbing_members 8 1 mask) i l;
  found = λ t h. (ones (mask % 2 ^ (t - 1)), place_is mask t small ∙ cond-true (has mask t) _ None h);
}

-- ---- the members one by one, lowest first
alike : List ℕ → List ℕ → Bool
alike [] [] = true
alike [] (y ∷ ys) = false
alike (x ∷ xs) [] = false
alike (x ∷ xs) (y ∷ ys) = eqb x y && alike xs ys

alike_is : (xs ys : List ℕ) → alike xs ys ≡ true → xs ≡ ys
unfolding alike
alike_is [] [] h = refl
alike_is [] (y ∷ ys) h = absurd (false≢true h)
alike_is (x ∷ xs) [] h = absurd (false≢true h)
alike_is (x ∷ xs) (y ∷ ys) h =
    let p = and_parts (eqb x y) (alike xs ys) h in
    ap (λ z. z ∷ xs) (eqb-true x y p.0) ∙ ap (λ zs. y ∷ zs) (alike_is xs ys p.1)

peels : ℕ → Bool
peels mask = alike (members mask) ((count_trailing_zeros 8 mask + 1) ∷ members (bit_and mask (mask - 1)))

all_peel : list_all peels (range_with_len 1 255) ≡ true
unfolding alike peels members count_trailing_zeros
all_peel = refl

pub peeled : (mask : ℕ) → 1 ≤ mask → mask < 256 → members mask ≡ (count_trailing_zeros 8 mask + 1) ∷ members (bit_and mask (mask - 1))
unfolding peels
peeled mask low small = alike_is _ _ (tested_at peels 1 255 all_peel mask low (omega arith))

pub nobody : members 0 ≡ []
unfolding members
nobody = refl

-- the member at a place
below : (k a mask i : ℕ) → i < length (members_from k a mask) → get_or (members_from k a mask) i 0 < a + k
below zero a mask i l = absurd (omega arith)
below (suc k) a mask i l =
    let later = below k (a + 1) (mask / 2) in
    let P : List ℕ → Type 0 = λ xs. i < length xs → get_or xs i 0 < a + suc k in
    cond_both (eqb (mask % 2) 1) (a ∷ members_from k (a + 1) (mask / 2)) (members_from k (a + 1) (mask / 2)) P
    (λ e. first (members_from k (a + 1) (mask / 2)) later i)
    (λ e m. omega (arith, later i m))
    l
  where
    first : (xs : List ℕ) → ((j : ℕ) → j < length xs → get_or xs j 0 < (a + 1) + k) → (j : ℕ) → j < length (a ∷ xs) → get_or (a ∷ xs) j 0 < a + suc k
    first xs h zero m = omega arith
    first xs h (suc j) m = omega (arith, h j (omega arith))

pub member_at : (mask i : ℕ) (r : Option ℕ) → option_map (λ t. t) r ≡ slice_get (members mask) i
    → MatchOption r (length (members mask) ≤ i) (λ t. (i < length (members mask)) × (t ≡ get_or (members mask) i 0) × (1 ≤ t) × (t ≤ 8))
unfolding members
member_at mask i None e = ⊎_elim (λ (l : i < length (members mask)). absurd (none-some _ (e ∙ slice_get-get_or (members mask) i 0 l))) (λ (l : length (members mask) ≤ i). l) (cases_lt i (length (members mask)))
member_at mask i (Some t) e =
    let l = slice_get_within (members mask) i t (sym e) in
    let is = get_or_from_slice_get (members mask) i t 0 (sym e) in
    (l, sym is, omega (arith, is, above 8 1 mask i l), omega (arith, is, below 8 1 mask i l))
