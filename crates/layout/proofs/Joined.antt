-- How parts lie one behind another.
use Rattle.std.proofs.Common.{◌≡◌, ℕ, zero, suc, ◌+◌, ◌-◌, ◌*◌, ◌<◌, ◌≤◌, ◌⊎◌, length, sym, refl, ap, ◌∙◌, subst, ⊎_elim, mul_comm, add-mul, mul-le-mul_left, arith}
use Rattle.std.proofs.lemmas.Bool.{cases_eq, cases_lt, cases_order}
use Rattle.plan.specs.Shape.{Shape}
use Rattle.plan.specs.Keys.{first_key, key_count, Owns}
use Rattle.plan.specs.Laws.{Ranges}
use Rattle.plan.proofs.Owners.{later}
use Rattle.layout.specs.Laws.{Places}
use Rattle.layout.specs.Table.{rows_of_group, start_of, section_of, place_in, table_rows}

pub start_none : (p : Shape) → 0 ≡ start_of p 0
unfolding start_of
start_none p = refl

pub start_next : (p : Shape) (g : ℕ) → start_of p (g + 1) ≡ start_of p g + key_count p g * rows_of_group p g
unfolding start_of
start_next p g = let next : g + 1 ≡ suc g = omega arith in ap (start_of p) next

pub start_up : (p : Shape) (g k : ℕ) → g ≤ k → start_of p g ≤ start_of p k
start_up p g zero l = let e : g ≡ 0 = omega arith in omega (arith, ap (start_of p) e)
start_up p g (suc k) l =
    ⊎_elim
    (λ (m : g < suc k). let up = start_up p g k (omega arith) in let e : suc k ≡ k + 1 = omega arith in omega (arith, up, start_next p k, ap (start_of p) e))
    (λ (m : suc k ≤ g). let e : g ≡ suc k = omega arith in omega (arith, ap (start_of p) e))
    (cases_lt g (suc k))

-- some rows each: the next begins behind the last
steps : (each a b : ℕ) → a < b → a * each + each ≤ b * each
steps each a b l =
    let up : each * (a + 1) ≤ each * b = mul-le-mul_left each (omega arith) in
    omega (arith, up, mul_comm each (a + 1), mul_comm each b, add-mul a 1 each)

-- a part ends before the next group's begin
within_group : (p : Shape) (g key : ℕ) → Owns p g key → place_in (section_of p g) key + rows_of_group p g ≤ start_of p (g + 1)
within_group p g key o =
    let up = steps (rows_of_group p g) (key - first_key p g) (key_count p g) (omega (arith, o.1, o.2)) in
    omega (arith, up, start_next p g)

module _ (p : Shape) (r : Ranges p) where
  -- the first key of the group behind one
  pub first_next : (g : ℕ) → g < length p.masks → first_key p (g + 1) ≡ first_key p g + key_count p g
  first_next g l = let next : g + 1 ≡ suc g = omega arith in ap (first_key p) next ∙ r.follows g l

  -- ---- with nothing between parts
  -- the first key is the first group's
  begins : (g : ℕ) → Owns p g 0 → place_in (section_of p g) 0 ≡ 0
  begins zero o = let none : 0 - first_key p 0 ≡ 0 = omega arith in ap (λ n. start_of p 0 + n * rows_of_group p 0) none ∙ omega (arith, start_none p)
  begins (suc g) o = absurd (omega (arith, r.follows g (omega (arith, o.0)), r.some g (omega (arith, o.0)), o.1))

  -- a key's rows and those before it in its group
  one_more : (g key : ℕ) → (key - first_key p g + 1) * rows_of_group p g ≡ (key - first_key p g) * rows_of_group p g + rows_of_group p g
  one_more g key = omega (arith, add-mul (key - first_key p g) 1 (rows_of_group p g))

  -- the next key of a group
  within : (g key : ℕ) → Owns p g key → place_in (section_of p g) (key + 1) ≡ place_in (section_of p g) key + rows_of_group p g
  within g key o =
      let e : key + 1 - first_key p g ≡ key - first_key p g + 1 = omega (arith, o.1) in
      ap (λ n. start_of p g + n * rows_of_group p g) e ∙ omega (arith, one_more g key)

  -- a group's last key
  last : (g key : ℕ) → Owns p g key → key + 1 ≡ first_key p (g + 1) → start_of p (g + 1) ≡ place_in (section_of p g) key + rows_of_group p g
  last g key o e =
      let all : key - first_key p g + 1 ≡ key_count p g = omega (arith, e, first_next g o.0, o.1) in
      omega (arith, start_next p g, ap (λ n. n * rows_of_group p g) all, one_more g key)

  -- the next group's first key
  crossing : (g k key : ℕ) → g < k → Owns p g key → Owns p k (key + 1) → place_in (section_of p k) (key + 1) ≡ place_in (section_of p g) key + rows_of_group p g
  crossing g k key l og ok =
      let at : key + 1 ≡ first_key p k = omega (arith, later p r.follows g k l (omega (arith, ok.0)), og.2, ok.1) in
      let next : k ≡ g + 1 =
      ⊎_elim
      (λ (m : g + 1 < k). absurd (omega (arith, first_next g og.0, later p r.follows (g + 1) k m (omega (arith, ok.0)), r.some (g + 1) (omega (arith, m, ok.0)), og.2, at)))
      (λ (m : k ≤ g + 1). omega (arith, l))
      (cases_lt (g + 1) k) in
      let none : key + 1 - first_key p k ≡ 0 = omega (arith, at) in
      ap (λ n. start_of p k + n * rows_of_group p k) none
      ∙ omega (arith, ap (start_of p) next, last g key og (at ∙ ap (first_key p) next))

  -- a key of the same group, or the next group's first one
  follows : (g k key : ℕ) → Owns p g key → Owns p k (key + 1) → place_in (section_of p k) (key + 1) ≡ place_in (section_of p g) key + rows_of_group p g
  follows g k key og ok =
      ⊎_elim
      (λ (e : g ≡ k). subst (λ i. place_in (section_of p i) (key + 1) ≡ place_in (section_of p g) key + rows_of_group p g) e (within g key og))
      (λ (o : (g < k) ⊎ (k < g)).
      ⊎_elim
      (λ (l : g < k). crossing g k key l og ok)
      (λ (l : k < g). absurd (omega (arith, r.rising k g (key + 1) key l ok og)))
      o)
      (cases_order g k)

  -- behind the last dealt key nothing is owned
  ends : (g key : ℕ) → Owns p g key → ((k : ℕ) → Owns p k (key + 1) → ⊥) → place_in (section_of p g) key + rows_of_group p g ≡ table_rows p
  ends g key o none =
      let next = first_next g o.0 in
      let at : key + 1 ≡ first_key p (g + 1) =
      ⊎_elim
      (λ (l : key + 1 < first_key p g + key_count p g). absurd (none g (o.0, omega (arith, o.1), l)))
      (λ (l : first_key p g + key_count p g ≤ key + 1). omega (arith, l, o.2, next))
      (cases_lt (key + 1) (first_key p g + key_count p g)) in
      let top : g + 1 ≡ length p.masks =
      ⊎_elim
      (λ (l : g + 1 < length p.masks). absurd (none (g + 1) (l, omega (arith, at), omega (arith, at, r.some (g + 1) l))))
      (λ (l : length p.masks ≤ g + 1). omega (arith, l, o.0))
      (cases_lt (g + 1) (length p.masks)) in
      sym (last g key o at) ∙ ap (start_of p) top

pub places : (p : Shape) → Ranges p → Places p
places p r = record {
  apart = λ g k a b og ok l.
      ⊎_elim
      (λ (e : g ≡ k). apart_within k a b (subst (λ i. Owns p i a) e og) ok l (subst (λ i. place_in (section_of p i) a + rows_of_group p i ≡ place_in (section_of p k) a + rows_of_group p k) (sym e) refl))
      (λ (ne : g ≡ k → ⊥).
      ⊎_elim
      (λ (m : g < k). omega (arith, within_group p g a og, start_up p (g + 1) k (omega arith)))
      (λ (m : k ≤ g). absurd (turned g k a b ne m og ok l))
      (cases_lt g k))
      (cases_eq g k);
  inside = λ g key o. omega (arith, within_group p g key o, start_up p (g + 1) (length p.masks) (omega (arith, o.0)));
  begins = λ g o. begins p r g o;
  follows = λ g k key og ok. follows p r g k key og ok;
  ends = λ g key o none. ends p r g key o none;
}
  where
    turned : (g k a b : ℕ) → (g ≡ k → ⊥) → k ≤ g → Owns p g a → Owns p k b → a < b → ⊥
    turned g k a b ne m og ok l = let less = r.rising k g b a (⊎_elim (λ (s : k < g). s) (λ (s : g ≤ k). absurd (ne (omega arith))) (cases_lt k g)) ok og in omega arith

    apart_within : {x : ℕ} (k a b : ℕ) → Owns p k a → Owns p k b → a < b → x ≡ place_in (section_of p k) a + rows_of_group p k → x ≤ place_in (section_of p k) b
    apart_within k a b oa ob l e =
        let up = steps (rows_of_group p k) (a - first_key p k) (b - first_key p k) (omega (arith, oa.1, ob.1)) in
        omega (arith, up, e)
