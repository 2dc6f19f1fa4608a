-- Entries that are looked up, and one that is put among them.
use Rattle.std.proofs.Common.{◌≡◌, ℕ, zero, suc, ◌<◌, true, false, eqb, List, [], ◌∷◌, length, set, Some, None, Option, sym, refl, ap, ◌∙◌, ⊎_elim, arith}
use Rattle.std.proofs.lemmas.Bool.{cases_Bool, and_from, and_parts, eq-eqb, eqb-true, cond-true, cond-false}
use Rattle.std.proofs.lemmas.Option.{none-some}
use Rattle.helper.specs.declared.entry.Entry.{Entry}
use Rattle.helper.specs.Holding.{Holding, Stays}
use Rattle.helper.specs.Entries.{is_of, lookup, found_or, cached, Agrees}

-- an entry that was not there is found where it is put
pub found_put : (es : List (Option Entry)) (i : ℕ) (x : Entry) → lookup es x.key x.index ≡ None → i < length es → lookup (set es i (Some x)) x.key x.index ≡ Some x.row
found_put [] i x none l = absurd (omega arith)
found_put (y ∷ es) zero x none l = cond-true (is_of x.key x.index x) _ _ (and_from _ _ (eq-eqb x.key x.key refl) (eq-eqb x.index x.index refl))
found_put (None ∷ es) (suc i) x none l = found_put es i x none (omega arith)
found_put (Some y ∷ es) (suc i) x none l =
    let t = is_of x.key x.index y in
    let rest = lookup es x.key x.index in
    ⊎_elim
    (λ (e : t ≡ true). absurd (none-some y.row (sym none ∙ cond-true t (Some y.row) rest e)))
    (λ (e : t ≡ false). cond-false t _ _ e ∙ found_put es i x (sym (cond-false t (Some y.row) rest e) ∙ none) (omega arith))
    (cases_Bool t)

module _ (h : Holding) where
  -- what is found among entries that agree is the row below
  pub found_below : (es : List (Option Entry)) (key index : ℕ) (row : List ℕ) → Agrees es h → Some row ≡ lookup es key index → row ≡ h.row key index
  found_below [] key index row a e = absurd (none-some row (sym e))
  found_below (None ∷ es) key index row a e = found_below es key index row (λ n. a (suc n)) e
  found_below (Some x ∷ es) key index row a e =
      let t = is_of key index x in
      let rest = lookup es key index in
      ⊎_elim
      (λ (y : t ≡ true).
      let both = and_parts (eqb x.key key) (eqb x.index index) y in
      let here : Some row ≡ Some x.row = e ∙ cond-true t (Some x.row) rest y in
      let same : row ≡ x.row = cc in
      same ∙ a 0 x refl ∙ ap (λ k. h.row k x.index) (eqb-true x.key key both.0) ∙ ap (λ n. h.row key n) (eqb-true x.index index both.1))
      (λ (n : t ≡ false). found_below es key index row (λ n. a (suc n)) (e ∙ cond-false t (Some x.row) rest n))
      (cases_Bool t)

  found_same : (o : Option (List ℕ)) (below : List ℕ) → ((row : List ℕ) → Some row ≡ o → row ≡ below) → found_or o below ≡ below
  found_same None below f = refl
  found_same (Some row) below f = f row refl

  -- so entries that agree alter nothing
  pub cached_same : (es : List (Option Entry)) → Agrees es h → cached es h ≡ h
  cached_same es a = λ j. record {
    number = h.number;
    row = λ key index. found_same (lookup es key index) (h.row key index) (λ row. found_below es key index row a) j;
  }

-- a cache stays if what is below does, and its entries agree again
module _ {H : Type 0} (held : H → Holding) (Faithful : H → Type 0) where
  pub stays_over : (es fs : List (Option Entry)) (a b : H) → Stays held Faithful a b → (Agrees es (held a) → held b ≡ held a → Agrees fs (held b)) →
      Faithful a × Agrees es (held a) → (cached fs (held b) ≡ cached es (held a)) × (Faithful b × Agrees fs (held b))
  stays_over es fs a b below kept f =
      let stays = below f.0 in
      let agrees = kept f.1 stays.0 in
      (cached_same (held b) fs agrees ∙ stays.0 ∙ sym (cached_same (held a) es f.1), (stays.1, agrees))
