-- What each element of a list is read as may be read before a test or after.
use Rattle.std.proofs.Common.{◌≡◌, ℕ, suc, ◌+◌, List, [], ◌∷◌, ◌++◌, map, take, drop, length, Bool, true, false, not, cond, ◌||◌, Option, Some, None, ap, sym, ◌∙◌, refl}
use Rattle.std.specs.List.{find, list_any, position, prefix_len, remove, take-map, drop-map}
use Rattle.std.proofs.lemmas.List.{map-append, length-map}
use Rattle.std.specs.Option.{option_map}

module _ {A B : Type 0} (test : B → Bool) (f : A → B) where
  pub list_any-map : (xs : List A) → list_any (λ x. test (f x)) xs ≡ list_any test (map f xs)
  list_any-map [] = refl
  list_any-map (x ∷ xs) = ap (λ more. test (f x) || more) (list_any-map xs)

  find-cons : (b : Bool) (x : A) (found : Option A) (mapped : Option B) → option_map f found ≡ mapped → option_map f (cond b (Some x) found) ≡ cond b (Some (f x)) mapped
  find-cons true x found mapped same = refl
  find-cons false x found mapped same = same

  pub find-map : (xs : List A) → option_map f (find (λ x. test (f x)) xs) ≡ find test (map f xs)
  find-map [] = refl
  find-map (x ∷ xs) = find-cons (test (f x)) x _ _ (find-map xs)

  prefix_len-map : (p : B → Bool) (xs : List A) → prefix_len (λ x. p (f x)) xs ≡ prefix_len p (map f xs)
  prefix_len-map p [] = refl
  prefix_len-map p (x ∷ xs) = ap (λ n. cond (p (f x)) (1 + n) 0) (prefix_len-map p xs)

  pub position-map : (xs : List A) → position (λ x. test (f x)) xs ≡ position test (map f xs)
  position-map xs = rw (prefix_len-map (λ x. not (test x)) xs, length-map xs f) refl

module _ {A B : Type 0} (f : A → B) where
  pub remove-map : (xs : List A) (i : ℕ) → map f (remove xs i) ≡ remove (map f xs) i
  remove-map xs i = map-append f (take i xs) (drop (suc i) xs) ∙ rw (take-map f i xs, drop-map f (suc i) xs) refl
