-- What an option becomes.
use Rattle.std.proofs.Common.{◌≡◌, Option, Some, None, Result, IsSome, MatchOption, MatchResult, refl}
use Rattle.std.specs.Option.{ok_or}

-- `ok_or`, by what is known of the option
pub ok_or_is : {A E : Type 0} (o : Option A) (e : E) (r : Result A E) (P : A → Type 0) (Q : E → Type 0) → r ≡ ok_or o e → (o ≡ None → Q e) → ((x : A) → o ≡ Some x → P x) → MatchResult r P Q
ok_or_is None e r P Q is none some = rw is (none refl)
ok_or_is (Some x) e r P Q is none some = rw is (some x refl)

-- there is a value, if there is none only against V
pub is_there : {A : Type 0} (o : Option A) (V : Type 0) (Q : A → Type 0) → MatchOption o (V → ⊥) Q → V → IsSome o
is_there None V Q h v = absurd (h v)
is_there (Some x) V Q h v = refl
