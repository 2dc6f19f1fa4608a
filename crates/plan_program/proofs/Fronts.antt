-- What the front of the input tells of the whole.
use Rattle.std.proofs.Common.{◌≡◌, ℕ, ◌<◌, ◌≤◌, cond, ◌⊎◌, List, ◌∷◌, ◌++◌, length, take, take_all, Some, None, Option, IfSome, is_none, inl, inr, sym, ap, ◌∙◌, subst, ⊎_elim, append-nil, arith}
use Rattle.std.specs.Io.KnownBytes.{Consumes, IsAtEnd}
use Rattle.std.proofs.lemmas.List.{take_at, length-take-le}
use Rattle.std.proofs.lemmas.Bool.{cases_lt, lt-leb}
use Rattle.checks.specs.Checks.{first_refusal}
use Rattle.plan_sheet.specs.declared.refusal.Refusal.{Refusal}
use Rattle.plan_sheet.specs.declared.refusal.Refusal.TheVariants.{Layout}
use Rattle.plan_sheet.specs.Checks.{checks}
use Rattle.plan_sheet.specs.Prints.{input_checks, answer_to, answer}
use Rattle.plan_program.specs.declared.outcome.Outcome.{Outcome}
use Rattle.plan_program.specs.declared.outcome.Outcome.TheVariants.{Done, Refused}
use Rattle.plan_program.specs.Outcomes.{outcome_of}
use Rattle.plan_program.specs.Parts.{ConsumesFront}

-- bytes that were read up to 4,097, or to the end, are the first 4,097 of the input
pub front_read : (a b : Option (List ℕ)) (bs : List ℕ) → Consumes a b bs → length bs ≤ 4097 → (length bs < 4097 → IsAtEnd b) → IfSome a (λ bytes. bs ≡ take 4097 bytes)
front_read None b bs c few end = tt
front_read (Some xs) None bs c few end = absurd c
front_read (Some xs) (Some ys) bs c few end =
    ⊎_elim
    (λ (l : length bs < 4097). let all : xs ≡ bs = c ∙ ap (λ zs. bs ++ zs) (end l) ∙ append-nil bs in sym (take_all 4097 bs few) ∙ ap (take 4097) (sym all))
    (λ (l : 4097 ≤ length bs). sym (take_at bs ys 4097 (omega arith)) ∙ ap (take 4097) (sym c))
    (cases_lt (length bs) 4097)

-- more than 4,096 bytes are refused, whatever they are
refused_long : (bytes : List ℕ) → 4096 < length bytes → first_refusal (input_checks bytes) ≡ Some Layout
refused_long bytes l = ap (λ b. first_refusal ((b, Layout) ∷ checks bytes)) (lt-leb (length bytes) 4096 l)

-- the first 4,097 bytes are answered as all are
same_refusal : (bytes : List ℕ) → (take 4097 bytes ≡ bytes) ⊎ ((first_refusal (input_checks (take 4097 bytes)) ≡ Some Layout) × (first_refusal (input_checks bytes) ≡ Some Layout))
same_refusal bytes =
    ⊎_elim
    (λ (l : 4097 < length bytes). inr (refused_long (take 4097 bytes) (omega (arith, length-take-le 4097 bytes (omega arith))), refused_long bytes (omega arith)))
    (λ (l : length bytes ≤ 4097). inl (take_all 4097 bytes l))
    (cases_lt 4097 (length bytes))

pub same_answer : (bytes : List ℕ) → answer (take 4097 bytes) ≡ answer bytes
same_answer bytes =
    ⊎_elim
    (λ (e : take 4097 bytes ≡ bytes). ap answer e)
    (λ (r : (first_refusal (input_checks (take 4097 bytes)) ≡ Some Layout) × (first_refusal (input_checks bytes) ≡ Some Layout)).
    ap (λ o. answer_to o (take 4097 bytes)) r.0 ∙ sym (ap (λ o. answer_to o bytes) r.1))
    (same_refusal bytes)

pub same_outcome : (bytes : List ℕ) → outcome_of (take 4097 bytes) ≡ outcome_of bytes
same_outcome bytes =
    ⊎_elim
    (λ (e : take 4097 bytes ≡ bytes). ap outcome_of e)
    (λ (r : (first_refusal (input_checks (take 4097 bytes)) ≡ Some Layout) × (first_refusal (input_checks bytes) ≡ Some Layout)).
    ap told r.0 ∙ sym (ap told r.1))
    (same_refusal bytes)
  where
    told : Option Refusal → Outcome
    told o = cond (is_none o) Done Refused

-- what holds of bytes that were read holds of the input, where it is known
pub of_input : {X : Type 0} (f : List ℕ → X) (P : X → Type 0) (a : Option (List ℕ)) (bs : List ℕ) → ((bytes : List ℕ) → f (take 4097 bytes) ≡ f bytes) → IfSome a (λ bytes. bs ≡ take 4097 bytes) → P (f bs) → IfSome a (λ bytes. P (f bytes))
of_input f P None bs same e p = tt
of_input f P (Some bytes) bs same e p = subst P (ap f e ∙ same bytes) p

pub front_consumed : (a b : Option (List ℕ)) (bs : List ℕ) → Consumes a b bs → IfSome a (λ bytes. bs ≡ take 4097 bytes) → ConsumesFront 4097 a b
front_consumed None b bs c e = tt
front_consumed (Some bytes) b bs c e = subst (Consumes (Some bytes) b) e c
