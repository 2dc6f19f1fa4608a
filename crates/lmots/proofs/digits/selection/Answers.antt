use Rattle.std.proofs.Common.{◌≡◌, ℕ, ◌<◌, get_or, ap, ◌∙◌, inl, inr, arith, rules}
use Rattle.std.proofs.lemmas.List.{get_or_past}
use Rattle.std.proofs.lemmas.Bool.{cases_lt}
use Rattle.std.proofs.lemmas.Nat.{pow_pos}
use Rattle.arrays.proofs.Made.{made}
use Rattle.sizes.specs.Sizes.{bits}
use Rattle.lmots.specs.LmOts.{coef, digit}
use Rattle.lmots.proofs.Chains.{digit_below}
use Rattle.lmots.proofs.digits.selection.Goals as goal

pub returns : goal.returns
unfolding digit
returns c =
    let w = bits c.args.width in
    let D = c.args.digest.now in
    let s = c.with_checksum-digits.result in
    let xs = c.from_fn.result in
    let value : (i : ℕ) → i < 265 → get_or xs i 0 ≡ digit w D i =
    λ i h. made _ 265 (λ k v. v ≡ coef w s k) _ (λ k r q b called. search rules) xs c.from_fn.ensures.items i 0 h
    ∙ ap (λ t. coef w t i) c.with_checksum-digits.ensures in
    let z = pow_pos w in
    record {
      value = value;
      inside = λ i. elim (cases_lt i 265) [
        | inl l ↦ let b = digit_below w D i in omega (arith, value i l)
        | inr l ↦ omega (arith, get_or_past xs i 0)
      ];
    }
