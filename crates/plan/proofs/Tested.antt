-- What a test that passes at each number says of one of them.
use Rattle.std.proofs.Common.{◌≡◌, ℕ, ◌+◌, ◌-◌, ◌<◌, ◌≤◌, Bool, true, ◌∙◌, subst, arith}
use Rattle.std.specs.List.{range_with_len, list_all}
use Rattle.std.proofs.lemmas.List.FromFn.{get_or-range_with_len, length-range_with_len}
use Rattle.std.proofs.lemmas.List.Sums.{AllPass-from_list_all}

pub tested_at : (test : ℕ → Bool) (a k : ℕ) → list_all test (range_with_len a k) ≡ true → (n : ℕ) → a ≤ n → n < a + k → test n ≡ true
tested_at test a k h n low high =
    let i = n - a in
    let is : a + i ≡ n = omega arith in
    subst (λ m. test m ≡ true) (get_or-range_with_len a k i 0 (omega arith) ∙ is) (AllPass-from_list_all test (range_with_len a k) h i 0 (omega (arith, length-range_with_len a k)))
