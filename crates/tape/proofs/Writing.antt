-- The line of a key, column by column.
use Rattle.std.proofs.Common.{◌≡◌, ℕ, Bool, zero, suc, ◌+◌, ◌-◌, ◌/◌, ◌%◌, ◌<◌, true, cond, ltb, List, [], ◌∷◌, ◌++◌, length, decimal, get_or, subst, zero-add, sym, refl, ap, ◌∙◌, arith, rules}
use Rattle.std.specs.List.{range_with_len, list_all}
use Rattle.std.specs.Str.{bytes_eq}
use Rattle.std.proofs.lemmas.List.FromFn.{get_or-range_with_len, length-range_with_len}
use Rattle.std.proofs.lemmas.List.Sums.{AllPass-from_list_all}
use Rattle.std.proofs.lemmas.Fmt.{AppendsLastDigit, decimal_from_appends, length-decimal-le}
use Rattle.std.proofs.lemmas.Slice.Eq.{bytes_eq-Decides}
use Rattle.columns.specs.Number.{spaces}
use Rattle.tape.specs.Lines.{line_of, column_of}

-- a number in decimal, as computed here
abbrev spelt : ℕ → ℕ → List ℕ
spelt zero n = []
spelt (suc k) n = cond (ltb n 10) ((48 + n) ∷ []) (spelt k (n / 10) ++ ((48 + n % 10) ∷ []))

spells : AppendsLastDigit spelt
spells = search rules

abbrev pub columns_of : ℕ → List ℕ
columns_of key = 32 ∷ column_of key 1000 ∷ column_of key 100 ∷ column_of key 10 ∷ (key % 10 + 48) ∷ 10 ∷ []

abbrev computed : ℕ → List ℕ
computed key = (spaces (5 - length (spelt 5 key)) ++ spelt 5 key) ++ 10 ∷ []

-- tested over all keys
all_columns : list_all (λ key. bytes_eq (computed key) (columns_of key)) (range_with_len 0 1024) ≡ true
all_columns = refl

pub line_is : (key : ℕ) → key < 1024 → line_of key ≡ columns_of key
line_is key small =
    let test : ℕ → Bool = λ k. bytes_eq (computed k) (columns_of k) in
    let text : decimal key ≡ spelt 5 key = sym (decimal_from_appends spelt spells 5 key (omega arith) (length-decimal-le 5 key (omega arith) (omega arith) (omega arith))) in
    let is : get_or (range_with_len 0 1024) key 0 ≡ key = get_or-range_with_len 0 1024 key 0 small ∙ zero-add key in
    let tested : test key ≡ true = subst (λ k. test k ≡ true) is (AllPass-from_list_all test (range_with_len 0 1024) all_columns key 0 (omega (small, length-range_with_len 0 1024, arith))) in
    ap (λ ds. (spaces (5 - length ds) ++ ds) ++ 10 ∷ []) text ∙ (bytes_eq-Decides (computed key) (columns_of key)).0 tested
