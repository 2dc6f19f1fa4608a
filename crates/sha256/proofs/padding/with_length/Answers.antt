use Rattle.std.proofs.Common.{◌≡◌, ◌*◌, ◌%◌, ◌^◌, [], ◌++◌, take, drop, length, ap, ◌∙◌, rules, arith}
use Rattle.std.proofs.lemmas.List.{drop_all, drop-drop}
use Rattle.sha256.specs.Fips180.{length64}
use Rattle.sha256.proofs.padding.with_length.Goals as goal

pub returns : goal.returns
returns c =
    let b = c.args.block in
    let l : length c.args.block ≡ 64 = search rules in
    let none : drop 8 (drop 56 c.args.block) ≡ [] = drop-drop 8 56 b ∙ drop_all 64 b (omega arith) in
    ap (λ u. take 56 b ++ (u ++ drop 8 (drop 56 b))) (c.copy_from_slice.ensures.after ∙ c.to_be_bytes.ensures)
    ∙ ap (λ u. take 56 b ++ (length64 (c.args.count * 8 % 2 ^ 64) ++ u)) none
