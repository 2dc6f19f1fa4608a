use Rattle.std.proofs.Common.{◌≡◌, ◌≤◌, ◌∷◌, ◌++◌, length, drop, Some, ap, sym, ◌∙◌, rules}
use Rattle.std.specs.Option.{option_map, option_and_then}
use Rattle.std.proofs.lemmas.List.{append-nil, take_rest}
use Rattle.vector_files.specs.Hex.{decoded}
use Rattle.vector_files.proofs.Decoding.{decoded_pair, decoded_none, decoded_one, joined}
use Rattle.vector_files.proofs.hex.decode.Goals as goal

pub returns-in_default-pair : goal.returns-in_default-pair
returns-in_default-pair c =
    let left = c.loop-left.left.now in
    let long : 2 ≤ length left = search rules in
    sym (c.loop-left.invariant ∙ ap (option_map (λ more. c.loop-left.bytes.items ++ more)) (decoded_pair left long ∙ ap (option_and_then (λ b. option_map (λ bs. b ∷ bs) (decoded (drop 2 left)))) (sym c.pair.ensures ∙ c.in_default-pair.is)))

pub loop-left-preserved : goal.loop-left-preserved
loop-left-preserved c =
    let left = c.loop-left.left.now in
    let long : 2 ≤ length left = search rules in
    let bytes = c.loop-left.bytes.items in
    rw (c.in_ok-push.ensures.items, take_rest left 2)
    (c.loop-left.invariant ∙ ap (option_map (λ more. bytes ++ more)) (decoded_pair left long ∙ ap (option_and_then (λ b. option_map (λ bs. b ∷ bs) (decoded (drop 2 left)))) (sym c.pair.ensures ∙ c.in-Some.is))
    ∙ joined bytes c.in-Some.byte (decoded (drop 2 left)))

pub returns-then-is_empty : goal.returns-then-is_empty
returns-then-is_empty c =
    let none : length c.loop-left.left.now ≡ 0 = search rules in
    sym (c.loop-left.invariant ∙ ap (option_map (λ more. c.loop-left.bytes.items ++ more)) (decoded_none _ none) ∙ ap Some (append-nil _))

pub returns-else-is_empty : goal.returns-else-is_empty
returns-else-is_empty c =
    sym (c.loop-left.invariant ∙ ap (option_map (λ more. c.loop-left.bytes.items ++ more)) (decoded_one _ (search rules) (search rules)))
