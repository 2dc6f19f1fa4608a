use Rattle.std.proofs.Common.{rules, ◌∙◌, Bor, List, ℕ, nat_eq}
use Rattle.std.specs.List.{starts_with}
use Rattle.std.proofs.lemmas.Iterator.{YieldsList-from_slice}
use Rattle.std.proofs.lemmas.Str.Pattern.{starts_text}
use Rattle.std.proofs.lemmas.Iterator.Search.{any_from_yields_List}
use Rattle.vector_files.proofs.Listing.{list_any-map}
use Rattle.vector_files.proofs.names.begins.Goals as goal

pub returns : goal.returns
returns c =
    let words = c.args.words.now in
    let name = c.args.name.now in
    any_from_yields_List (λ word. starts_with nat_eq name word.now) _ _ c.any.result c.any.ensures.ran (YieldsList-from_slice words c.iter.ensures.rest) (λ x b q called. search (rules, starts_text))
    ∙ list_any-map (λ word. starts_with nat_eq name word) (λ (text : Bor (List ℕ)). text.now) words
