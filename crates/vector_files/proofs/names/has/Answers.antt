use Rattle.std.proofs.Common.{rules, ◌∙◌, Bor, List, ℕ}
use Rattle.std.specs.Str.{bytes_eq}
use Rattle.std.proofs.lemmas.Iterator.{YieldsList-from_slice}
use Rattle.std.proofs.lemmas.Iterator.Search.{any_from_yields_List}
use Rattle.vector_files.proofs.Listing.{list_any-map}
use Rattle.vector_files.proofs.names.has.Goals as goal

pub returns : goal.returns
returns c =
    let list = c.args.list.now in
    let name = c.args.name.now in
    any_from_yields_List (λ listed. bytes_eq listed.now name) _ _ c.any.result c.any.ensures.ran (YieldsList-from_slice list c.iter.ensures.rest) (λ x b q called. search rules)
    ∙ list_any-map (λ listed. bytes_eq listed name) (λ (text : Bor (List ℕ)). text.now) list
