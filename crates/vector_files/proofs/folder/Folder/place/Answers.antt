use Rattle.std.proofs.Common.{rules, ◌≡◌, ◌∙◌, ap, ℕ, List}
use Rattle.std.specs.Prelude.{string_bytes}
use Rattle.std.specs.Str.{bytes_eq}
use Rattle.std.proofs.lemmas.Iterator.{YieldsList-from_slice}
use Rattle.std.proofs.lemmas.Iterator.Search.{position_from_yields_List}
use Rattle.vector_files.specs.Folders.{place_of}
use Rattle.vector_files.specs.Standing.{Standing}
use Rattle.vector_files.proofs.Listing.{position-map}
use Rattle.vector_files.proofs.folder.Folder.place.Goals as goal

pub returns : goal.returns
returns c =
    let files = c.self.inside.left.items in
    let name = c.args.name.now in
    position_from_yields_List (λ file. bytes_eq (string_bytes file) name) _ _ c.position.result c.position.ensures.ran (YieldsList-from_slice files (search rules)) (λ x b q called. search rules)
    ∙ position-map (λ listed. bytes_eq listed name) string_bytes files ∙ ap (λ (folder : Standing). place_of folder.left name) c.self.view_is
