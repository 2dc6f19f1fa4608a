use Rattle.std.proofs.Common.{rules, String, Global, ◌≡◌, ◌∙◌, ap, sym, refl, not, List, ℕ, Option, Some, None, Bor}
use Rattle.std.specs.Prelude.{string_bytes}
use Rattle.std.specs.List.{find}
use Rattle.std.specs.Option.{option_map}
use Rattle.std.proofs.lemmas.Iterator.{YieldsList-from_slice}
use Rattle.std.proofs.lemmas.Iterator.Search.{find_from_yields_List}
use Rattle.vector_files.specs.Names.{begins, texts}
use Rattle.vector_files.specs.Standing.{Standing}
use Rattle.vector_files.proofs.Listing.{find-map}
use Rattle.vector_files.proofs.folder.Folder.unknown.Goals as goal

pub returns : goal.returns
returns c =
    let files = c.self.inside.left.items in
    let test = λ (name : List ℕ). not (begins (texts c.args.elsewhere.now) name) in
    let found = find_from_yields_List (λ file. test (string_bytes file)) _ _ c.find.result c.find.ensures.ran (YieldsList-from_slice files (search rules)) (λ x b q called. search rules) in
    let read : option_map (λ (name : Bor (List ℕ)). name.now) c.map.result ≡ option_map string_bytes (option_map (λ (file : Bor (String Global)). file.now) c.find.result) = search rules in
    read ∙ ap (option_map string_bytes) found ∙ find-map test string_bytes files ∙ ap (λ (folder : Standing). find test folder.left) c.self.view_is
