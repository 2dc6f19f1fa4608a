use Rattle.std.proofs.Common.{rules, ◌≡◌, ◌∷◌, ◌++◌, [], true, nat_eq, codes}
use Rattle.std.specs.Prelude.{string_bytes}
use Rattle.std.specs.List.{ends_with}
use Rattle.std.proofs.lemmas.List.{map-append}
use Rattle.std.proofs.lemmas.List.Elements.{All-push}
use Rattle.std.proofs.lemmas.Str.Pattern.{ends_text}
use Rattle.vector_files.specs.Folders.{IsVectorFile}
use Rattle.vector_files.proofs.folder.Folder.open.Goals as goal
use Rattle.vector_files.proofs.folder.Folder.open.Goals.{then-ends_with+in_ok-from_str+in_ok-push, else-ends_with}

pub loop-entry-preserved : goal.loop-entry-preserved
loop-entry-preserved c =
    let name = c.file_name-name.result.now in
    let tested : c.ends_with.result ≡ ends_with nat_eq name (codes ".txt") = ends_text c.ends_with.result (codes ".txt") name c.ends_with.ensures.cases in
    elim c.if-ends_with.branch [
      | then-ends_with+in_ok-from_str+in_ok-push w ↦
          let copied : string_bytes w.in_ok-from_str.field-0 ≡ name = search rules in
          let ends : IsVectorFile name = search rules in
          rw (w.left-is, w.in_ok-push.ensures.items, map-append string_bytes c.loop-entry.left.items (w.in_ok-from_str.field-0 ∷ []), copied) (All-push IsVectorFile _ name c.loop-entry.invariant ends)
      | else-ends_with w ↦ rw w.left-is c.loop-entry.invariant
    ]
