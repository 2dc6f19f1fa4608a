use Rattle.std.proofs.Common.{rules, ◌≡◌, ◌+◌, ◌∙◌, Some, ap, map}
use Rattle.std.specs.Prelude.{string_bytes}
use Rattle.std.specs.List.{remove}
use Rattle.vector_files.specs.Folders.{place_of, after_run}
use Rattle.vector_files.specs.Standing.{Standing}
use Rattle.vector_files.proofs.Listing.{remove-map}
use Rattle.vector_files.proofs.Taking.{taken_run, run_of}
use Rattle.vector_files.proofs.folder.Folder.run.Goals as goal

pub returns-clause-ok : goal.returns-clause-ok
returns-clause-ok g c =
    let S = g.S.Suite in
    let old = c.args.self.now in
    let place = c.in-Some.place in
    let found : place_of old.left c.args.name.now ≡ Some place = search rules in
    let counted = c.in_ok-count.ensures.counted in
    let waits = c.new.ensures.waiting ∙ ap (λ (folder : Standing). folder.waiting) c.self.view_is in
    let left = ap (map string_bytes) c.remove.ensures.items ∙ remove-map string_bytes c.self.inside.left.items place in
    let files : c.in_ok-files.files ≡ c.self.inside.files + 1 = search rules in
    let taken = taken_run old _ place c.in_ok-files.files _ c.in_ok-total.total c.self.view_is left files in
    rw found (run_of S.answers S.line_answers S.values S.cases _ c.args.suite _ counted.0 _ c.in_ok-count.count (string_bytes c.in_ok-text.text) _ old _ place
    waits c.new.ensures.suite c.new.ensures.count c.as_str.ensures.value c.in_ok-count.ensures.sound c.in_ok-count.ensures.known counted.1 (taken ∙ ap (after_run old place) c.in_ok-total.ensures))
