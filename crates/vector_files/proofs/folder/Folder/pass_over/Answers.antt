use Rattle.std.proofs.Common.{rules, ℕ, ◌≡◌, ◌∙◌, Some, ap, map, length}
use Rattle.std.specs.Prelude.{string_bytes}
use Rattle.vector_files.specs.Cases.{plus}
use Rattle.vector_files.specs.Folders.{place_of, after_passing}
use Rattle.vector_files.specs.Texts.{blocks_of}
use Rattle.vector_files.proofs.Listing.{remove-map}
use Rattle.vector_files.proofs.Taking.{taken_passing}
use Rattle.vector_files.proofs.folder.Folder.pass_over.Goals as goal

pub returns-clause-ok : goal.returns-clause-ok
returns-clause-ok c =
    let old = c.args.self.now in
    let place = c.in-Some.place in
    let text = string_bytes c.in_ok-text.text in
    let found : place_of old.left c.args.name.now ≡ Some place = search rules in
    let left = ap (map string_bytes) c.remove.ensures.items ∙ remove-map string_bytes c.self.inside.left.items place in
    let taken = taken_passing old _ place _ c.in_ok-total.total c.self.view_is left in
    let waiting : c.in_ok-waiting.waiting ≡ length (blocks_of text) = search rules in
    let added = c.in_ok-total.ensures ∙ ap (λ (n : ℕ). plus old.count (record { cases = 0; wrong = 0; waiting = n })) waiting in
    rw found (record { text = text; sound = search rules; taken = taken ∙ ap (after_passing old place) added })
