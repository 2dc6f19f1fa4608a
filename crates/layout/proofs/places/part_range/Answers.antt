use Rattle.std.proofs.Common.{◌≡◌, ◌+◌, ◌*◌, sym, ap, ◌∙◌, ap₂, arith}
use Rattle.plan.specs.View.{view}
use Rattle.plan.proofs.Found.{plan_ranges}
use Rattle.layout.specs.Table.{place_in, section_of, rows_of_group, table_rows}
use Rattle.layout.proofs.Lying.{section_found, in_whole}
use Rattle.layout.proofs.places.part_range.Goals as goal

pub returns : goal.returns
returns c =
    let p = view c.args.plan.now in
    let key = c.args.key in
    let n = c.args.length in
    let found = section_found p key c.in-Some.section (c.in-Some.ensures ∙ c.«of».ensures.owners key) in
    let o = found.0 in
    let inside = c.«of».ensures.places.inside o key ((plan_ranges c.args.plan.now).owner_owns o key found.1) in
    let place : c.place-start.result ≡ place_in (section_of p o) key = c.place-start.ensures ∙ ap (λ s. place_in s key) found.2 in
    let rows : c.in-Some.section.rows ≡ rows_of_group p o = ap (λ s. s.rows) found.2 in
    let whole : n ≡ 32 * table_rows p = omega (arith, c.table_rows.ensures.value) in
    let start = sym (in_whole p key n o (λ g. 32 * place_in (section_of p g) key) whole found.1) in
    let size = sym (in_whole p key n o (λ g. 32 * rows_of_group p g) whole found.1) in
    record {
      start = ap (λ x. 32 * x) place ∙ start;
      end = ap₂ (λ x y. 32 * x + 32 * y) place rows ∙ ap₂ (λ x y. x + y) start size;
      inside = (omega arith, omega (arith, inside, place, rows, whole));
    }
