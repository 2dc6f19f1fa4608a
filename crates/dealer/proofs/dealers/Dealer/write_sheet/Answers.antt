use Rattle.std.proofs.Common.{List, slice_index, ◌≡◌, ℕ, ◌+◌, ◌-◌, ◌*◌, ◌++◌, map, length, ap, ◌∙◌, arith, rules}
use borrow.Rule.Slice.PartMut.{put_mid}
use Rattle.std.proofs.lemmas.Slice.{take-put_mid}
use Rattle.rows.specs.Bytes.{rows}
use Rattle.rows.specs.declared.origin.Origin.{Origin}
use Rattle.sizes.specs.Sizes.{levels, bits}
use Rattle.plan.specs.Members.{members}
use Rattle.lms.specs.Grown.{tall, grown_path}
use Rattle.lms.specs.Scheme.{components, positions, prefix, path_row, all_components}
use Rattle.lms.proofs.Joints.{put_behind}
use Rattle.splitting.specs.Sources.{source_of}
use Rattle.dealer.specs.Dealt.{identifier_of, seed_of}
use Rattle.dealer.proofs.Laying.{four_parts, done}
use Rattle.dealer.proofs.dealers.Dealer.write_sheet.Goals as goal

pub returns : goal.returns
returns g c =
    let d = c.args.self.now in
    let key = c.args.key in
    let out = c.args.out.now in
    let H = g.H.Hash.hashed in
    let sources = map g.P.Pads.source c.args.sources.now in
    let ts = members c.args.group.now.mask in
    let h = levels d.plan.height in
    let w = bits d.plan.width in
    let a : ℕ = 32 + 32 * c.size.result in
    let b : ℕ = a + 32 * c.levels.result in
    let C = c.prefix-prefix.result in
    let y = c.write_checks.new.out in
    let z = c.write_path.new.out in
    let x = c.write_components.new.out in
    let o₁ = c.put.new.out in
    let o₂ = put_mid 32 (a - 32) o₁ y in
    let o₃ = put_mid a (b - a) o₂ z in
    let o₄ = put_mid b (length o₃ - b) o₃ x in
    let lC : length C ≡ 32 = search rules in
    let l₁ : length o₁ ≡ length out = search rules in
    let ly : length y ≡ a - 32 = search rules in
    let l₂ : length o₂ ≡ length out = search rules in
    let lz : length z ≡ b - a = search rules in
    let l₃ : length o₃ ≡ length out = search rules in
    let l₄ : length o₄ ≡ length out = search rules in
    let lev : c.levels.result ≡ h = c.levels.ensures ∙ c.height-height.ensures in
    let whole : length out ≡ b + 32 * (components w * positions w) = c.requires.room ∙ omega (arith, lev, c.size.ensures.value) in
    let path : z ≡ rows (tall d.tree) (grown_path H d.tree key) = done c.write_path.result _ _ _ c.unwrap.ensures c.write_path.ensures.written in
    let rest : x ≡ all_components H c.origin-origin.result.id.bytes c.origin-origin.result.seed.bytes (bits c.width-width.result) key = done c.write_components.result _ _ _ c.unwrap-2.ensures c.write_components.ensures.written in
    let own : C ≡ prefix H (identifier_of d) (seed_of d) key = c.prefix-prefix.ensures ∙ ap (λ (o : Origin). prefix H o.id.bytes o.seed.bytes key) c.origin-origin.ensures in
    four_parts 32 a b (length out) o₁ o₂ o₃ o₄ C y z x l₄
    (put_behind out o₁ C 0 32 c.put.ensures.inside (omega (arith, whole)) (omega (arith, lC)))
    (take-put_mid 32 (a - 32) o₁ y a (omega (arith, l₁, whole)) (omega arith))
    (take-put_mid a (b - a) o₂ z b (omega (arith, l₂, whole)) (omega arith))
    (take-put_mid b (length o₃ - b) o₃ x (length out) (omega (arith, l₃, whole)) (omega (arith, l₃, whole)))
    ∙ (λ i. own i ++ (c.write_checks.ensures ∙ ap (λ (p : List ℕ). rows (length ts) (λ n. (source_of sources (slice_index ts n)).check key p)) own) i ++ (path ∙ (λ j. rows (levels (d.tall j)) (path_row H (identifier_of d) (seed_of d) (levels (d.tall j)) (bits (d.wide j)) key))) i
    ++ (rest ∙ (λ j. all_components H (c.origin-origin.ensures j).id.bytes (c.origin-origin.ensures j).seed.bytes (c.width-width.ensures j) key)) i)
