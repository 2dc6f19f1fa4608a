use Rattle.std.proofs.Common.{◌≡◌, ◌++◌, length, ap, ◌∙◌, rules}
use Rattle.rows.specs.Bytes.{u32str}
use Rattle.lms.proofs.Joints.{written_head}
use Rattle.lms.proofs.signing.write_head.Goals as goal

pub returns : goal.returns
returns g c =
    let a = c.args in
    let l₁ : length c.put.new.out ≡ length a.out.now = search rules in
    let l₂ : length c.put-2.new.out ≡ length a.out.now = search rules in
    written_head a.out.now c.put.new.out c.put-2.new.out c.put-3.new.out c.to_be_bytes.result c.to_be_bytes-2.result a.prefix.now
    (ap length c.to_be_bytes.ensures) (ap length c.to_be_bytes-2.ensures) c.told-prefix c.requires l₁ l₂ c.put.ensures.inside c.put-2.ensures.inside c.put-3.ensures.inside
    ∙ (λ j. c.to_be_bytes.ensures j ++ (c.to_be_bytes-2.ensures ∙ ap u32str c.ots_code.ensures) j ++ a.prefix.now)
