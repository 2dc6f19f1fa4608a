use Rattle.std.proofs.Common.{sym, ap, ◌∙◌, arith}
use Rattle.std.proofs.lemmas.List.{map-id}
use Rattle.sha256_block.specs.Fips180.{compressed}
use Rattle.sha256_block.proofs.scalar.compress.Goals as goal

pub returns : goal.returns
returns c =
    let b = c.args.block.now in
    sym (map-id _) ∙ c.compress.ensures 0 b (omega arith) (λ t h. rw map-id (c.parse.ensures t h)) ∙ ap (λ u. compressed u b) (map-id _)
