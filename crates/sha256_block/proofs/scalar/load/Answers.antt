use Rattle.std.proofs.Common.{◌/◌, [], length, get_or, ap, ◌∙◌, arith}
use Rattle.sha256_block.specs.Fips180.{word}
use Rattle.sha256_block.proofs.Loads.{word_at}
use Rattle.sha256_block.proofs.scalar.load.Goals as goal

pub returns : goal.returns
returns c =
    let lb = c.told-block in
    let b = c.args.block.now in
    let t = c.args.t in
    c.from_be_bytes.ensures ∙ ap (λ u. word (get_or u t []) 0) c.as_chunks.ensures.front ∙ word_at b (length b / 4) t (omega arith)
