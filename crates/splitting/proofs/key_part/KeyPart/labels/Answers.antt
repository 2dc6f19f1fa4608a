use Rattle.std.proofs.Common.{◌≡◌, ◌+◌, rules}
use Rattle.pads.specs.Source.{nothing}
use Rattle.splitting.specs.KeyParts.{label_in}
use Rattle.arrays.proofs.Made.{made}
use Rattle.splitting.proofs.key_part.KeyPart.labels.Goals as goal

pub returns : goal.returns
returns c = λ l small.
    let part = c.args.self.now in
    made _ 8 (λ n x. x ≡ label_in part (c.args.first + n)) _ (λ n r q m called. search rules) c.from_fn.result c.from_fn.ensures.items l nothing small
