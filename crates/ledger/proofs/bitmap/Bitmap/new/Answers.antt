use Rattle.std.proofs.Common.{refl}
use Rattle.sizes.specs.Sizes.{levels}
use Rattle.ledger.proofs.Setting.{unmarked}
use Rattle.ledger.proofs.bitmap.Bitmap.new.Goals as goal

pub returns : goal.returns
returns c = record { fresh = unmarked 128 (levels c.args.height); height = refl }
