use Rattle.std.proofs.Common.{◌/◌, get_or, set, ap, sym, rules}
use lib.Bits.{bit_or}
use Rattle.sizes.specs.Sizes.{levels}
use Rattle.sizes.proofs.Heights.{levels_most}
use Rattle.ledger.proofs.Setting.{spends, shifted, accepted}
use Rattle.ledger.proofs.bitmap.BitmapLedger.spend.Goals as goal

pub returns : goal.returns
returns c =
    let b = c.args.self.now in
    let at = c.args.key / 8 in
    record {
      answer = sym (accepted b.marks (levels b.height) c.args.key c.if-spent.ensures (levels_most b.height));
      spends = spends b.marks (levels b.height) c.args.key c.if-spent.ensures (levels_most b.height) (search rules);
      value = ap (λ z. record b { marks = set b.marks at (bit_or (get_or b.marks at 0) z) }) (shifted c.args.key);
    }
