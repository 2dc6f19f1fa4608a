use Rattle.splitting.proofs.Listed.{of_rows}
use Rattle.splitting.proofs.laws.pads_are_rows.Goals as goal

pub returns : goal.returns
returns g c = of_rows g.P.Pads.source g.met.P.Pads.pads_are_rows g.met.P.Pads.check_pads_are_rows
