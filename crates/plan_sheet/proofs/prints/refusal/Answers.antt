use Rattle.std.proofs.Common.{string_bytes, refl}
use Rattle.plan_sheet.specs.Prints.{refused}
use Rattle.plan_sheet.proofs.Pushes.{made}
use Rattle.plan_sheet.proofs.prints.refusal.Goals as goal

pub returns : goal.returns
unfolding refused
returns c = made string_bytes c.format.result _ _ c.format.ensures.ok refl
