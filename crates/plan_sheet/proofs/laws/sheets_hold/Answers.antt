use Rattle.plan_sheet.proofs.Soundness.{sound}
use Rattle.plan_sheet.proofs.Completeness.{complete}
use Rattle.plan_sheet.proofs.GroupRules.{group_lines}
use Rattle.plan_sheet.proofs.Ranks.{in_place}
use Rattle.plan_sheet.proofs.laws.sheets_hold.Goals as goal

pub returns : goal.returns
returns c = record { sheets = (sound, complete); members = group_lines; order = in_place }
