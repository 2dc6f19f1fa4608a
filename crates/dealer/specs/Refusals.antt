-- Each refusal's public number, and what is handed on from splitting and from the tree.
use Rattle.std.specs.Prelude.{ℕ}
use Rattle.splitting.specs.declared.refusal.Refusal as splitting
use Rattle.splitting.specs.declared.refusal.Refusal.TheVariants as split
use Rattle.lms.specs.declared.refusal.Refusal as lms
use Rattle.lms.specs.declared.refusal.Refusal.TheVariants as tree
use Rattle.dealer.specs.declared.refusal.Refusal.{Refusal}
use Rattle.dealer.specs.declared.refusal.Refusal.TheVariants.{Sources, SameChecks, Undealt, Buffer, NotHeld, Message}

abbrev pub number_of : Refusal → ℕ
number_of Sources = 8
number_of SameChecks = 6
number_of Undealt = 9
number_of Buffer = 20
number_of NotHeld = 7
number_of Message = 12

abbrev pub handed_on : splitting.Refusal → Refusal
handed_on split.Sources = Sources
handed_on split.SameChecks = SameChecks
handed_on split.Undealt = Undealt
handed_on split.Buffer = Buffer
handed_on split.NotHeld = NotHeld

abbrev pub of_tree : lms.Refusal → Refusal
of_tree tree.Key = Undealt
of_tree tree.Buffer = Buffer
of_tree tree.Message = Message
