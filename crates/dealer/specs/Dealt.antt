-- What a dealer deals from, and what she refuses.
use Rattle.std.specs.Prelude.{ℕ, Bool, List, [], ◌∷◌, Option, is_some, ◌==◌, nat_le}
use Rattle.std.specs.Option.{option_map}
use Rattle.hash.specs.declared.Hash.{Ghosts}
use Rattle.rows.specs.declared.origin.Origin.{Origin}
use Rattle.plan.specs.Shape.{Shape}
use Rattle.plan.specs.View.{view}
use Rattle.plan.specs.Keys.{owner}
use Rattle.lms.specs.Scheme.{root_size, signature_size, longest}
use Rattle.pads.specs.Source.{Source}
use Rattle.splitting.specs.Split.{refusal}
use Rattle.dealer.specs.declared.dealers.Dealer.{Dealer}
use Rattle.dealer.specs.declared.refusal.Refusal.{Refusal}
use Rattle.dealer.specs.declared.refusal.Refusal.TheVariants.{Undealt, Buffer, Message}
use Rattle.dealer.specs.Refusals.{handed_on}
use Rattle.dealer.specs.Sheet.{Deal}

-- the bytes of an identifier and of a seed
abbrev pub identifier_in : Origin → List ℕ
identifier_in o = o.id.bytes

abbrev pub seed_in : Origin → List ℕ
seed_in o = o.seed.bytes

-- a dealer's plan, and the identifier and the seed of her tree
module _ {H : Type 0} {G : Ghosts H} where
  abbrev pub plan_of : Dealer H G → Shape
  plan_of d = view d.plan

  abbrev pub identifier_of : Dealer H G → List ℕ
  identifier_of d = identifier_in d.tree.origin

  abbrev pub seed_of : Dealer H G → List ℕ
  seed_of d = seed_in d.tree.origin

  -- what she deals from, over a hash and with some pad sources
  abbrev pub deal_of : (List ℕ → List ℕ) → Dealer H G → List Source → Deal
  deal_of hashed d sources = record {
    hashed = hashed;
    plan = plan_of d;
    identifier = identifier_of d;
    seed = seed_of d;
    sources = sources;
  }

-- ---- refusals, each list in the order of its checks
-- of a root, into n bytes
abbrev pub root_checks : ℕ → List (Bool × Refusal)
root_checks n = (n == root_size, Buffer) ∷ []

-- of a signature by a key, of m bytes of message into n bytes
abbrev pub sign_checks : Shape → ℕ → ℕ → ℕ → List (Bool × Refusal)
sign_checks p key m n =
    (is_some (owner p key), Undealt)
    ∷ (n == signature_size p.height p.width, Buffer)
    ∷ (nat_le m longest, Message)
    ∷ []

-- of a key sheet in n bytes: what splitting refuses
abbrev pub sheet_refusal : Shape → List Source → ℕ → ℕ → Option Refusal
sheet_refusal p sources key n = option_map handed_on (refusal p sources key n)
