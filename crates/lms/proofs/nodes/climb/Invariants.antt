use Rattle.std.proofs.Common.{◌≡◌, ◌/◌, ◌^◌, [], get_or}
use Rattle.lms.specs.Lms.{climbed}
use Rattle.lms.proofs.nodes.climb.Given as goal

abbrev pub invariant-loop-next : goal.invariant-loop-next
invariant-loop-next g l =
    (l.x ≡ climbed g.H.Hash.hashed l.id.bytes (λ k. get_or l.path k []) l.r l.bottom l.next-index)
    × (l.number ≡ l.r / 2 ^ l.next-index)
