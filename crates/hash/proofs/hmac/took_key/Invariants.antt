use Rattle.std.proofs.Common.{◌≡◌, ◌*◌}
use Rattle.hash.proofs.Masks.{begun}
use Rattle.hash.proofs.hmac.took_key.Given as goal

abbrev pub invariant-loop : goal.invariant-loop
invariant-loop g l = g.H.Hash.state l.hash ≡ g.H.Hash.fed g.H.Hash.first (begun l.fn.mask l.fn.key (32 * l.counter))
