use Rattle.std.proofs.Common.{◌<◌, sym, rules}
use Rattle.plan.proofs.Seats.{no_seat, seat_is, seats}
use Rattle.plan.proofs.group.Group.position.Goals as goal

pub returns-then-not-has : goal.returns-then-not-has
returns-then-not-has c =
    let mask = c.args.self.now.mask in
    let small : mask < 256 = search rules in
    record { value = sym (no_seat mask c.args.trustee small (sym c.if-not-has.ensures)); seats = seats mask small }

pub returns : goal.returns
returns c =
    let mask = c.args.self.now.mask in
    let small : mask < 256 = search rules in
    record { value = sym (seat_is mask c.args.trustee small (sym c.if-not-has.ensures)); seats = seats mask small }
