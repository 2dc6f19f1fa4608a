use Rattle.std.proofs.Common.{◌≡◌, ◌<◌, length, None, arith, rules}
use Rattle.helper.specs.declared.entry.Entry.{Entry}
use Rattle.helper.specs.Entries.{lookup}
use Rattle.helper.proofs.Keeping.{found_put, found_below, stays_over}
use Rattle.helper.proofs.cache.CacheHelper.read.Goals as goal

pub returns-in-Some-clause-row_below : goal.returns-in-Some-clause-row_below
returns-in-Some-clause-row_below g c agrees =
    let cache = c.args.self.now in
    found_below (g.H.Helper.held cache.below) cache.entries c.args.key c.args.index c.in-Some.row agrees c.in-Some.ensures

pub returns-clause-after : goal.returns-clause-after
returns-clause-after g c = stays_over g.H.Helper.held g.H.Helper.faithful _ _ _ _ c.read.ensures.after (λ agrees same. search rules)

pub returns-clause-last : goal.returns-clause-last
returns-clause-last g c =
    let cache = c.args.self.now in
    let x : Entry = record { key = c.args.key; index = c.args.index; row = c.in_ok-row.row } in
    let i = cache.next in
    let none : lookup cache.entries c.args.key c.args.index ≡ None = search rules in
    let full : length cache.entries ≡ 16 = search rules in
    let inside : i < length cache.entries = omega (arith, cache.inside) in
    found_put cache.entries i x none inside
