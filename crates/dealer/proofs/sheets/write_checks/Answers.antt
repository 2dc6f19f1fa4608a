use Rattle.std.proofs.Common.{◌≡◌, ◌≢◌, ℕ, ◌+◌, ◌*◌, ◌<◌, ◌≤◌, List, [], ◌∷◌, map, length, get_or, sym, ap, ◌∙◌, ⊎_elim, arith, length-append}
use Rattle.std.proofs.lemmas.Bool.{cases_lt}
use Rattle.std.proofs.lemmas.List.{get_or_default}
use Rattle.std.proofs.lemmas.List.FromFn.{get_or-enumerate_from, length-enumerate_from}
use Rattle.std.proofs.lemmas.Iterator.Consumers.{YieldsList-from_first, YieldsList-from_enumerate, YieldsList-turn, YieldsList-end}
use Rattle.plan.specs.Members.{members}
use Rattle.rows.specs.Bytes.{row_at}
use Rattle.rows.proofs.Rows.{rows_whole}
use Rattle.splitting.specs.Sources.{source_of}
use Rattle.dealer.proofs.sheets.write_checks.Goals as goal

pub loop-i-preserved : goal.loop-i-preserved
loop-i-preserved g c =
    let ts = members c.args.group.now.mask in
    let row : ℕ → List ℕ = λ t. (source_of (map g.P.Pads.source c.args.sources.now) t).check c.args.key c.args.prefix.now in
    let xs = c.loop-i.yielded in
    let i = c.in-Some.i in
    let t = c.in-Some.trustee in
    let new = c.put_row.new.out in
    let road = YieldsList-from_enumerate {s = c.into_iter-i-iterator.result} (YieldsList-from_first (λ t. t) (λ rest. rest) ts (cc)) (cc) in
    let turn = YieldsList-turn road xs c.loop-i.i-iterator c.loop-i.yielded_by c.next.result c.next.new.self (i, t) c.in-Some.is c.next.ensures.steps in
    let some : length xs < length ts = omega (arith, turn.0, length-enumerate_from 0 ts) in
    let at = turn.1 ∙ get_or-enumerate_from 0 ts (length xs) (i, t) some in
    let place : i ≡ length xs = ap (λ (p : ℕ × ℕ). p.0) at ∙ omega arith in
    let member : t ≡ get_or ts (length xs) 0 = ap (λ (p : ℕ × ℕ). p.1) at ∙ get_or_default ts (length xs) t 0 some in
    let room : 32 * (i + 1) ≤ length c.loop-i.out = omega (arith, c.loop-i.auto.out, c.requires, place, some) in
    λ k l.
    ⊎_elim
    (λ (e : k < length xs). let other : k ≢ i = omega arith in c.put_row.ensures.old k other ∙ c.loop-i.invariant k e)
    (λ (e : length xs ≤ k).
    let last : k ≡ length xs = omega (arith, l, length-append xs ((i, t) ∷ [])) in
    ap (λ n. row_at n new) (last ∙ sym place) ∙ c.put_row.ensures.new room ∙ c.check_pad-row.ensures ∙ ap row (member ∙ ap (λ n. get_or ts n 0) (sym last)))
    (cases_lt k (length xs))

pub returns : goal.returns
returns g c =
    let ts = members c.args.group.now.mask in
    let row : ℕ → List ℕ = λ k. (source_of (map g.P.Pads.source c.args.sources.now) (get_or ts k 0)).check c.args.key c.args.prefix.now in
    let xs = c.loop-i.yielded in
    let road = YieldsList-from_enumerate {s = c.into_iter-i-iterator.result} (YieldsList-from_first (λ t. t) (λ rest. rest) ts (cc)) (cc) in
    let all = (YieldsList-end road xs c.loop-i.i-iterator c.loop-i.yielded_by c.next.result c.next.new.self c.in-None.is c.next.ensures.steps).1 ∙ length-enumerate_from 0 ts in
    rows_whole c.loop-i.out (length ts) row (c.loop-i.auto.out ∙ c.requires) (λ k l. c.loop-i.invariant k (omega (arith, all)))
