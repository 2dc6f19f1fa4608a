use Rattle.std.proofs.Common.{◌≡◌, ℕ, ◌<◌, List, map, length, get_or, Ok, sym, refl, ap, ◌∙◌, arith}
use Rattle.std.proofs.lemmas.Result.{err_from_is_err_and}
use Rattle.rows.specs.Bytes.{row_at}
use Rattle.rows.proofs.Rows.{rows_whole}
use Rattle.plan.specs.declared.group.Group.{Group}
use Rattle.plan.specs.Members.{members}
use Rattle.plan.specs.View.{view}
use Rattle.layout.specs.Table.{rows_of_group}
use Rattle.layout.proofs.Few.{part_few}
use Rattle.pads.specs.Labelled.{label_at}
use Rattle.splitting.specs.Sources.{padded}
use Rattle.splitting.specs.Split.{members_of}
use Rattle.splitting.proofs.Granted.{granted}
use Rattle.splitting.proofs.Undone.{accepted, splitting}
use Rattle.splitting.proofs.splits.split.Goals as goal

pub returns-in_err-group : goal.returns-in_err-group
returns-in_err-group g c =
    let q = err_from_is_err_and c.from_residual.result c.from_residual.ensures.1 in
    record { answer = rw (q.1, q.2) c.in_err-group.ensures.answer; written = rw q.1 refl; laws = splitting }

pub add_all-requires : goal.add_all-requires
add_all-requires g c =
    let plan = c.args.plan.now in
    let got = granted plan (map g.P.Pads.source c.args.sources.now) c.args.key (length c.args.rows.now) c.in_ok-group.group (sym c.in_ok-group.ensures.answer) c.in_ok-group.ensures.group in
    omega (arith, got.long, part_few plan.height plan.width (get_or (view plan).masks got.g 0))

pub returns : goal.returns
returns g c =
    let plan = c.args.plan.now in
    let p = view plan in
    let sources = map g.P.Pads.source c.args.sources.now in
    let key = c.args.key in
    let sheet = c.args.rows.now in
    let group = c.in_ok-group.group in
    let got = granted plan sources key (length sheet) group (sym c.in_ok-group.ensures.answer) c.in_ok-group.ensures.group in
    let row : List ℕ → ℕ → List ℕ = λ ts n. padded sources ts (label_at (length ts) p.height p.width key n) (row_at n sheet) in
    let same : (n : ℕ) → n < rows_of_group p got.g → row_at n c.add_all.new.out ≡ row (members_of p got.g) n =
    λ n l. c.add_all.ensures n (omega (arith, got.long)) ∙ ap (λ x. padded sources (members group.mask) x (row_at n sheet)) (c.of.ensures n) ∙ ap (λ (x : Group). row (members x.mask) n) got.is in
    record {
      answer = c.in_ok-group.ensures.answer;
      written = accepted p sources key got.g sheet (sym c.in_ok-group.ensures.answer) got.owns ∙ ap (λ x. Ok x) (sym (rows_whole c.add_all.new.out (rows_of_group p got.g) (row (members_of p got.g)) (c.add_all.auto.out ∙ got.long) same));
      laws = splitting;
    }
