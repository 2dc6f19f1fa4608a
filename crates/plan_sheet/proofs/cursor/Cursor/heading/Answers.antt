use Rattle.std.proofs.Common.{rules}
use Rattle.std.proofs.lemmas.Result.{err_from_is_err_and}
use Rattle.sizes.specs.Sizes.{is_height, is_width}
use Rattle.plan.specs.Shape.{is_trustees, is_groups}
use Rattle.plan_sheet.proofs.Headings.{standing, onward, answer_there, worth_there, stop_trustees, stop_height, stop_width, groups_decide}
use Rattle.plan_sheet.proofs.cursor.Cursor.heading.Goals as goal

pub returns-in_err-trustees : goal.returns-in_err-trustees
returns-in_err-trustees c =
    let p = err_from_is_err_and c.from_residual.result c.from_residual.ensures.1 in
    let a1 = standing c.args.self.now.sheet.now c.requires.line c.requires.field in
    let b1 = answer_there is_trustees a1 c.in_err-trustees.ensures.value in
    record { value = rw (p.1, p.2) (stop_trustees c.args.self.now.sheet.now b1); moved = search rules }

pub returns-in_err-height : goal.returns-in_err-height
returns-in_err-height c =
    let p = err_from_is_err_and c.from_residual-in_err-height.result c.from_residual-in_err-height.ensures.1 in
    let a1 = standing c.args.self.now.sheet.now c.requires.line c.requires.field in
    let b1 = answer_there is_trustees a1 c.in_ok-trustees.ensures.value.0 in
    let a2 = onward a1 c.quantity.ensures.moved in
    let b2 = answer_there is_height a2 c.in_err-height.ensures.value in
    record { value = rw (p.1, p.2) (stop_height c.args.self.now.sheet.now b1 b2); moved = search rules }

pub returns-in_err-width : goal.returns-in_err-width
returns-in_err-width c =
    let p = err_from_is_err_and c.from_residual-in_err-width.result c.from_residual-in_err-width.ensures.1 in
    let a1 = standing c.args.self.now.sheet.now c.requires.line c.requires.field in
    let b1 = answer_there is_trustees a1 c.in_ok-trustees.ensures.value.0 in
    let a2 = onward a1 c.quantity.ensures.moved in
    let b2 = answer_there is_height a2 c.in_ok-height.ensures.value.0 in
    let a3 = onward a2 c.quantity-2.ensures.moved in
    let b3 = answer_there is_width a3 c.in_err-width.ensures.value in
    record { value = rw (p.1, p.2) (stop_width c.args.self.now.sheet.now b1 b2 b3); moved = search rules }

pub returns-in_err-groups : goal.returns-in_err-groups
returns-in_err-groups c =
    let p = err_from_is_err_and c.from_residual-in_err-groups.result c.from_residual-in_err-groups.ensures.1 in
    let a1 = standing c.args.self.now.sheet.now c.requires.line c.requires.field in
    let b1 = answer_there is_trustees a1 c.in_ok-trustees.ensures.value.0 in
    let a2 = onward a1 c.quantity.ensures.moved in
    let b2 = answer_there is_height a2 c.in_ok-height.ensures.value.0 in
    let a3 = onward a2 c.quantity-2.ensures.moved in
    let b3 = answer_there is_width a3 c.in_ok-width.ensures.value.0 in
    let a4 = onward a3 c.quantity-3.ensures.moved in
    let b4 = answer_there is_groups a4 c.in_err-groups.ensures.value in
    record { value = rw (p.1, p.2) (groups_decide c.args.self.now.sheet.now b1 b2 b3 b4); moved = search rules }

pub returns : goal.returns
returns c =
    let a1 = standing c.args.self.now.sheet.now c.requires.line c.requires.field in
    let q1 = c.in_ok-trustees.ensures.value in
    let b1 = answer_there is_trustees a1 q1.0 in
    let a2 = onward a1 c.quantity.ensures.moved in
    let q2 = c.in_ok-height.ensures.value in
    let b2 = answer_there is_height a2 q2.0 in
    let a3 = onward a2 c.quantity-2.ensures.moved in
    let q3 = c.in_ok-width.ensures.value in
    let b3 = answer_there is_width a3 q3.0 in
    let a4 = onward a3 c.quantity-3.ensures.moved in
    let q4 = c.in_ok-groups.ensures.value in
    let b4 = answer_there is_groups a4 q4.0 in
    record {
      value = record {
        passed = groups_decide c.args.self.now.sheet.now b1 b2 b3 b4;
        n_is = worth_there a1 q1.1.0;
        h_is = worth_there a2 q2.1.0;
        w_is = worth_there a3 q3.1.0;
        m_is = worth_there a4 q4.1.0;
        n_in = q1.1.1;
        h_in = q2.1.1;
        w_in = q3.1.1;
        m_in = q4.1.1;
      };
      moved = search rules;
    }
