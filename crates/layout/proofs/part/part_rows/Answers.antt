use Rattle.std.proofs.Common.{◌≡◌, ◌*◌, ap, ◌∙◌, arith}
use Rattle.sizes.specs.Sizes.{bits}
use Rattle.lms.specs.Scheme.{components, positions}
use Rattle.sizes.proofs.Heights.{levels_most}
use Rattle.layout.proofs.Few.{components_few}
use Rattle.layout.proofs.part.part_rows.Goals as goal

pub overflow_add-result : goal.overflow_add-result
overflow_add-result c = omega (arith, c.size.ensures.eight)

pub overflow_add-result-2 : goal.overflow_add-result-2
overflow_add-result-2 c = omega (arith, c.size.ensures.eight, c.levels.ensures, levels_most c.args.height)

pub overflow_add-result-3 : goal.overflow_add-result-3
overflow_add-result-3 c =
    let all : c.components.result * c.positions.result ≡ components (bits c.args.width) * positions (bits c.args.width) = ap (λ x. x * c.positions.result) c.components.ensures.value ∙ ap (λ x. components (bits c.args.width) * x) c.positions.ensures.value in
    omega (arith, c.size.ensures.eight, c.levels.ensures, levels_most c.args.height, all, components_few c.args.width)

pub returns : goal.returns
returns c =
    let all : c.components.result * c.positions.result ≡ components (bits c.args.width) * positions (bits c.args.width) = ap (λ x. x * c.positions.result) c.components.ensures.value ∙ ap (λ x. components (bits c.args.width) * x) c.positions.ensures.value in
    record {
      value = omega (arith, c.size.ensures.value, c.levels.ensures, all);
      few = omega (arith, c.size.ensures.eight, c.levels.ensures, levels_most c.args.height, all, components_few c.args.width);
    }
