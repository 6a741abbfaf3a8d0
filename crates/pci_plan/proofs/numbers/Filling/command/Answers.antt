use Rattle.std.proofs.Common.{arith, ◌+◌, ◌*◌, ◌/◌, ◌∙◌, ap, cond}
use mir.Val.{bool_byte}
use Rattle.pci_spec.specs.Header.{command}
use Rattle.pci_spec.specs.Machine.{without_low}
use Rattle.plan_spec.specs.Planning.Numbers.{needs_io, needs_memory}
use Rattle.pci_plan.proofs.FilledCommand.{one_if, two_if, rest_fits, io_fits, memory_fits, both_fit}
use Rattle.pci_plan.proofs.numbers.Filling.command.Goals as goal

pub overflow_mul-rest : goal.overflow_mul-rest
overflow_mul-rest c = omega (arith, rest_fits c.u16.result c.u16.type_inv)

pub overflow_add-result : goal.overflow_add-result
overflow_add-result c = omega (arith, io_fits c.u16.result c.from.result c.needs_io.result c.u16.type_inv c.from.ensures)

pub overflow_mul-result : goal.overflow_mul-result
overflow_mul-result c = omega (arith, memory_fits c.from-2.result c.needs_memory.result c.from-2.ensures)

pub overflow_add-result-2 : goal.overflow_add-result-2
overflow_add-result-2 c =
    omega (arith, both_fit c.u16.result c.from.result c.from-2.result c.needs_io.result c.needs_memory.result c.u16.type_inv c.from.ensures c.from-2.ensures)

pub returns : goal.returns
returns c of =
    let f = of.function in
    let rest = c.u16.ensures ∙ ap command of.image in
    let io = c.from.ensures ∙ ap bool_byte (c.needs_io.ensures of) in
    let memory = c.from-2.ensures ∙ ap bool_byte (c.needs_memory.ensures of) in
    ap (λ n. n / 4 * 4 + c.from.result + 2 * c.from-2.result) rest
    ∙ ap (λ n. without_low 4 (command f.image) + n + 2 * c.from-2.result) (io ∙ one_if (needs_io of.system of.pools f))
    ∙ ap (λ n. without_low 4 (command f.image) + cond (needs_io of.system of.pools f) 1 0 + n) (ap (λ n. 2 * n) memory ∙ two_if (needs_memory of.system of.pools f))
