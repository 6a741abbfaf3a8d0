use Rattle.std.proofs.Common.{◌≡◌, ◌∙◌, ◌*◌, ◌/◌, ap, arith}
use Rattle.std.proofs.lemmas.Bool.{ltb-true}
use Rattle.pci_spec.specs.Header.{command}
use Rattle.pci_spec.specs.Machine.{written}
use Rattle.pci_spec.specs.Port.{with_image}
use Rattle.pci_spec.specs.Sizing.{function_at, quieted}
use Rattle.pci_machine.proofs.Sizing.{quiet_number, function_at-with_image}
use Rattle.pci_machine.proofs.quiet.Quiet.begin.Goals as goal

pub overflow_cast-command : goal.overflow_cast-command
overflow_cast-command g c = let below = ltb-true c.in_ok-command.field-0 65536 c.in_ok-command.ensures.fits in omega (arith, below)

pub returns-clause-quieted : goal.returns-clause-quieted
returns-clause-quieted g c =
    let before = g.P.ConfigPort.targets c.args.port.now in
    let after = g.P.ConfigPort.targets c.read_at.new.port in
    let slot = c.args.slot in
    let t = function_at before slot in
    let value : c.from.result ≡ command t.image / 4 * 4 =
    c.from.ensures ∙ quiet_number c.in_ok-command.field-0 (ltb-true c.in_ok-command.field-0 65536 c.in_ok-command.ensures.fits) ∙ ap (λ n. n / 4 * 4) c.in_ok-command.ensures.value in
    c.in_ok-write_at.ensures.written ∙ ap (λ xs. with_image xs slot (written (function_at xs slot) 0x04 2 c.from.result)) c.in_ok-command.ensures.same
    ∙ ap (λ n. with_image before slot (written t 0x04 2 n)) value

pub returns-clause-function : goal.returns-clause-function
returns-clause-function g c =
    let before = g.P.ConfigPort.targets c.args.port.now in
    let slot = c.args.slot in
    ap (λ xs. function_at xs slot) (returns-clause-quieted g c)
    ∙ function_at-with_image before slot (quieted (function_at before slot)) c.requires.there
