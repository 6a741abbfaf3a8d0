use Rattle.std.proofs.Common.{◌≡◌, ◌+◌, ◌<◌, true, inr, refl, arith, ◌∙◌, ap}
use Rattle.std.proofs.lemmas.Bool.{and_parts}
use Rattle.pci_spec.specs.Machine.{write_targets}
use Rattle.pci_spec.specs.Port.{has_function, is_access, fits}
use Rattle.pci_machine.specs.Outcome.{failures_of}
use Rattle.pci_plan.specs.Writes.{write_value}
use Rattle.pci_plan.proofs.Makes.{has_after_one, found, failed}
use Rattle.pci_plan.proofs.make.make_one.Goals as goal

pub returns-in-Err-read-clause-stop : goal.returns-in-Err-read-clause-stop
returns-in-Err-read-clause-stop g c =
    let w = write_value c.args.write in
    let before = g.P.ConfigPort.targets c.args.port.now in
    let now = g.P.ConfigPort.targets c.write.new.self in
    let failures = g.P.ConfigPort.failures c.args.port.now in
    let failures_now = g.P.ConfigPort.failures c.write.new.self in
    let failures_after = g.P.ConfigPort.failures c.read.new.self in
    let written : now ≡ write_targets before w = c.in-Ok.ensures.written in
    let quiet : failures_now ≡ failures + 0 = c.write.ensures.counted ∙ ap (λ r. failures + failures_of r) c.in-Ok.is in
    let there : has_function now w.slot ≡ true =
    ap (λ ts. has_function ts w.slot) written ∙ has_after_one w before w.slot ∙ found c.write.result c.in-Ok.field-0 (has_function before w.slot) c.in-Ok.is c.write.ensures.no_function in
    let lawful = and_parts (is_access w.offset w.width) (fits w.width w.value) c.requires.access in
    let rose : failures_now < failures_after =
    failed c.read.result c.in-Err-read.field-0 (has_function now w.slot) (is_access w.offset w.width) failures_now failures_after c.in-Err-read.is there lawful.0
    c.read.ensures.no_function c.read.ensures.bad_access c.read.ensures.counted in
    inr (refl, c.read.ensures.same ∙ written, omega (arith, quiet, rose))
