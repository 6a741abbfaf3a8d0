use Rattle.std.proofs.Common.{length, map, Err, Ok, arith, refl, ap, ◌∙◌}
use Rattle.pci_base.specs.declared.memory.Refused.TheVariants as refusals
use Rattle.pci_model_settle.specs.ClaimLines.{own_lines}
use Rattle.pci_model_settle.specs.LineValues.{line_value}
use Rattle.pci_model_settle.proofs.HeldLines.{devices_told, lines_are_other, memory_is_other, not_refused, own_few, own_fit, own_many}
use Rattle.pci_model_settle.proofs.MergedLines.{own_is}
use Rattle.pci_model_settle.proofs.claim_lines.lines_with_devices.Goals as goal

pub returns-then-ranges-devices-gt-LINES_MAX-clause-fault :
    goal.returns-then-ranges-devices-gt-LINES_MAX-clause-fault
returns-then-ranges-devices-gt-LINES_MAX-clause-fault g c =
    let many = c.if-ranges-devices-gt-LINES_MAX.true in
    (λ _. own_many c.args.ranges.now c.args.devices.now (omega (arith, many)), λ _. refl)

pub returns-in-Err-clause-fault : goal.returns-in-Err-clause-fault
returns-in-Err-clause-fault g c =
    let few = c.if-ranges-devices-gt-LINES_MAX.false in
    not_refused (Err refusals.Memory) (length (own_lines c.args.ranges.now (map line_value c.args.devices.now))) (own_few c.args.ranges.now c.args.devices.now (omega (arith, few))) (memory_is_other (Err refusals.Memory) refl)

pub merged-requires : goal.merged-requires
merged-requires g c =
    let few = c.if-ranges-devices-gt-LINES_MAX.false in
    own_fit c.args.ranges.now c.deref.result.now c.args.devices.now (ap (map line_value) c.deref.ensures.value ∙ c.in-Ok.ensures) (omega (arith, few))

pub returns-in-Ok-merged-clause-lines : goal.returns-in-Ok-merged-clause-lines
returns-in-Ok-merged-clause-lines g c =
    own_is c.args.ranges.now c.deref.result.now c.args.devices.now c.in-Ok-merged.lines.items (ap (map line_value) c.deref.ensures.value ∙ c.in-Ok.ensures) c.in-Ok-merged.ensures

pub returns-in-Ok-merged-clause-can_be_told : goal.returns-in-Ok-merged-clause-can_be_told
returns-in-Ok-merged-clause-can_be_told g c =
    let few = c.if-ranges-devices-gt-LINES_MAX.false in
    devices_told c.args.ranges.now c.args.devices.now c.in-Ok-merged.lines.items c.requires.told c.requires.devices (omega (arith, few))
    (own_is c.args.ranges.now c.deref.result.now c.args.devices.now c.in-Ok-merged.lines.items (ap (map line_value) c.deref.ensures.value ∙ c.in-Ok.ensures) c.in-Ok-merged.ensures)

pub returns-in-Ok-merged-clause-fault : goal.returns-in-Ok-merged-clause-fault
returns-in-Ok-merged-clause-fault g c =
    let few = c.if-ranges-devices-gt-LINES_MAX.false in
    not_refused (Ok c.in-Ok-merged.lines) (length (own_lines c.args.ranges.now (map line_value c.args.devices.now))) (own_few c.args.ranges.now c.args.devices.now (omega (arith, few)))
    (lines_are_other (Ok c.in-Ok-merged.lines) c.in-Ok-merged.lines refl)

pub returns-clause-fault : goal.returns-clause-fault
returns-clause-fault g c =
    let few = c.if-ranges-devices-gt-LINES_MAX.false in
    not_refused (Err refusals.Memory) (length (own_lines c.args.ranges.now (map line_value c.args.devices.now))) (own_few c.args.ranges.now c.args.devices.now (omega (arith, few))) (memory_is_other (Err refusals.Memory) refl)
