use Rattle.std.proofs.Common.{◌++◌, ◌∙◌, arith, ap, Some, subst, sym}
use Rattle.std.specs.Prelude.{codes}
use Rattle.pci_dump.proofs.Marks.{IsWritten, word_written, one_written, all_written, mark_some, is_title, some_left}
use Rattle.pci_dump.proofs.mark.mark.Goals as goal

pub loop-register-init : goal.loop-register-init
loop-register-init c =
    subst (λ t. IsWritten c.args.registers.now 0 t 32) (sym (c.put_bytes.ensures.text ∙ ap (λ t. t ++ codes "assumed") c.new-text.ensures)) (word_written c.args.registers.now)

pub put_register-requires : goal.put_register-requires
put_register-requires c =
    let room = c.loop-register.invariant.room in
    let few = c.requires in
    let within = c.loop-register-test.true in
    omega (arith, room, few, within)

pub loop-register-preserved : goal.loop-register-preserved
loop-register-preserved c =
    one_written c.args.registers.now c.loop-register.register-index c.loop-register.text.items c.put_register.new.text.items c.loop-register.separator c.loop-register-test.true c.put_register.ensures.text
    c.loop-register.invariant

pub of_title-requires : goal.of_title-requires
of_title-requires c =
    let written = all_written c.args.registers.now c.loop-register.register-index c.loop-register.text.items c.loop-register.separator c.loop-register-test.false c.loop-register.invariant in
    is_title c.args.registers.now c.as_slice.result.now (some_left c.args.registers.now c.is_empty.result c.is_empty.ensures c.if-is_empty.false) c.requires (λ k. let fits = c.type_inv.registers k in omega (arith, fits))
    (c.as_slice.ensures.value ∙ written)

pub returns : goal.returns
returns c =
    let written = all_written c.args.registers.now c.loop-register.register-index c.loop-register.text.items c.loop-register.separator c.loop-register-test.false c.loop-register.invariant in
    ap Some (c.of_title.ensures ∙ c.as_slice.ensures.value ∙ written) ∙ mark_some c.args.registers.now (some_left c.args.registers.now c.is_empty.result c.is_empty.ensures c.if-is_empty.false)
