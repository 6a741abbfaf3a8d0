use Rattle.std.proofs.Common.{◌++◌, ◌∙◌, ap, codes, [], ◌∷◌}
use Rattle.std.specs.String.{string_bytes}
use Rattle.std.proofs.lemmas.List.{append_assoc}
use Rattle.pci_plan.specs.Writes.{write_value}
use Rattle.pci_script.specs.Scripts.{register_and_value}
use Rattle.pci_script.proofs.Scripts.{compares_more}
use Rattle.pci_script.proofs.lines.push_compares.Goals as goal

pub loop-register-preserved : goal.loop-register-preserved
loop-register-preserved g c =
    let text = register_and_value c.args.form (codes "compare") (write_value c.register-item.result) in
    compares_more c.args.form (string_bytes c.args.text.now) (string_bytes c.loop-register.text) (string_bytes c.end_line.new.text) c.args.registers.now c.loop-register.register-index
    c.register-item.result c.loop-register-test.true c.register-item.is c.loop-register.invariant
    (c.in_ok-end_line.ensures ∙ ap (λ t. t ++ 10 ∷ []) c.in_ok-push_register.ensures ∙ append_assoc (string_bytes c.loop-register.text) text (10 ∷ []))
