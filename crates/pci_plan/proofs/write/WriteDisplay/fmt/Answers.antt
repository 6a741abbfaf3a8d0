use Rattle.std.proofs.Common.{rules, ◌≡◌, ap, sym, subst}
use Rattle.std.specs.Fmt.{DisplaysOnOk}
use Rattle.std.proofs.lemmas.Fmt.{hex_byte}
use Rattle.std.proofs.lemmas.List.{append_assoc}
use Rattle.pci_spec.proofs.HexTexts.{hex_eight, hex_four_of_low}
use Rattle.pci_plan.specs.Writes.{printed}
use Rattle.pci_plan.specs.declared.write.Write.{Write}
use Rattle.pci_plan.proofs.write.WriteDisplay.fmt.Goals as goal

pub returns-in-2-clause-writes : goal.returns-in-2-clause-writes
returns-in-2-clause-writes g c =
    let w : Write = c.args.self.now in
    let is : w ≡ record { slot = w.slot; off = w.off; width = 2; value = w.value } = ap (λ n. record { slot = w.slot; off = w.off; width = n; value = w.value }) c.in-2.is in
    subst (λ (x : Write). DisplaysOnOk g.W.Write.write_str_gives c.args.f.now c.write.result (printed x) c.write.new.self) (sym is) (search (rules, hex_byte, append_assoc, hex_four_of_low))

pub returns-in-4-clause-writes : goal.returns-in-4-clause-writes
returns-in-4-clause-writes g c =
    let w : Write = c.args.self.now in
    let is : w ≡ record { slot = w.slot; off = w.off; width = 4; value = w.value } = ap (λ n. record { slot = w.slot; off = w.off; width = n; value = w.value }) c.in-4.is in
    subst (λ (x : Write). DisplaysOnOk g.W.Write.write_str_gives c.args.f.now c.write-in-4.result (printed x) c.write-in-4.new.self) (sym is) (search (rules, hex_byte, append_assoc, hex_eight))
