use Rattle.std.proofs.Common.{List, map, sym, subst}
use Rattle.judge_spec.specs.Given.{nothing_given}
use Rattle.judge_spec.specs.Told.{ToldRange}
use Rattle.pci_faults.specs.AllLines.{any_fault_value}
use Rattle.pci_faults.specs.Every.{AreBefore}
use Rattle.pci_faults.specs.declared.any_fault.AnyFault.{AnyFault}
use Rattle.pci_tree.specs.Roots.{buses_of}
use Rattle.pciplan_c.specs.ToldTexts.{IsEarlyFirst, IsFirstUnready, told_ranges}
use Rattle.pciplan_c.proofs.ToldParts.{early_first}
use Rattle.pciplan_c.proofs.told.unready_of.Goals as goal

pub first_of-requires : goal.first_of-requires
first_of-requires g c =
    let found = (rw c.in-Refused.is at c.in_ok-found.ensures) nothing_given in
    subst (λ (items : List AnyFault). IsEarlyFirst (map any_fault_value items)) (sym c.as_slice-in-Refused.ensures.value)
    (early_first _ nothing_given (buses_of c.args.roots) c.args.dump.now c.args.probe.now c.blocks-2.ensures.dump c.blocks-3.ensures.dump
    (map any_fault_value c.in-Refused.faults.items) found.before found.some)

pub returns-in-Refused : goal.returns-in-Refused
returns-in-Refused g c =
    let found = (rw c.in-Refused.is at c.in_ok-found.ensures) nothing_given in
    let faults = map any_fault_value c.in-Refused.faults.items in
    record {
      faults = faults;
      before = subst (λ (rs : List ToldRange). AreBefore (told_ranges rs) nothing_given (buses_of c.args.roots) c.args.dump.now c.args.probe.now faults)
          c.as_slice.ensures.value found.before;
      first = subst (λ (items : List AnyFault). IsFirstUnready (map any_fault_value items) c.first_of.result) c.as_slice-in-Refused.ensures.value c.first_of.ensures;
    }
