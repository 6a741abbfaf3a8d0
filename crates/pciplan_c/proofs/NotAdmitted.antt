-- Texts that aren't admitted.
use Rattle.std.proofs.Common.{◌≡◌, ℕ, List, subst}
use Rattle.pci_spec.specs.Text.{Block, IsTextOf}
use Rattle.pci_base.specs.declared.memory.Refused.TheVariants as refusals
use Rattle.pci_tree.specs.Roots.{IsRootList}
use Rattle.pci_tree.specs.Refusals.{IsPairRefusal}
use Rattle.pci_function.specs.declared.fault.Fault.{Fault}
use Rattle.pciplan_c.specs.Texts.{IsNotAdmitted}

pub not_admitted : (buses roots dump probe : List ℕ) (listed read_back : List Block) (fault : Fault)
    → IsPairRefusal buses listed read_back (refusals.Fault fault) → buses ≡ roots → IsRootList roots
    → IsTextOf dump listed → IsTextOf probe read_back → IsNotAdmitted roots dump probe fault
not_admitted buses roots dump probe listed read_back fault refusal same rising dump_text probe_text =
    let P : List ℕ → Type 0 = λ rs. IsPairRefusal rs listed read_back (refusals.Fault fault) in
    let r = subst P same refusal in
    record {
      listed = listed;
      read_back = read_back;
      rising = rising;
      dump_text = dump_text;
      probe_text = probe_text;
      first = r.0;
      early = r.1;
    }
