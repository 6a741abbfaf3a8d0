-- The first fault of a dump and sizes, by what was looked for before it.
use Rattle.std.proofs.Common.{◌≡◌, ℕ, ◌+◌, ◌<◌, List, length, get_or, take, Option, None, arith, sym, ◌∙◌}
use Rattle.std.specs.Option.{option_map, option_or}
use Rattle.pci_spec.specs.Slot.{Slot}
use Rattle.pci_spec.specs.Text.{Block, slots_of}
use Rattle.pci_spec.specs.SizesText.{SizesBlock, sized_slots}
use Rattle.pci_spec.specs.ProbeOf as spec
use Rattle.pci_spec.specs.ProbeOf.{SlotsDiffer, told_of, lone_slots, least_slot, identity_fault, read_back_fault, first_of, probe_fault}
use Rattle.pci_base.specs.declared.memory.Refused.{Refused}
use Rattle.pci_base.specs.declared.memory.Refused.TheVariants.{Fault, Memory}
use Rattle.pci_machine.specs.Assuming.{assuming_of}
use Rattle.pci_machine.specs.declared.assuming.Assuming.{Assuming}
use Rattle.pci_machine.specs.declared.probe_fault.ProbeFault.{ProbeFault}
use Rattle.pci_machine.specs.Derivation.{IsFaultOfFunction, told_function}
use Rattle.pci_machine.specs.ProbeFault.{IsFirstProbeFault, fault_value}
use Rattle.pci_machine.proofs.FirstOf.{first_of-more, first_of-found}
use Rattle.pci_machine.proofs.ToldFunctions.{same_count, length-told_of, told_at}

pub fault_by : (assuming : Assuming) (dump : List Block) (sizes : List SizesBlock) (slot : Option Slot) (header : Option spec.ProbeFault)
    → slot ≡ least_slot (lone_slots (slots_of dump) (sized_slots sizes)) → first_of identity_fault dump ≡ header
    → probe_fault (assuming_of assuming) dump sizes ≡ option_or (option_map SlotsDiffer slot) (option_or header (first_of (read_back_fault (assuming_of assuming)) (told_of dump sizes)))
unfolding probe_fault
fault_by assuming dump sizes slot header slot_is header_is =
    let least = sym slot_is in
    λ i. option_or (option_map SlotsDiffer (least i)) (option_or (header_is i) (first_of (read_back_fault (assuming_of assuming)) (told_of dump sizes)))

-- the fault of a function, where the headers of all are fine
pub register_fault_by : (assuming : Assuming) (dump : List Block) (sizes : List SizesBlock) (refused : Refused ProbeFault) (k : ℕ) (b : Block) (s : SizesBlock)
    → None ≡ least_slot (lone_slots (slots_of dump) (sized_slots sizes)) → slots_of dump ≡ sized_slots sizes → first_of identity_fault dump ≡ None
    → k < length dump → b ≡ get_or dump k b → s ≡ get_or sizes k s
    → first_of (read_back_fault (assuming_of assuming)) (take k (told_of dump sizes)) ≡ None → IsFaultOfFunction assuming (told_function b s) refused → IsFirstProbeFault assuming dump sizes refused
register_fault_by assuming dump sizes (Fault fault) k b s none same fine within b_is s_is before is =
    let count = same_count dump sizes same in
    let long = length-told_of dump sizes count in
    fault_by assuming dump sizes None None none fine
    ∙ first_of-found (read_back_fault (assuming_of assuming)) (told_of dump sizes) (k + 1) (fault_value fault)
    (first_of-more (read_back_fault (assuming_of assuming)) (told_of dump sizes) k (told_function b s) (omega (arith, long, within)) (told_at dump sizes k b s within (omega (arith, count, within)) b_is s_is) before ∙ is)
register_fault_by assuming dump sizes Memory k b s none same fine within b_is s_is before is = tt
