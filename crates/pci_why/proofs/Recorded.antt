-- The record of a function, by its slot.
use Rattle.std.proofs.Common.{◌≡◌, List, sym, ◌∙◌, ap, subst}
use Rattle.std.specs.List.{Contains}
use Rattle.pci_spec.specs.Slot.{Slot, slot_number}
use Rattle.pci_spec.specs.System.{System, Function}
use Rattle.pci_spec.specs.Decoded.{record_of}
use Rattle.pci_spec.proofs.Members.{in_map_from}
use Rattle.pci_function.specs.declared.record.Record.{Record}
use Rattle.pci_function.specs.Values.{record_value}
use Rattle.pci_tree.specs.Ways.{slots_of}
use Rattle.pci_tree.specs.Outline.{RiseBySlot}
use Rattle.pci_tree.proofs.Lifting.{Has, record_for, same_slot_of, one_by_number}

-- the record at the slot of a function is the function's
pub stands_for : (s : System) (rs : List Record) (r : Record) (f : Function) → Has s rs → RiseBySlot rs → Contains rs r → Contains s f → r.slot ≡ f.slot → record_value r ≡ record_of f
stands_for s rs r f is rise has listed at =
    let own = record_for s rs f is listed in
    let same : own.0 ≡ r = one_by_number (λ (x : Record). slot_number x.slot) rs own.0 r rise own.1.has has (ap slot_number (same_slot_of own.0 f own.1.same ∙ sym at)) in
    sym (ap record_value same) ∙ own.1.same

-- it has a record
pub has_record : (s : System) (rs : List Record) (f : Function) (slot : Slot) → Has s rs → Contains s f → f.slot ≡ slot → Contains (slots_of rs) slot
has_record s rs f slot is listed at =
    let own = record_for s rs f is listed in
    subst (Contains (slots_of rs)) (same_slot_of own.0 f own.1.same ∙ at) (in_map_from (λ (x : Record). x.slot) rs own.0 own.1.has)
