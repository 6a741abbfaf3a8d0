use Rattle.std.proofs.Common.{◌≡◌, ◌↔◌, true, sym, subst}
use Rattle.std.specs.List.{Contains}
use Rattle.pci_tree.specs.Ways.{slots_of}
use Rattle.pci_tree.proofs.SlotSearch.{in_slots, found_if}
use Rattle.pci_tree.proofs.bus.has_slot.Goals as goal

pub returns : goal.returns
returns c =
    subst (λ b. (b ≡ true) ↔ Contains (slots_of c.args.records.now) c.args.slot) (sym c.is_some.ensures)
    (found_if (Contains (slots_of c.args.records.now) c.args.slot) (λ r. Contains c.args.records.now r.now × (r.now.slot ≡ c.args.slot)) c.record_at.result
    (λ r is. in_slots c.args.records.now r.now c.args.slot is.0 is.1) c.record_at.ensures)
