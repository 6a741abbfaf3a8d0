-- What ISA Enable takes from windows.
use Rattle.std.proofs.Common.{◌≡◌, ◌≢◌, List, [], ◌∷◌, length, refl, ap, ◌∙◌}
use Rattle.std.specs.Prelude.{◌&&◌, ◌||◌}
use Rattle.std.specs.List.{list_any}
use Rattle.pci_spec.specs.Slot.{Slot, same_slot}
use Rattle.pci_spec.specs.System.{Io}
use Rattle.pci_spec.proofs.SameSlot.{slot_itself}
use Rattle.judge_spec.specs.Given.{Given, is_isa_port}
use Rattle.pci_faults.specs.Stopped.{HasCut}

-- a bridge with ISA Enable takes port 100h from its window
pub first_cut : (given : Given) → length given.isa ≢ 0 → HasCut given Io
first_cut given some = go given.isa refl some where
  go : (isa : List Slot) → given.isa ≡ isa → length isa ≢ 0 → HasCut given Io
  go [] same none = absurd (none refl)
  go (bridge ∷ others) same none = record {
    address = 256;
    bridge = bridge;
    cut =
        ap (λ (isa : List Slot). list_any (λ other. same_slot other bridge) isa && is_isa_port 256) same
        ∙ ap (λ b. (b || list_any (λ (other : Slot). same_slot other bridge) others) && is_isa_port 256) (slot_itself bridge);
  }
