-- The BARs and ROMs whose addresses all get to their bus.
use Rattle.std.specs.Prelude.{◌≡◌, ℕ, ◌<◌, false, List}
use Rattle.std.specs.List.{Contains}
use Rattle.pci_spec.specs.System.{System, Function, Space, Part, Claims, IsPassedTo, is_prefetchable_part, is_window, register_of}
use Rattle.pci_spec.specs.JudgingLaws.{region_number}

-- the BARs and ROMs of a bus and space are passed on to it all the way
abbrev pub IsHomeOn : List ℕ → System → ℕ → Space → Type 0
IsHomeOn roots s bus space =
    (f : Function) (p : Part) (a : ℕ) → Contains s f → f.slot.bus ≡ bus → is_window p ≡ false
    → Claims f p space a
    → IsPassedTo roots s space (is_prefetchable_part f p) a bus

-- and those below a slot and register
abbrev pub IsHomeBelow : List ℕ → System → ℕ → Space → ℕ → Type 0
IsHomeBelow roots s bus space number =
    (f : Function) (p : Part) (a : ℕ) → Contains s f → f.slot.bus ≡ bus → is_window p ≡ false
    → region_number f.slot (register_of f p) < number → Claims f p space a
    → IsPassedTo roots s space (is_prefetchable_part f p) a bus

-- those of all buses and spaces below a slot and register
abbrev pub AreHomeBelow : List ℕ → System → ℕ → Type 0
AreHomeBelow roots s number =
    (f : Function) (p : Part) (space : Space) (a : ℕ) → Contains s f → is_window p ≡ false
    → region_number f.slot (register_of f p) < number → Claims f p space a
    → IsPassedTo roots s space (is_prefetchable_part f p) a f.slot.bus
