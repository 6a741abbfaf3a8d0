-- Slots that are the same by the test of their parts.
use Rattle.std.proofs.Common.{◌≡◌, true, ◌&&◌, refl}
use Rattle.std.specs.Prelude.{◌==◌}
use Rattle.std.proofs.lemmas.Bool.{and_parts, and_from, eqb-true, eq-eqb}
use Rattle.pci_spec.specs.Slot.{Slot, same_slot}

-- slots whose parts are the same
pub slots_same : (s t : Slot) → same_slot s t ≡ true → s ≡ t
slots_same s t same =
    let first = and_parts (s.bus == t.bus && s.device == t.device) (s.function == t.function) same in
    let second = and_parts (s.bus == t.bus) (s.device == t.device) first.0 in
    let bus = eqb-true s.bus t.bus second.0 in
    let device = eqb-true s.device t.device second.1 in
    let function = eqb-true s.function t.function first.1 in
    λ i. record { bus = bus i; device = device i; function = function i }

pub slot_itself : (s : Slot) → same_slot s s ≡ true
slot_itself s =
    and_from (s.bus == s.bus && s.device == s.device) (s.function == s.function)
    (and_from (s.bus == s.bus) (s.device == s.device) (eq-eqb s.bus s.bus refl) (eq-eqb s.device s.device refl)) (eq-eqb s.function s.function refl)
