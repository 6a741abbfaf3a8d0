-- Where each function is in its place, the buses of a system nest; a fault of a place is one of the system.
use Rattle.std.proofs.Common.{◌≡◌, ℕ, ◌<◌, List, true, not, ◌&&◌, inl, inr, arith, sym, ◌∙◌, ap, subst, Some}
use Rattle.std.specs.Prelude.{◌==◌}
use Rattle.std.specs.Option.{is_some}
use Rattle.std.specs.List.{All, Contains}
use Rattle.std.proofs.lemmas.Bool.{and_from, and_parts, cases_Bool, cases_lt, eqb-true, not_from_false}
use Rattle.std.proofs.lemmas.List.Elements.{All-contains}
use Rattle.pci_spec.specs.Slot.{Slot, slot_number}
use Rattle.pci_spec.specs.System.{System, Function, is_bridge}
use Rattle.pci_spec.specs.Bus.{has_lawful_buses, is_led_to, IsNested}
use Rattle.pci_spec.specs.Fault.{IsIn, has_function_zero}
use Rattle.pci_spec.specs.Fault as faults
use Rattle.pci_spec.specs.Decoded.{record_of}
use Rattle.pci_spec.proofs.BusRanges.{any_gives}
use Rattle.pci_spec.proofs.Members.{in_map_from}
use Rattle.pci_spec.proofs.Nesting.{nested}
use Rattle.pci_function.specs.declared.fault.Fault.{Fault}
use Rattle.pci_function.specs.declared.fault.Fault.TheVariants.{LoneFunction, BusRange, Orphan}
use Rattle.pci_function.specs.declared.record.Bridge.{Bridge}
use Rattle.pci_function.specs.declared.record.Record.{Record}
use Rattle.pci_function.specs.Values.{record_value}
use Rattle.pci_function.specs.Fault.{fault_of}
use Rattle.pci_tree.specs.Ways.{slots_of}
use Rattle.pci_tree.specs.Outline.{RiseBySlot}
use Rattle.pci_tree.specs.BusNumbers.{IsNotLone, IsLedTo, HasLawfulBuses, IsInPlace, first_function}
use Rattle.pci_tree.specs.PlaceFaults.{IsPlaceFault, IsSomePlaceFault}
use Rattle.pci_tree.proofs.Lifting.{Has, function_for, functions_rise, one_by_number}
use Rattle.pci_tree.proofs.Faces.{SameFace, HaveFaces, faces_of, face_of, IsFaceOf, bridge_face, lawful_function, lawful_record_of, led_function, led_record}

-- ---- function 0 of a device

abbrev slot_of : ℕ → ℕ → ℕ → Slot
slot_of bus device function = record { bus = bus; device = device; function = function }

slot_from : (a b c d e f : ℕ) → a ≡ d → b ≡ e → c ≡ f → slot_of a b c ≡ slot_of d e f
slot_from a b c d e f x y z = cc

-- a slot with these numbers is that of function 0
same_first : (x slot : Slot) → x.bus ≡ slot.bus → x.device ≡ slot.device → x.function ≡ 0 → x ≡ first_function slot
same_first x slot b d f = slot_from x.bus x.device x.function slot.bus slot.device 0 b d f

-- function 0 of a system is among its records
zero_record : (s : System) (rs : List Record) (slot : Slot) → HaveFaces s rs → has_function_zero s slot ≡ true → Contains (slots_of rs) (first_function slot)
zero_record s rs slot faces h =
    let g : (g : Function) × Contains s g × ((g.slot.bus == slot.bus && g.slot.device == slot.device && g.slot.function == 0) ≡ true) =
    any_gives (λ (f : Function). f.slot.bus == slot.bus && f.slot.device == slot.device && f.slot.function == 0) s h in
    let p : ((g.0.slot.bus == slot.bus && g.0.slot.device == slot.device) ≡ true) × ((g.0.slot.function == 0) ≡ true) =
    and_parts (g.0.slot.bus == slot.bus && g.0.slot.device == slot.device) (g.0.slot.function == 0) g.2 in
    let q : ((g.0.slot.bus == slot.bus) ≡ true) × ((g.0.slot.device == slot.device) ≡ true) = and_parts (g.0.slot.bus == slot.bus) (g.0.slot.device == slot.device) p.0 in
    let x : (r : Record) × Contains rs r × SameFace g.0 r = faces.to_record g.0 g.1 in
    let e : x.0.slot ≡ first_function slot =
    x.2.slot ∙ same_first g.0.slot slot (eqb-true g.0.slot.bus slot.bus q.0) (eqb-true g.0.slot.device slot.device q.1) (eqb-true g.0.slot.function 0 p.1) in
    subst (λ y. Contains (slots_of rs) y) e (in_map_from (λ (r : Record). r.slot) rs x.0 x.1)

-- ---- faults

-- a function with another function number than 0 and no function 0 beside it is lone in the system
pub lone_in : (s : System) (rs : List Record) (slot : Slot) → HaveFaces s rs → (IsNotLone rs slot → ⊥) → (0 < slot.function) × (not (has_function_zero s slot) ≡ true)
lone_in s rs slot faces lone = (
  elim (cases_lt 0 slot.function) [
    | inl lt ↦ lt
    | inr ge ↦ absurd (lone (λ lt. absurd (omega arith)))
  ],
  elim (cases_Bool (has_function_zero s slot)) [
    | inl there ↦ absurd (lone (λ lt. zero_record s rs slot faces there))
    | inr off ↦ not_from_false (has_function_zero s slot) off
  ],
)

-- a bus that no bridge of the records leads to is one that no bridge of the system does
pub orphan_in : (roots : List ℕ) (s : System) (rs : List Record) (bus : ℕ) → HaveFaces s rs → (IsLedTo roots rs bus → ⊥) → not (is_led_to roots s bus) ≡ true
orphan_in roots s rs bus faces off = elim (cases_Bool (is_led_to roots s bus)) [
  | inl led ↦ absurd (off (led_record roots s rs bus faces led))
  | inr un ↦ not_from_false (is_led_to roots s bus) un
]

-- bus numbers that are unlawful in the records are so in the system
pub buses_in : (roots : List ℕ) (s : System) (rs : List Record) (f : Function) (r : Record) (b : Bridge) → HaveFaces s rs → SameFace f r → Contains rs r → r.bridge ≡ Some b
    → (HasLawfulBuses roots rs r.slot b → ⊥) → (is_bridge f && not (has_lawful_buses roots s f)) ≡ true
buses_in roots s rs f r b faces face has some off =
    let n = face.numbers b some in
    let whole : IsFaceOf rs f r b = record { bridge = record { has = has; is = some }; slot = face.slot; primary = n.0; secondary = n.1; subordinate = n.2 } in
    and_from (is_bridge f) (not (has_lawful_buses roots s f)) (sym face.bridge ∙ ap is_some some) (elim (cases_Bool (has_lawful_buses roots s f)) [
      | inl lawful ↦ absurd (off (lawful_record_of roots s rs f r b faces whole lawful))
      | inr un ↦ not_from_false (has_lawful_buses roots s f) un
    ])

-- the fault of a record's place is one of the system
fault_in : (roots : List ℕ) (s : System) (rs : List Record) (r : Record) (f : Function) (fault : Fault) → HaveFaces s rs → Contains s f → Contains rs r → SameFace f r
    → IsPlaceFault roots rs r fault → IsIn roots s (fault_of fault)
fault_in roots s rs r f (LoneFunction slot) faces listed has face is =
    subst (λ x. IsIn roots s (faults.LoneFunction x)) (sym is.0) (f, listed, sym face.slot, lone_in s rs r.slot faces is.1)
fault_in roots s rs r f (Orphan slot) faces listed has face is =
    subst (λ x. IsIn roots s (faults.Orphan x)) (sym is.0) (f, listed, sym face.slot, orphan_in roots s rs r.slot.bus faces is.1)
fault_in roots s rs r f (BusRange slot) faces listed has face is =
    subst (λ x. IsIn roots s (faults.BusRange x)) (sym is.0) (f, listed, sym face.slot, buses_in roots s rs f r is.1.0 faces face has is.1.1 is.1.2)
fault_in roots s rs r f _ faces listed has face is = absurd is

-- the fault of some record's place is one of each system with the records
pub place_fault_in : (roots : List ℕ) (s : System) (rs : List Record) (fault : Fault) → Has s rs → IsSomePlaceFault roots rs fault → IsIn roots s (fault_of fault)
place_fault_in roots s rs fault has some =
    let f : (f : Function) × Contains s f × (record_value some.r ≡ record_of f) = function_for s rs some.r has some.has in
    fault_in roots s rs some.r f.0 fault (faces_of s rs has) f.1 some.has (face_of some.r f.0 f.2) some.is

-- ---- nesting

-- functions whose records are in their places nest
pub nested_faces : (roots : List ℕ) (s : System) (rs : List Record) → HaveFaces s rs
    → ((b c : Function) → Contains s b → Contains s c → slot_number b.slot ≡ slot_number c.slot → b ≡ c) → All (IsInPlace roots rs) rs → IsNested roots s
nested_faces roots s rs faces unique places =
    nested roots s unique
    (λ b listed bridge. (let x : (r : Record) × (d : Bridge) × IsFaceOf rs b r d = bridge_face s rs b faces listed bridge in
    let p : IsInPlace roots rs x.0 = All-contains (IsInPlace roots rs) rs x.0 places x.2.bridge.has in
    lawful_function roots s rs b x.0 x.1 faces x.2 (p.buses x.1 x.2.bridge.is)))
    (λ f listed. (let x : (r : Record) × Contains rs r × SameFace f r = faces.to_record f listed in
    let p : IsInPlace roots rs x.0 = All-contains (IsInPlace roots rs) rs x.0 places x.1 in
    led_function roots s rs f.slot.bus faces (subst (λ (y : Slot). IsLedTo roots rs y.bus) x.2.slot p.led)))

-- so each system with records in their places nests
pub nested_in_places : (roots : List ℕ) (s : System) (rs : List Record) → Has s rs → RiseBySlot rs → All (IsInPlace roots rs) rs → IsNested roots s
nested_in_places roots s rs has rise places =
    nested_faces roots s rs (faces_of s rs has) (λ b c in_b in_c e. one_by_number (λ (h : Function). slot_number h.slot) s b c (functions_rise s rs has rise) in_b in_c e) places
