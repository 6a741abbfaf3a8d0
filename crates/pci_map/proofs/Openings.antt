-- The record of a window's bridge.
use Rattle.std.proofs.Common.{◌≡◌, ℕ, ◌<◌, List, sym, ap, ◌∙◌, arith, true, Option, None, Some, Bool}
use Rattle.std.specs.Option.{is_some}
use Rattle.std.specs.List.{Contains, filter}
use Rattle.std.proofs.lemmas.Bool.{false≢true}
use Rattle.pci_spec.specs.Slot.{Slot, slot_number}
use Rattle.pci_spec.specs.System.{System, Function, Space, is_bridge}
use Rattle.pci_spec.specs.Bus.{IsNested, secondary}
use Rattle.pci_spec.specs.Decoded.{record_of}
use Rattle.pci_spec.specs.Why.{IsRegionIn}
use Rattle.pci_spec.proofs.BusRanges.{bus_order_means}
use Rattle.judge_spec.specs.Given.{Given}
use Rattle.judge_spec.specs.Told.{IsTold}
use Rattle.judge_spec.specs.ToldClaims.{Told}
use Rattle.pci_function.specs.declared.record.Bridge.{Bridge}
use Rattle.pci_function.specs.declared.record.Record.{Record}
use Rattle.pci_function.specs.Values.{record_value}
use Rattle.pci_base.specs.declared.range.Range.{Range}
use Rattle.pci_tree.specs.declared.region.Part.TheVariants.{Window}
use Rattle.pci_tree.specs.declared.region.Region.{Region}
use Rattle.pci_tree.specs.Ways.{slots_of, secondary_in}
use Rattle.pci_tree.specs.Outline.{RiseBySlot}
use Rattle.pci_tree.proofs.Lifting.{Has, record_for, same_bridge, same_secondary, same_slot_of, one_by_number, one_function}
use Rattle.pci_claims.specs.Isa.{is_cut_region}
use Rattle.pci_claims.proofs.Founds.{none_without_record}
use Rattle.pci_map.specs.Values.{region_part, value_of}
use Rattle.pci_map.specs.declared.seat.Seat.{Seat}
use Rattle.pci_map.specs.Seats.{AreSortedSeatsOf}
use Rattle.pci_map.specs.Gaps.{AreFreeInside}
use Rattle.pci_map.specs.Above.{AreInPlace}
use Rattle.pci_map.specs.Inside.{is_held_first, IsEarlierWindow, AreInsideWindow}
use Rattle.pci_map.proofs.Insides.{is_a_bridge, inside_is}

module _ (s : System) (rs : List Record) (space : Space) (w : Region) (has : Has s rs) (iw : IsRegionIn s (value_of space w)) where
  pub no_record : (Contains (slots_of rs) w.slot → ⊥) → ⊥
  no_record none = none_without_record s rs w.slot w.reg space has none iw.f (region_part w) w.first iw.listed iw.slot iw.register ((iw.claims w.first).0 (omega arith, iw.some))

  module _ (rise : RiseBySlot rs) (window : w.part ≡ Window) (r : Record) (there : Contains rs r) (slot : r.slot ≡ w.slot) where
    stands_for : record_value r ≡ record_of iw.f
    stands_for =
        let own = record_for s rs iw.f has iw.listed in
        let slots : own.0.slot ≡ r.slot = same_slot_of own.0 iw.f own.1.same ∙ iw.slot ∙ sym slot in
        let same : own.0 ≡ r = one_by_number (λ (x : Record). slot_number x.slot) rs own.0 r rise own.1.has there (ap slot_number slots) in
        sym (ap record_value same) ∙ own.1.same

    one : (f g : Function) → Contains s f → Contains s g → f.slot ≡ g.slot → f ≡ g
    one f g in_f in_g e = one_function s rs f g has rise in_f in_g e

    bridge_is : (given : Given) → is_bridge iw.f ≡ true
    bridge_is given = is_a_bridge given s space w iw window one

    pub no_bridge : Given → r.bridge ≡ None → ⊥
    no_bridge given none = false≢true (sym (ap is_some none) ∙ same_bridge r iw.f stands_for ∙ bridge_is given)

    pub opened : (told : Told) → IsTold told.ranges → (given : Given) (roots : List ℕ) (b : Bridge) (o : Option Region) (cut : Bool) (qs out : List Seat) (runs : List Range) → IsNested roots s → r.bridge ≡ Some b → cut ≡ is_cut_region given space w
        → IsEarlierWindow s space w o → AreSortedSeatsOf told s b.secondary space qs → AreInPlace told given roots s space (filter (is_held_first w o cut) qs) out → AreFreeInside told given s b.secondary space w runs
        → AreInsideWindow record { told = told; given = given; roots = roots; system = s; space = space } w b.secondary out runs
    opened told lawful given roots b o cut qs out runs nested is cut_is early sorted placed free =
        let leads : secondary iw.f ≡ b.secondary = sym (same_secondary r iw.f stands_for (bridge_is given)) ∙ ap secondary_in is in
        let rises : iw.f.slot.bus < secondary iw.f = ((bus_order_means iw.f).0 (nested.order iw.f iw.listed (bridge_is given))).1 in
        let bus : iw.f.slot.bus ≡ w.slot.bus = ap (λ (x : Slot). x.bus) iw.slot in
        inside_is given s space w iw window one told lawful b.secondary leads qs sorted roots o cut out runs cut_is early (omega (arith, rises, bus, leads)) placed free
