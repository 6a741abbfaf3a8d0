-- Records in their places make an outline: the bridges among them lead to buses of their own.
use Rattle.std.proofs.Common.{◌≡◌, ◌≢◌, ℕ, zero, suc, ◌+◌, ◌<◌, ◌≤◌, List, [], ◌∷◌, ◌++◌, map, refl, false, inl, inr, arith, sym, ◌∙◌, ap, subst, Option, Some, None}
use Rattle.std.specs.Prelude.{IsTrue, ◌==◌, nat_lt}
use Rattle.std.specs.Option.{is_some}
use Rattle.std.specs.List.{All, Contains}
use Rattle.std.proofs.lemmas.Bool.{or_cases, ltb-true, false_from_ne_true, cases_eq}
use Rattle.std.proofs.lemmas.List.Elements.{All-contains}
use Rattle.pci_spec.specs.Slot.{IsSlot, slot_number}
use Rattle.pci_spec.specs.Header.{layout, primary_bus, secondary_bus, subordinate_bus}
use Rattle.pci_spec.specs.System.{System, Function, is_bridge}
use Rattle.pci_spec.specs.Bus.{secondary, subordinate, is_behind, IsNested}
use Rattle.pci_spec.proofs.BusRanges.{bus_order_means, within_of_behind, IsWithin}
use Rattle.pci_spec.proofs.Members.{IsMade, in_map_to, in_map_from, pairs_map}
use Rattle.pci_function.specs.declared.record.Bridge.{Bridge}
use Rattle.pci_function.specs.declared.record.Record.{Record}
use Rattle.pci_tree.specs.Ways.{secondary_in, bus_behind, IsBridgeIn, Leads, IsForest, AreClear, IsUnled}
use Rattle.pci_tree.specs.Regions.{IsLawful}
use Rattle.pci_tree.specs.Outline.{RiseBySlot, IsOutline}
use Rattle.pci_tree.specs.BusNumbers.{IsInPlace, IsLedTo, HasLawfulBuses, HasBusOrder}
use Rattle.pci_tree.proofs.Leaders.{bridge_of}
use Rattle.pci_tree.proofs.Regions.{some_is}
use Rattle.pci_tree.proofs.Reaching.{leads_push}
use Rattle.pci_tree.proofs.Lifting.{one_by_number}
use Rattle.pci_tree.proofs.Faces.{SameFace, HaveFaces}
use Rattle.pci_tree.proofs.Places.{nested_faces, nested_in_places}

-- ---- functions with the bus numbers of records

-- bytes that show the bus numbers of a bridge
shadow_bytes : Option Bridge → List ℕ
shadow_bytes None = []
shadow_bytes (Some b) =
    0 ∷ 0 ∷ 0 ∷ 0 ∷ 0 ∷ 0 ∷ 0 ∷ 0 ∷ 0 ∷ 0 ∷ 0 ∷ 0 ∷ 0 ∷ 0 ∷ 1 ∷ 0 ∷ 0 ∷ 0 ∷ 0 ∷ 0 ∷ 0 ∷ 0 ∷ 0 ∷ 0 ∷ b.primary ∷ b.secondary ∷ b.subordinate ∷ []

abbrev shadow : Record → Function
shadow r = record { slot = r.slot; image = shadow_bytes r.bridge; probe = [] }

shadow_is : (o : Option Bridge) → is_some o ≡ (layout (shadow_bytes o) == 1)
unfolding shadow_bytes
shadow_is None = refl
shadow_is (Some b) = refl

shadow_primary : (o : Option Bridge) (d : Bridge) → o ≡ Some d → d.primary ≡ primary_bus (shadow_bytes o)
unfolding shadow_bytes
shadow_primary o d e = sym (ap (λ x. primary_bus (shadow_bytes x)) e)

shadow_secondary : (o : Option Bridge) → secondary_bus (shadow_bytes o) ≡ secondary_in o
unfolding shadow_bytes
shadow_secondary None = refl
shadow_secondary (Some b) = refl

shadow_subordinate : (o : Option Bridge) (d : Bridge) → o ≡ Some d → d.subordinate ≡ subordinate_bus (shadow_bytes o)
unfolding shadow_bytes
shadow_subordinate o d e = sym (ap (λ x. subordinate_bus (shadow_bytes x)) e)

shadow_face : (r : Record) → SameFace (shadow r) r
shadow_face r = record {
  slot = refl;
  bridge = shadow_is r.bridge;
  numbers = λ d some. (shadow_primary r.bridge d some, sym (shadow_secondary r.bridge ∙ ap secondary_in some), shadow_subordinate r.bridge d some);
}

shadow_faces : (rs : List Record) → HaveFaces (map shadow rs) rs
shadow_faces rs = record {
  to_record = λ f has. (let made : IsMade shadow rs f = in_map_to shadow rs f has in (made.from, made.has, subst (λ g. SameFace g made.from) made.is (shadow_face made.from)));
  to_function = λ r has. (shadow r, in_map_from shadow rs r has, shadow_face r);
}

shadows_nest : (roots : List ℕ) (rs : List Record) → RiseBySlot rs → All (IsInPlace roots rs) rs → IsNested roots (map shadow rs)
shadows_nest roots rs rise places =
    nested_faces roots (map shadow rs) rs (shadow_faces rs)
    (λ b c in_b in_c e. one_by_number (λ (h : Function). slot_number h.slot) (map shadow rs) b c (pairs_map (λ (f g : Function). slot_number f.slot < slot_number g.slot) shadow rs rise) in_b in_c e)
    places

-- ---- where buses nest, no two bridges lead to one bus

secondaries_differ : (roots : List ℕ) (s : System) (b c : Function) → IsNested roots s → Contains s b → Contains s c → IsTrue (is_bridge b) → IsTrue (is_bridge c)
    → b.slot ≢ c.slot → secondary_bus b.image ≢ secondary_bus c.image
secondaries_differ roots s b c nested in_b in_c is_b is_c differ same =
    let ob : (primary_bus b.image ≡ b.slot.bus) × (b.slot.bus < secondary b) × (secondary b ≤ subordinate b) = (bus_order_means b).0 (nested.order b in_b is_b) in
    let oc : (primary_bus c.image ≡ c.slot.bus) × (c.slot.bus < secondary c) × (secondary c ≤ subordinate c) = (bus_order_means c).0 (nested.order c in_c is_c) in
    let lb : b.slot.bus < secondary_bus b.image = ob.1 in
    let lc : c.slot.bus < secondary_bus c.image = oc.1 in
    let hb : secondary_bus b.image ≤ subordinate_bus b.image = ob.2 in
    let hc : secondary_bus c.image ≤ subordinate_bus c.image = oc.2 in
    let nb : is_behind c b.slot.bus ≡ false = false_from_ne_true (is_behind c b.slot.bus)
    (λ h. (let w : IsWithin c b.slot.bus = within_of_behind c b.slot.bus h in let low : secondary_bus c.image ≤ b.slot.bus = w.low in let no : ⊥ = omega arith in no)) in
    let nc : is_behind b c.slot.bus ≡ false = false_from_ne_true (is_behind b c.slot.bus)
    (λ h. (let w : IsWithin b c.slot.bus = within_of_behind b c.slot.bus h in let low : secondary_bus b.image ≤ c.slot.bus = w.low in let no : ⊥ = omega arith in no)) in
    elim (or_cases (nat_lt (subordinate b) (secondary c)) (nat_lt (subordinate c) (secondary b)) (nested.apart b c in_b in_c is_b is_c differ nb nc)) [
      | inl l ↦ (let lt : subordinate_bus b.image < secondary_bus c.image = ltb-true _ _ l in omega arith)
      | inr r ↦ (let lt : subordinate_bus c.image < secondary_bus b.image = ltb-true _ _ r in omega arith)
    ]

-- ---- the outline

-- the bus numbers of a bridge in its place
record LawfulAt (roots : List ℕ) (rs : List Record) (b : Record) : Type 0 where
  d : Bridge
  is : b.bridge ≡ Some d
  there : bus_behind b ≡ d.secondary
  lawful : HasLawfulBuses roots rs b.slot d

lawful_at : (roots : List ℕ) (rs : List Record) (b : Record) → All (IsInPlace roots rs) rs → IsBridgeIn rs b → LawfulAt roots rs b
lawful_at roots rs b places bridge =
    let d : (d : Bridge) × (b.bridge ≡ Some d) = some_is b.bridge bridge.is in
    let p : IsInPlace roots rs b = All-contains (IsInPlace roots rs) rs b places bridge.has in
    record { d = d.0; is = d.1; there = ap secondary_in d.1; lawful = p.buses d.0 d.1 }

forest_in_places : (roots : List ℕ) (rs : List Record) → RiseBySlot rs → All (IsInPlace roots rs) rs → IsForest rs
forest_in_places roots rs rise places = record {
  rises = λ b bridge. (let at : LawfulAt roots rs b = lawful_at roots rs b places bridge in
      let order : HasBusOrder b.slot.bus at.d = at.lawful.order in let there : bus_behind b ≡ at.d.secondary = at.there in omega arith);
  single = λ b c bridge_b bridge_c same. elim (cases_eq (slot_number b.slot) (slot_number c.slot)) [
    | inl e ↦ one_by_number (λ (r : Record). slot_number r.slot) rs b c rise bridge_b.has bridge_c.has e
    | inr ne ↦ absurd (
        secondaries_differ roots (map shadow rs) (shadow b) (shadow c) (shadows_nest roots rs rise places)
        (in_map_from shadow rs b bridge_b.has) (in_map_from shadow rs c bridge_c.has) (sym (shadow_is b.bridge) ∙ bridge_b.is) (sym (shadow_is c.bridge) ∙ bridge_c.is)
        (λ e. ne (ap slot_number e)) (shadow_secondary b.bridge ∙ same ∙ sym (shadow_secondary c.bridge)))
  ];
}

clear_in_places : (roots : List ℕ) (rs : List Record) → All (IsInPlace roots rs) rs → AreClear roots rs
clear_in_places roots rs places b bridge root =
    let at : LawfulAt roots rs b = lawful_at roots rs b places bridge in
    let order : HasBusOrder b.slot.bus at.d = at.lawful.order in
    let there : bus_behind b ≡ at.d.secondary = at.there in
    at.lawful.clear (bus_behind b) root (omega arith, omega arith)

-- to the bus of a function in its place a list of bridges leads from a root, by the number of the bus
led_below : (n bus : ℕ) (roots : List ℕ) (rs : List Record) → All (IsInPlace roots rs) rs → bus < n → IsLedTo roots rs bus → IsUnled rs roots bus → ⊥
led_below zero bus roots rs places lt led unled = omega arith
led_below (suc n) bus roots rs places lt led unled = elim led [
  | inl root ↦ unled bus [] root refl
  | inr leader ↦ (
      let c : Record = leader.c in
      let (bridge, behind) = bridge_of rs bus leader in
      let at : LawfulAt roots rs c = lawful_at roots rs c places bridge in
      let order : HasBusOrder c.slot.bus at.d = at.lawful.order in
      let there : bus_behind c ≡ at.d.secondary = at.there in
      let p : IsInPlace roots rs c = All-contains (IsInPlace roots rs) rs c places bridge.has in
      led_below n c.slot.bus roots rs places (omega arith) p.led
      (λ root way starts leads. unled root (way ++ c ∷ []) starts (subst (λ m. Leads rs root (way ++ c ∷ []) m) behind (leads_push rs root way c bridge leads))))
]

-- records in their places make an outline
pub outline_in_places : (roots : List ℕ) (rs : List Record) → All (λ r. IsSlot r.slot) rs → RiseBySlot rs → All IsLawful rs → All (IsInPlace roots rs) rs → IsOutline roots rs
outline_in_places roots rs slots rise lawful places = record {
  slots = slots;
  rising = rise;
  forest = forest_in_places roots rs rise places;
  clear = clear_in_places roots rs places;
  led = λ r has unled. (let p : IsInPlace roots rs r = All-contains (IsInPlace roots rs) rs r places has in led_below (r.slot.bus + 1) r.slot.bus roots rs places (omega arith) p.led unled);
  lawful = lawful;
  nested = λ s has. nested_in_places roots s rs has rise places;
}
