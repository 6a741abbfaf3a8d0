-- The regions at a slot and register.
use Rattle.std.proofs.Common.{◌≡◌, ℕ, ◌≤◌, List, sym, ◌∙◌, ap, subst, Option, Some, None}
use Rattle.std.specs.Prelude.{MatchOption}
use Rattle.std.specs.List.{Contains}
use Rattle.std.proofs.lemmas.List.Elements.{All-contains}
use Rattle.pci_spec.specs.Slot.{Slot, slot_number}
use Rattle.pci_spec.specs.System.{System, Function, Space, Part, Claims, register_of}
use Rattle.pci_spec.specs.Decoded.{IsDecodable, record_of}
use Rattle.pci_spec.specs.Why.{IsRegionIn}
use Rattle.pci_function.specs.declared.record.Record.{Record}
use Rattle.pci_function.specs.Values.{record_value}
use Rattle.pci_tree.specs.declared.region.Region.{Region}
use Rattle.pci_tree.specs.Regions.{IsRegionOf, IsLawful, regions_of}
use Rattle.pci_tree.specs.Ways.{slots_of}
use Rattle.pci_tree.specs.Outline.{RiseBySlot}
use Rattle.pci_tree.proofs.SlotSearch.{in_slots}
use Rattle.pci_tree.proofs.Lifting.{Has, record_for, function_for, same_slot_of, one_by_number}
use Rattle.pci_tree.proofs.RegionParts.{regions_are, regions_are_all}
use Rattle.pci_tree.proofs.RegionOrder.{regions_rise}
use Rattle.pci_claims.specs.Found.{IsRegionAt, HasNoRegionAt, IsFoundIn, NoneClaims, region_of_found}

-- where no record has the slot, no function does
pub none_without_record : (s : System) (rs : List Record) (slot : Slot) (reg : ℕ) (space : Space) → Has s rs → (Contains (slots_of rs) slot → ⊥) → NoneClaims s slot reg space
none_without_record s rs slot reg space is none f part a listed at named claims =
    let r = record_for s rs f is listed in
    none (in_slots rs r.0 slot r.1.has (same_slot_of r.0 f r.1.same ∙ at))

-- a part that claims an address is a region of its function's record
region_here : (s : System) (rs : List Record) (r : Record) (slot : Slot) (reg : ℕ) (space : Space) → Has s rs → RiseBySlot rs → Contains rs r → r.slot ≡ slot → IsLawful r
    → (f : Function) (part : Part) (a : ℕ) → Contains s f → f.slot ≡ slot → register_of f part ≡ reg → Claims f part space a
    → (q : Region) × IsRegionAt r space reg q × IsRegionOf f part space q
region_here s rs r slot reg space is rise has at lawful f part a listed slot_is named claims =
    let own = record_for s rs f is listed in
    let slots : own.0.slot ≡ r.slot = same_slot_of own.0 f own.1.same ∙ slot_is ∙ sym at in
    let same : own.0 ≡ r = one_by_number (λ (x : Record). slot_number x.slot) rs own.0 r rise own.1.has has (ap slot_number slots) in
    let stands : record_value r ≡ record_of f = sym (ap record_value same) ∙ own.1.same in
    let found = regions_are_all r f part space a (All-contains IsDecodable s f is.decodable listed) stands lawful claims in
    (found.q, record { has = found.has; register = found.is.register ∙ named; some = found.is.some }, found.is)

-- where its record has no region at the register, none claims an address
pub none_in_record : (s : System) (rs : List Record) (r : Record) (slot : Slot) (reg : ℕ) (space : Space) → Has s rs → RiseBySlot rs → Contains rs r → r.slot ≡ slot → IsLawful r
    → HasNoRegionAt r space reg → NoneClaims s slot reg space
none_in_record s rs r slot reg space is rise has at lawful none f part a listed slot_is named claims =
    let here = region_here s rs r slot reg space is rise has at lawful f part a listed slot_is named claims in
    none here.0 here.1

-- the region of a record at the register is that of a part of its function
pub found_in_record : (s : System) (rs : List Record) (r : Record) (slot : Slot) (reg : ℕ) (space : Space) (q : Region) → Has s rs → RiseBySlot rs → Contains rs r → r.slot ≡ slot
    → IsLawful r → IsRegionAt r space reg q → IsFoundIn s slot reg space q
found_in_record s rs r slot reg space q is rise has at lawful here =
    let own = function_for s rs r is has in
    let part = regions_are r own.0 space q (All-contains IsDecodable s own.0 is.decodable own.1) own.2 lawful here.has in
    record {
      f = own.0;
      part = part.0;
      listed = own.1;
      is = part.1;
      slot_is = part.1.slot ∙ sym (same_slot_of r own.0 own.2) ∙ at;
      register = here.register;
      all = λ g other a listed slot_is named claims. (
          let there = region_here s rs r slot reg space is rise has at lawful g other a listed slot_is named claims in
          let same : there.0 ≡ q = one_by_number (λ (x : Region). x.reg) (regions_of r space) there.0 q (regions_rise r own.0 space own.2) there.1.has here.has (there.1.register ∙ sym here.register) in
          subst (λ (x : Region). (x.first ≤ a) × (a ≤ x.last)) same ((there.2.claims a).1 claims));
    }

pub found_or_none : (s : System) (rs : List Record) (r : Record) (slot : Slot) (reg : ℕ) (space : Space) (o : Option Region) → Has s rs → RiseBySlot rs → Contains rs r → r.slot ≡ slot
    → IsLawful r → MatchOption o (HasNoRegionAt r space reg) (λ q. IsRegionAt r space reg q) → MatchOption o (NoneClaims s slot reg space) (λ q. IsFoundIn s slot reg space q)
found_or_none s rs r slot reg space None is rise has at lawful none = none_in_record s rs r slot reg space is rise has at lawful none
found_or_none s rs r slot reg space (Some q) is rise has at lawful here = found_in_record s rs r slot reg space q is rise has at lawful here

-- such a region is one of the system
pub region_in : (s : System) (f : Function) (part : Part) (space : Space) (q : Region) → Contains s f → IsRegionOf f part space q → IsRegionIn s (region_of_found q part space)
region_in s f part space q listed is = record {
  f = f;
  listed = listed;
  slot = sym is.slot;
  register = sym is.register;
  prefetchable = sym is.prefetch;
  some = is.some;
  claims = is.claims;
}
