-- Whether Command of the function at a slot enables a space, by its record.
use Rattle.std.proofs.Common.{◌≡◌, inl, inr, List, Bool, true, false, ◌&&◌, map, sym, ◌∙◌, ap, subst}
use Rattle.std.specs.List.{Contains}
use Rattle.std.proofs.lemmas.Bool.{cases_Bool, both_ways, and_parts, and_from, false_from_ne_true}
use Rattle.pci_spec.specs.Slot.{Slot, same_slot, slot_number}
use Rattle.pci_spec.specs.Decoded.{HasRecords}
use Rattle.pci_spec.specs.Decoded as decoded
use Rattle.pci_spec.specs.System.{System, Function, Space, IsSystem, is_space_on}
use Rattle.pci_spec.proofs.BusRanges.{any_gives, any_from}
use Rattle.pci_spec.proofs.Members.{in_map_from}
use Rattle.pci_spec.proofs.Nesting.{one_function}
use Rattle.pci_spec.proofs.SameSlot.{slot_itself, slots_same}
use Rattle.judge_spec.specs.ToldClaims.{is_enabled_at}
use Rattle.pci_base.specs.Space.{is_on}
use Rattle.pci_function.specs.Values.{record_value}
use Rattle.pci_function.specs.declared.record.Record.{Record}
use Rattle.pci_tree.specs.Ways.{slots_of}
use Rattle.pci_tree.proofs.Lifting.{record_for, function_for, same_slot_of}
use Rattle.pci_kept.proofs.OfRecord.{on_is}

module _ (s : System) (system : IsSystem s) (records : List Record) (has : HasRecords s (map record_value records)) (slot : Slot) (space : Space) where
  abbrev enables : Function → Bool
  enables f = same_slot f.slot slot && is_space_on f space

  pub none_enables : (Contains (slots_of records) slot → ⊥) → is_enabled_at s slot space ≡ false
  none_enables none = false_from_ne_true (is_enabled_at s slot space) (λ found.
      let of = any_gives enables s found in
      let same = slots_same of.0.slot slot (and_parts (same_slot of.0.slot slot) (is_space_on of.0 space) of.2).0 in
      let r = record_for s records of.0 has of.1 in
      none (subst (Contains (slots_of records)) (same_slot_of r.0 of.0 r.1.same ∙ same) (in_map_from (λ (x : Record). x.slot) records r.0 r.1.has)))

  pub its_command : (r : Record) (on : Bool) → Contains records r → r.slot ≡ slot → on ≡ is_on r.command space → is_enabled_at s slot space ≡ on
  its_command r on there at is =
      let of = function_for s records r has there in
      let f = of.0 in
      let on_f : is_space_on f space ≡ on = sym (on_is r.command f space (ap (λ (x : decoded.Record). x.command) of.2)) ∙ sym is in
      let at_f : f.slot ≡ slot = sym (same_slot_of r f of.2) ∙ at in
      elim (cases_Bool on) [
        | inl is_so ↦ any_from enables s f of.1 (and_from (same_slot f.slot slot) (is_space_on f space) (ap (λ x. same_slot x slot) at_f ∙ slot_itself slot) (on_f ∙ is_so)) ∙ sym is_so
        | inr not_so ↦ false_from_ne_true (is_enabled_at s slot space) (λ found.
            let by = any_gives enables s found in
            let g = by.0 in
            let parts = and_parts (same_slot g.slot slot) (is_space_on g space) by.2 in
            let one = one_function s system g f by.1 of.1 (ap slot_number (slots_same g.slot slot parts.0 ∙ sym at_f)) in
            both_ways (is_space_on f space) (on_f ∙ not_so) (subst (λ (x : Function). is_space_on x space ≡ true) one parts.1)) ∙ sym not_so
      ]
