-- What stands in the way of judging, with what is told: slots that aren't listed, and held ranges to which no bridge leads.
use Rattle.std.proofs.Common.{◌≡◌, ℕ, inl, inr, Bool, true, false, List, refl, sym, ◌∙◌, ap, subst}
use Rattle.std.specs.Prelude.{◌||◌, not, IsTrue}
use Rattle.std.specs.List.{Contains, list_any}
use Rattle.std.proofs.lemmas.Bool.{cases_Bool, both_ways, or_parts}
use Rattle.pci_spec.specs.Slot.{Slot}
use Rattle.pci_spec.specs.Text.{Block, slots_of}
use Rattle.pci_spec.specs.System.{System, system_of}
use Rattle.pci_spec.specs.Bus.{is_root, is_led_to}
use Rattle.pci_spec.proofs.BusRanges.{root_means}
use Rattle.pci_spec.proofs.Pairing.{same_length, slots-system_of}
use Rattle.judge_spec.specs.ToldClaims.{Told}
use Rattle.judge_spec.specs.ToldFault.{IsNotListed, IsHeldOrphan}
use Rattle.judge_spec.specs.ToldFaultLines.{AreNotListed}
use Rattle.pci_faults.specs.Before.{leads_to, IsOfSome, AreSlotsOf, IsOfNoFunction, IsOfNoBus}
use Rattle.pci_faults.proofs.Leading.{led_by_system}

module _ (told : Told) (dump probe : List Block) (same : slots_of dump ≡ slots_of probe) where
  abbrev s : System
  s = system_of dump probe

  -- ---- 34

  pub not_listed_to : (slot : Slot) → IsOfSome (IsOfNoFunction dump) told.ranges slot → IsNotListed told s slot
  not_listed_to slot is = record {
    r = is.r;
    is_told = is.is_told;
    not_held = is.is.not_held;
    of_slot = is.of_slot;
    not_listed = λ has. is.is.not_listed (subst (λ x. Contains (slots_of dump) x) (sym is.of_slot) (subst (λ (l : List Slot). Contains l slot) (slots-system_of dump probe same) has));
  }

  pub not_listed_from : (slot : Slot) → IsNotListed told s slot → IsOfSome (IsOfNoFunction dump) told.ranges slot
  not_listed_from slot not = record {
    r = not.r;
    is_told = not.is_told;
    of_slot = not.of_slot;
    is = record {
      not_held = not.not_held;
      not_listed = λ has. not.not_listed (subst (λ (l : List Slot). Contains l slot) (sym (slots-system_of dump probe same)) (subst (λ x. Contains (slots_of dump) x) not.of_slot has));
    };
  }

  pub all_not_listed : (slots : List Slot) → AreSlotsOf (IsOfNoFunction dump) told.ranges slots → AreNotListed told dump probe slots
  all_not_listed slots all = record {
    each = λ slot has. not_listed_to slot (all.each slot has);
    complete = λ slot not. all.complete slot (not_listed_from slot not);
    rising = all.rising;
  }

  -- ---- 58

  module _ (roots : List ℕ) where
    led_on : (bus : ℕ) → is_led_to roots s bus ≡ (is_root roots bus || list_any (leads_to bus) dump)
    led_on bus = ap (λ x. is_root roots bus || x) (led_by_system dump probe (same_length dump probe same) bus)

    no_root : (bus : ℕ) → (Contains roots bus → ⊥) → is_root roots bus ≡ false
    no_root bus none = elim (cases_Bool (is_root roots bus)) [ inl on ↦ absurd (none ((root_means roots bus).0 on)) | inr off ↦ off ]

    not_led : (bus : ℕ) → (Contains roots bus → ⊥) → list_any (leads_to bus) dump ≡ false → IsTrue (not (is_led_to roots s bus))
    not_led bus none no_bridge = ap not (led_on bus ∙ ap (λ x. x || list_any (leads_to bus) dump) (no_root bus none) ∙ no_bridge)

    pub orphan_to : (slot : Slot) → IsOfSome (IsOfNoBus roots dump) told.ranges slot → IsHeldOrphan told roots s slot
    orphan_to slot is = record {
      r = is.r;
      is_told = is.is_told;
      held = is.is.held;
      of_slot = is.of_slot;
      not_led_to = subst (λ (x : Slot). IsTrue (not (is_led_to roots s x.bus))) is.of_slot (not_led is.r.slot.bus is.is.no_root is.is.no_bridge);
    }

    -- where its slot isn't listed
    pub orphan_from : (slot : Slot) → (Contains (slots_of dump) slot → ⊥) → IsHeldOrphan told roots s slot → IsOfSome (IsOfNoBus roots dump) told.ranges slot
    orphan_from slot unlisted orphan =
        let off : is_led_to roots s orphan.r.slot.bus ≡ false = not_not (is_led_to roots s orphan.r.slot.bus) (subst (λ (x : Slot). IsTrue (not (is_led_to roots s x.bus))) (sym orphan.of_slot) orphan.not_led_to) in
        let parts = or_parts (is_root roots orphan.r.slot.bus) (list_any (leads_to orphan.r.slot.bus) dump) (sym (led_on orphan.r.slot.bus) ∙ off) in
        record {
          r = orphan.r;
          is_told = orphan.is_told;
          of_slot = orphan.of_slot;
          is = record {
            held = orphan.held;
            no_root = λ has. both_ways (is_root roots orphan.r.slot.bus) parts.0 ((root_means roots orphan.r.slot.bus).1 has);
            no_bridge = parts.1;
            not_listed = λ has. unlisted (subst (λ x. Contains (slots_of dump) x) orphan.of_slot has);
          };
        }
      where
        not_not : (b : Bool) → not b ≡ true → b ≡ false
        not_not true e = absurd (both_ways false refl e)
        not_not false e = refl
