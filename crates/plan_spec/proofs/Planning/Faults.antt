-- Which faults moving can't bring.
use Rattle.std.proofs.Common.{◌≡◌, ℕ, List, ◌<◌, sym, ◌∙◌, ap, subst, false, true, refl}
use Rattle.std.specs.List.{AllZip}
use Rattle.std.proofs.lemmas.Bool.{both_ways}
use Rattle.std.proofs.lemmas.List.Elements.{All-contains}
use Rattle.pci_spec.specs.Slot.{Slot}
use Rattle.pci_spec.specs.Header.{layout, bar_count, rom_register}
use Rattle.pci_spec.specs.Bar.{BarFault, bar_fault}
use Rattle.pci_spec.specs.Bar as bars
use Rattle.pci_spec.specs.System.{System, IsSystem, IsFunction, is_bridge}
use Rattle.pci_spec.specs.Fault.{Fault, NoVendor, HeaderKind, BarType, BarMask, BarPair, RomMask, WindowMask, CapRange, CapLoop, CapCut, SlotsDiffer, StrayProbe, LoneFunction, OfProfile, BusRange, Orphan, Unreached, Clash, Split, IsIn, SomeAt, HasBarFault, HasRomFault, HasWindowFault}
use Rattle.plan_spec.specs.Plan.{IsMoved}
use Rattle.pci_spec.specs.Sound.{is_of_profile, HasChains, IsInProfile}
use Rattle.plan_spec.proofs.Planning.Moved.{layout_same, bridge_same}
use Rattle.plan_spec.proofs.Planning.Kept.{images_of}
use Rattle.pci_spec.proofs.Pairs.{member_back}
use Rattle.pci_spec.proofs.ProfileFaults.{profile_kept}
use Rattle.plan_spec.proofs.Planning.BarFaults.{bar_fault_same}
use Rattle.plan_spec.proofs.Planning.OtherRules.{rom_rule_same, window_rule_same}
use Rattle.plan_spec.proofs.Planning.ShownSame.{shows_same}
use Rattle.plan_spec.proofs.Planning.Profile.{some_before, no_vendor_before, kind_before, stray_before, lone_before}

module _ (roots : List ℕ) (s t : System) (system : IsSystem s) (chains : HasChains s) (pairs : AllZip IsMoved s t) where
  bar_before : (slot : Slot) (register : ℕ) (fault : BarFault) → SomeAt t slot (λ f. HasBarFault f.image f.probe register fault) → SomeAt s slot (λ f. HasBarFault f.image f.probe register fault)
  bar_before slot register fault there =
      let g = there.0 in
      let found = member_back IsMoved s t pairs g there.1 in
      let f = found.0 in
      let m = found.2 in
      let listed = found.1 in
      let is : IsFunction f = All-contains IsFunction s f system.each listed in
      let h = there.3 in
      let inside : h.0 < bar_count (layout f.image) = subst (λ k. h.0 < bar_count k) (layout_same f g m is.image) h.1 in
      (f, (listed.0, listed.1, listed.2), sym m.slot ∙ there.2, (h.0, inside, h.2, sym (bar_fault_same f g m is.image is.probe h.0 inside) ∙ h.3))

  pub fault_before : (fault : Fault) → is_of_profile fault ≡ true → IsIn roots t fault → IsIn roots s fault
  fault_before (NoVendor slot) k there = no_vendor_before roots s t system pairs slot there
  fault_before (HeaderKind slot) k there = kind_before roots s t system pairs slot there
  fault_before (BarType slot register) k there = bar_before slot register bars.BarType there
  fault_before (BarMask slot register) k there = bar_before slot register bars.BarMask there
  fault_before (BarPair slot register) k there = bar_before slot register bars.BarPair there
  fault_before (RomMask slot register) k there = some_before s t system pairs slot (λ f. HasRomFault f.image f.probe register) (λ f. HasRomFault f.image f.probe register)
      (λ f g m is h. (h.0 ∙ ap rom_register (layout_same f g m is), sym (rom_rule_same f g m is) ∙ h.1)) there
  fault_before (WindowMask slot register) k there = some_before s t system pairs slot (λ f. HasWindowFault f.image f.probe register) (λ f. HasWindowFault f.image f.probe register)
      (λ f g m is h.
      let bridge : is_bridge f ≡ true = sym (bridge_same f g m is) ∙ h.1 in
      (h.0, bridge, h.2, sym (window_rule_same f g m is bridge h.0) ∙ h.3)) there
  fault_before (CapRange slot place) k there = absurd (both_ways false refl k)
  fault_before (CapLoop slot place) k there = absurd (both_ways false refl k)
  fault_before (CapCut slot place) k there = absurd (both_ways false refl k)
  fault_before (SlotsDiffer slot) k there = there
  fault_before (StrayProbe slot offset) k there = stray_before roots s t system pairs slot offset there
  fault_before (LoneFunction slot) k there = lone_before roots s t system pairs slot there
  fault_before (OfProfile fault slot) k there =
      let found = member_back IsMoved s t pairs there.0 there.1 in
      let listed = found.1 in
      let same = shows_same found.0 there.0 found.2 (images_of s system found.0 found.1) (chains found.0 found.1) in
      (found.0, (listed.0, listed.1, listed.2), sym found.2.slot ∙ there.2, profile_kept found.0.image there.0.image same fault there.3)
  fault_before (BusRange slot) k there = absurd (both_ways false refl k)
  fault_before (Orphan slot) k there = absurd (both_ways false refl k)
  fault_before (Unreached slot register space address bridge) k there = absurd (both_ways false refl k)
  fault_before (Clash bus space address first first_register second second_register) k there = absurd (both_ways false refl k)
  fault_before (Split space address first first_register second second_register) k there = absurd (both_ways false refl k)

  pub moved_profile : IsInProfile roots s → IsInProfile roots t
  moved_profile profile fault number there = profile fault number (fault_before fault number there)
