-- A system is sound with what is told exactly where no fault is there.
use Rattle.std.proofs.Common.{ℕ, inl, inr, List, refl}
use Rattle.std.specs.List.{Contains}
use Rattle.std.proofs.lemmas.List.Elements.{All-contains}
use Rattle.pci_spec.specs.Number.{IsImage}
use Rattle.pci_spec.specs.Slot.{Slot}
use Rattle.pci_spec.specs.System.{System, Function, IsSystem, IsFunction}
use Rattle.pci_spec.specs.Fault.{NoVendor, HeaderKind, BarType, BarMask, BarPair, RomMask, WindowMask, CapRange, CapLoop, CapCut, SlotsDiffer, StrayProbe, LoneFunction, OfProfile, BusRange, Orphan, Unreached, Clash, Split, address_in, named_region, named_regions}
use Rattle.pci_spec.specs.Fault as plain
use Rattle.pci_spec.proofs.Nesting.{no_bus_fault_where_nested}
use Rattle.pci_spec.proofs.Chains.{chain_without_faults}
use Rattle.judge_spec.specs.Given.{Given}
use Rattle.judge_spec.specs.Fault as untold_fault
use Rattle.judge_spec.specs.Told.{IsTold}
use Rattle.judge_spec.specs.ToldClaims.{Told}
use Rattle.judge_spec.specs.ToldFault.{Fault, Known, NotListed, IsIn, IsPlainIn, IsNotListed}
use Rattle.judge_spec.specs.ToldAllFaults.{IsNamed}
use Rattle.judge_spec.specs.ToldSound.{IsSound}
use Rattle.judge_spec.specs.ToldJudgingLaws.{ToldSoundWithoutFaults}
use Rattle.judge_spec.proofs.Judging.{sound_without_faults}
use Rattle.judge_spec.proofs.ToldAdds.{told_only_adds}
use Rattle.judge_spec.proofs.ToldEmpty.{single, home, no_outside, no_unreached, no_clash, no_split}

module _ (told : Told) (given : Given) (roots : List ℕ) (s : System) (is_told : IsTold told.ranges) (system : IsSystem s) where
  -- what a list of all names is there
  named_in : (fault : untold_fault.Fault) → IsNamed told given roots s fault → IsIn told given roots s (Known fault)
  named_in (untold_fault.Known known) = elim known as (λ known. IsNamed told given roots s (untold_fault.Known known) → IsIn told given roots s (Known (untold_fault.Known known))) [
    | Unreached slot register space a bridge ↦ λ line. line.there
    | Clash bus space a first fr second sr ↦ λ line. line.there
    | Split space a first fr second sr ↦ λ line. line.there
    | _ ↦ λ line. absurd line
  ]
  named_in (untold_fault.Outside slot register space a) = λ line. line.there

  sound_of_none : ((fault : Fault) → IsIn told given roots s fault → ⊥) → IsSound told given roots s
  sound_of_none none =
      let untold = (sound_without_faults given roots s system).1 (λ fault there. none (Known fault) (told_only_adds told given roots s fault there)) in
      let none_named = λ (fault : untold_fault.Fault) (named : IsNamed told given roots s fault). none (Known fault) (named_in fault named) in
      let listed = λ (slot : Slot) (not : IsNotListed told s slot). none (NotListed slot) not in
      record {
        single = single told given roots s is_told system none_named;
        home = home told given roots s is_told system untold.nested none_named listed;
        nested = untold.nested;
        profile = untold.profile;
        chains = untold.chains;
        listed = listed;
        led_to = λ slot orphan. none (Known (untold_fault.Known (Orphan slot))) (inr orphan);
      }

  image_of : (f : Function) → Contains s f → IsImage f.image
  image_of f listed = (All-contains IsFunction s f system.each listed).image

  none_plain : IsSound told given roots s → (fault : plain.Fault) → IsPlainIn told given roots s fault → ⊥
  none_plain sound (CapRange slot place) (f, listed, at, low) = ((chain_without_faults f.image (image_of f listed)).0 (sound.chains f listed)).high place low
  none_plain sound (CapLoop slot place) (f, listed, at, twice) = ((chain_without_faults f.image (image_of f listed)).0 (sound.chains f listed)).once place twice
  none_plain sound (CapCut slot place) (f, listed, at, cut) = ((chain_without_faults f.image (image_of f listed)).0 (sound.chains f listed)).whole place cut
  none_plain sound (BusRange slot) there = (no_bus_fault_where_nested roots s sound.nested slot).0 there
  none_plain sound (Orphan slot) (inl there) = (no_bus_fault_where_nested roots s sound.nested slot).1 there
  none_plain sound (Orphan slot) (inr held) = sound.led_to slot held
  none_plain sound (Unreached slot register space a bridge) there = no_unreached told given roots s is_told system sound.nested sound.home (named_region slot register) space a bridge there
  none_plain sound (Clash bus space a first fr second sr) there = no_clash told given roots s is_told system sound.nested sound.single bus (address_in space a) (named_regions first fr second sr) there
  none_plain sound (Split space a first fr second sr) there = no_split told given roots s is_told system sound.nested sound.single (address_in space a) (named_regions first fr second sr) there
  none_plain sound (NoVendor slot) there = sound.profile (NoVendor slot) refl there
  none_plain sound (HeaderKind slot) there = sound.profile (HeaderKind slot) refl there
  none_plain sound (BarType slot register) there = sound.profile (BarType slot register) refl there
  none_plain sound (BarMask slot register) there = sound.profile (BarMask slot register) refl there
  none_plain sound (BarPair slot register) there = sound.profile (BarPair slot register) refl there
  none_plain sound (RomMask slot register) there = sound.profile (RomMask slot register) refl there
  none_plain sound (WindowMask slot register) there = sound.profile (WindowMask slot register) refl there
  none_plain sound (SlotsDiffer slot) there = there
  none_plain sound (StrayProbe slot offset) there = sound.profile (StrayProbe slot offset) refl there
  none_plain sound (LoneFunction slot) there = sound.profile (LoneFunction slot) refl there
  none_plain sound (OfProfile fault slot) there = sound.profile (OfProfile fault slot) refl there

  none_there : IsSound told given roots s → (fault : Fault) → IsIn told given roots s fault → ⊥
  none_there sound (Known (untold_fault.Known fault)) there = none_plain sound fault there
  none_there sound (Known (untold_fault.Outside slot register space a)) there = no_outside told given roots s is_told system sound.nested sound.home (named_region slot register) space a there
  none_there sound (NotListed slot) there = sound.listed slot there

pub told_sound_without_faults : ToldSoundWithoutFaults
told_sound_without_faults told given roots s is_told system = (
  λ (sound : IsSound told given roots s). none_there told given roots s is_told system sound,
  λ (none : (fault : Fault) → IsIn told given roots s fault → ⊥). sound_of_none told given roots s is_told system none,
)
