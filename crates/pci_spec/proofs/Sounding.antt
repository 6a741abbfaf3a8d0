-- A system is sound exactly where no fault is there.
use Rattle.std.proofs.Common.{ℕ, List, refl}
use Rattle.std.specs.List.{Contains}
use Rattle.std.proofs.lemmas.List.Elements.{All-contains}
use Rattle.pci_spec.specs.Number.{IsImage}
use Rattle.pci_spec.specs.System.{System, IsSystem, IsFunction, Function}
use Rattle.pci_spec.specs.Fault.{Fault, IsIn, NoVendor, HeaderKind, BarType, BarMask, BarPair, RomMask, WindowMask, CapRange, CapLoop, CapCut, SlotsDiffer, StrayProbe, LoneFunction, OfProfile, BusRange, Orphan, Unreached, Clash, Split}
use Rattle.pci_spec.specs.Sound.{IsSound}
use Rattle.pci_spec.specs.SoundLaws.{SoundWithoutFaults}
use Rattle.pci_spec.proofs.Nesting.{nested_without_bus_faults, no_bus_fault_where_nested}
use Rattle.pci_spec.proofs.Chains.{chain_without_faults}
use Rattle.pci_spec.proofs.Verdicts.{single_without_clashes, home_without_unreached}

image_of : (s : System) → IsSystem s → (f : Function) → Contains s f → IsImage f.image
image_of s system f listed = (All-contains IsFunction s f system.each listed).image

-- a sound system has none of the faults
none_there : (roots : List ℕ) (s : System) → IsSystem s → IsSound roots s → (fault : Fault) → IsIn roots s fault → ⊥
none_there roots s system sound (CapRange slot place) (f, listed, at, low) = ((chain_without_faults f.image (image_of s system f listed)).0 (sound.chains f listed)).high place low
none_there roots s system sound (CapLoop slot place) (f, listed, at, twice) = ((chain_without_faults f.image (image_of s system f listed)).0 (sound.chains f listed)).once place twice
none_there roots s system sound (CapCut slot place) (f, listed, at, cut) = ((chain_without_faults f.image (image_of s system f listed)).0 (sound.chains f listed)).whole place cut
none_there roots s system sound (BusRange slot) there = (no_bus_fault_where_nested roots s sound.nested slot).0 there
none_there roots s system sound (Orphan slot) there = (no_bus_fault_where_nested roots s sound.nested slot).1 there
none_there roots s system sound (Unreached slot register space address bridge) there =
    (home_without_unreached roots s system sound.nested).0 sound.home slot register space address bridge there
none_there roots s system sound (Clash bus space address first first_register second second_register) there =
    ((single_without_clashes roots s).0 sound.single).0 bus space address first first_register second second_register there
none_there roots s system sound (Split space address first first_register second second_register) there =
    ((single_without_clashes roots s).0 sound.single).1 space address first first_register second second_register there
none_there roots s system sound (NoVendor slot) there = sound.profile (NoVendor slot) refl there
none_there roots s system sound (HeaderKind slot) there = sound.profile (HeaderKind slot) refl there
none_there roots s system sound (BarType slot register) there = sound.profile (BarType slot register) refl there
none_there roots s system sound (BarMask slot register) there = sound.profile (BarMask slot register) refl there
none_there roots s system sound (BarPair slot register) there = sound.profile (BarPair slot register) refl there
none_there roots s system sound (RomMask slot register) there = sound.profile (RomMask slot register) refl there
none_there roots s system sound (WindowMask slot register) there = sound.profile (WindowMask slot register) refl there
none_there roots s system sound (SlotsDiffer slot) there = there
none_there roots s system sound (StrayProbe slot offset) there = sound.profile (StrayProbe slot offset) refl there
none_there roots s system sound (LoneFunction slot) there = sound.profile (LoneFunction slot) refl there
none_there roots s system sound (OfProfile fault slot) there = sound.profile (OfProfile fault slot) refl there

-- a system without faults is sound
sound_without : (roots : List ℕ) (s : System) → IsSystem s → ((fault : Fault) → IsIn roots s fault → ⊥) → IsSound roots s
sound_without roots s system none =
    let nested = nested_without_bus_faults roots s system (λ slot. (none (BusRange slot), none (Orphan slot))) in
    record {
      single = (single_without_clashes roots s).1 (
        (λ bus space address first first_register second second_register. none (Clash bus space address first first_register second second_register)),
        (λ space address first first_register second second_register. none (Split space address first first_register second second_register)),
      );
      home = (home_without_unreached roots s system nested).1 (λ slot register space address bridge. none (Unreached slot register space address bridge));
      nested = nested;
      profile = λ fault number. none fault;
      chains = λ f listed. (chain_without_faults f.image (image_of s system f listed)).1 record {
        high = λ place low. none (CapRange f.slot place) (f, listed, refl, low);
        once = λ place twice. none (CapLoop f.slot place) (f, listed, refl, twice);
        whole = λ place cut. none (CapCut f.slot place) (f, listed, refl, cut);
      };
    }

pub sound_without_faults : SoundWithoutFaults
sound_without_faults roots s system = (none_there roots s system, sound_without roots s system)
