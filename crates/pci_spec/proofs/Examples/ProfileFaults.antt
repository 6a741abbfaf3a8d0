-- The faults of the profile have the numbers, names, order and meanings that are documented.
use Rattle.std.proofs.Common.{◌≡◌, ℕ, List, [], ◌∷◌, refl, true, ◌&&◌, map}
use Rattle.std.specs.Prelude.{◌↔◌, codes}
use Rattle.std.specs.Bool.{IsTrue, ◌==◌}
use Rattle.std.specs.List.{list_any}
use Rattle.pci_spec.specs.Number.{has_bit}
use Rattle.pci_spec.specs.Slot.{Slot}
use Rattle.pci_spec.specs.Header.{command, class_code, layout, bridge_control}
use Rattle.pci_spec.specs.Capability.{ComesTo, capability_id, power_state}
use Rattle.pci_spec.specs.System.{System}
use Rattle.pci_spec.specs.Fault.{ProfileFault, PaletteSnoop, VgaEnable, IsaEnable, Subtractive, InReset, PowerState, OfProfile, SomeAt, IsIn, fault_number, profile_number}
use Rattle.pci_spec.specs.Line.{fault_text, fault_name}
use Rattle.pci_spec.specs.Order.{looking_key}
use Rattle.pci_spec.proofs.Examples.Samples.{slot}

abbrev all : List ProfileFault
all = PaletteSnoop ∷ VgaEnable ∷ IsaEnable ∷ Subtractive ∷ InReset ∷ PowerState ∷ []

abbrev place : Slot
place = slot 0x0a 0x1f 3

numbers_are : map (λ fault. fault_number (OfProfile fault place)) all ≡ 51 ∷ 52 ∷ 53 ∷ 54 ∷ 55 ∷ 56 ∷ []
numbers_are = refl

names_are : map (λ fault. fault_name (OfProfile fault place)) all
    ≡ codes "PaletteSnoop" ∷ codes "VgaEnable" ∷ codes "IsaEnable" ∷ codes "Subtractive" ∷ codes "InReset" ∷ codes "PowerState" ∷ []
names_are = refl

texts_are : map (λ fault. fault_text (OfProfile fault place)) all
    ≡ codes "51 PaletteSnoop 0a:1f.3" ∷ codes "52 VgaEnable 0a:1f.3" ∷ codes "53 IsaEnable 0a:1f.3" ∷ codes "54 Subtractive 0a:1f.3" ∷ codes "55 InReset 0a:1f.3"
    ∷ codes "56 PowerState 0a:1f.3" ∷ []
texts_are = refl

-- phase 3, the slot, and the place among what is looked at there
keys_are : map (λ fault. looking_key (λ s. []) (OfProfile fault (slot 7 8 1))) all
    ≡ (3 ∷ 7 ∷ 8 ∷ 1 ∷ 0 ∷ []) ∷ (3 ∷ 7 ∷ 8 ∷ 1 ∷ 1 ∷ []) ∷ (3 ∷ 7 ∷ 8 ∷ 1 ∷ 2 ∷ []) ∷ (3 ∷ 7 ∷ 8 ∷ 1 ∷ 3 ∷ []) ∷ (3 ∷ 7 ∷ 8 ∷ 1 ∷ 4 ∷ []) ∷ (3 ∷ 7 ∷ 8 ∷ 1 ∷ 5 ∷ []) ∷ []
keys_are = refl

-- ---- what each says of a system

module _ (roots : List ℕ) (s : System) (at : Slot) where
  palette_snoop_is : IsIn roots s (OfProfile PaletteSnoop at) ↔ SomeAt s at (λ f. IsTrue (has_bit (command f.image) 5))
  palette_snoop_is = (λ h. h, λ h. h)

  vga_enable_is : IsIn roots s (OfProfile VgaEnable at) ↔ SomeAt s at (λ f. IsTrue (layout f.image == 1 && has_bit (bridge_control f.image) 3))
  vga_enable_is = (λ h. h, λ h. h)

  isa_enable_is : IsIn roots s (OfProfile IsaEnable at) ↔ SomeAt s at (λ f. IsTrue (layout f.image == 1 && has_bit (bridge_control f.image) 2))
  isa_enable_is = (λ h. h, λ h. h)

  subtractive_is : IsIn roots s (OfProfile Subtractive at) ↔ SomeAt s at (λ f. IsTrue (layout f.image == 1 && class_code f.image == 0x060401))
  subtractive_is = (λ h. h, λ h. h)

  in_reset_is : IsIn roots s (OfProfile InReset at) ↔ SomeAt s at (λ f. IsTrue (layout f.image == 1 && has_bit (bridge_control f.image) 6))
  in_reset_is = (λ h. h, λ h. h)

  power_state_is : IsIn roots s (OfProfile PowerState at)
      ↔ SomeAt s at (λ f. (where_is : ℕ) × ComesTo f.image where_is × ((capability_id f.image where_is ≡ 1) × (power_state f.image where_is ≡ 0 → ⊥)))
  power_state_is = (λ h. h, λ h. h)

-- ---- the numbers of what a sound system has none of

abbrev pub numbers : List ℕ
numbers = 20 ∷ 21 ∷ 22 ∷ 23 ∷ 24 ∷ 25 ∷ 26 ∷ 30 ∷ 31 ∷ 50 ∷ 51 ∷ 52 ∷ 53 ∷ 54 ∷ 55 ∷ 56 ∷ []

pub has_a_number : (fault : ProfileFault) → list_any (λ n. profile_number fault == n) numbers ≡ true
has_a_number PaletteSnoop = refl
has_a_number VgaEnable = refl
has_a_number IsaEnable = refl
has_a_number Subtractive = refl
has_a_number InReset = refl
has_a_number PowerState = refl
