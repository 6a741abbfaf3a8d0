-- Bridges in reset, and bridges that decode subtractively.
use Rattle.std.proofs.Common.{◌≡◌, List, [], ◌∷◌, refl, Bool, true, false, map}
use Rattle.pci_spec.specs.Number.{byte_at}
use Rattle.pci_spec.specs.Registers.{SECONDARY_BUS_RESET}
use Rattle.pci_spec.specs.Slot.{Slot}
use Rattle.pci_spec.specs.System.{Function}
use Rattle.pci_spec.specs.Fault.{controls_bridge, is_subtractive_bridge}
use Rattle.pci_spec.proofs.Examples.Samples.{bridge, slot}
use Rattle.judge_spec.specs.ModelWords.{Words, no_words}
use Rattle.judge_spec.specs.Taken.{bridge_aside}

abbrev reset_counts : Words
reset_counts = record no_words { reset = true }

abbrev subtractive_counts : Words
subtractive_counts = record no_words { subtractive = true }

-- a bridge to buses 01 to 03 whose Bridge Control is 0048h: VGA Enable and Secondary Bus Reset
abbrev in_reset : Function
in_reset = bridge (slot 0 1 0) 2 0x030100 ((0x3c, 0x00480000) ∷ []) []

abbrev is_in_reset : Words → List Slot → Bool
is_in_reset w slots = controls_bridge (bridge_aside w slots in_reset).image SECONDARY_BUS_RESET

-- the reset is left aside where nothing is listed behind it: not where something is on the first or the last bus there
behind_it : map (is_in_reset reset_counts) ((slot 0 1 0 ∷ []) ∷ (slot 0 1 0 ∷ slot 4 0 0 ∷ []) ∷ (slot 0 1 0 ∷ slot 1 0 0 ∷ []) ∷ (slot 0 1 0 ∷ slot 3 2 0 ∷ []) ∷ []) ≡ false ∷ false ∷ true ∷ true ∷ []
behind_it = refl

-- nor where the word doesn't count
without_the_word : is_in_reset subtractive_counts (slot 0 1 0 ∷ []) ≡ true
without_the_word = refl

-- VGA Enable stays
other_bits_stay : byte_at (bridge_aside reset_counts (slot 0 1 0 ∷ []) in_reset).image 0x3e ≡ 0x08
other_bits_stay = refl

-- a bridge of class 060401h
abbrev subtractive_bridge : Function
subtractive_bridge = bridge (slot 0 30 0) 2 0x010100 ((0x08, 0x06040100) ∷ []) []

abbrev is_subtractive : Words → List Slot → Bool
is_subtractive w slots = is_subtractive_bridge (bridge_aside w slots subtractive_bridge).image

before_words : is_subtractive_bridge subtractive_bridge.image ≡ true
before_words = refl

subtractive_behind_it : map (is_subtractive subtractive_counts) ((slot 0 30 0 ∷ []) ∷ (slot 0 30 0 ∷ slot 1 0 0 ∷ []) ∷ []) ≡ false ∷ true ∷ []
subtractive_behind_it = refl

subtractive_without_the_word : is_subtractive reset_counts (slot 0 30 0 ∷ []) ≡ true
subtractive_without_the_word = refl
