-- IDE controllers, whose channels may be in compatibility mode.
use Rattle.std.proofs.Common.{◌≡◌, ℕ, List, [], ◌∷◌, refl, true, map}
use Rattle.pci_spec.specs.System.{Function}
use Rattle.pci_spec.specs.Decoded.{record_of}
use Rattle.pci_spec.proofs.Examples.Samples.{device, slot}
use Rattle.judge_spec.specs.ModelWords.{Words, no_words}
use Rattle.judge_spec.specs.Taken.{parts_aside, no_fixed_parts}

abbrev ide_counts : Words
ide_counts = record no_words { ide = true }

-- a controller of this class with five I/O BARs
abbrev controller : ℕ → Function
controller class = device (slot 0 1 0) 1 ((0x08, class) ∷ (0x10, 0x1f1) ∷ (0x14, 0x3f5) ∷ (0x18, 0x171) ∷ (0x1c, 0x375) ∷ (0x20, 0xcc01) ∷ [])
    ((0x10, 0xfffffff9) ∷ (0x14, 0xfffffffd) ∷ (0x18, 0xfffffff9) ∷ (0x1c, 0xfffffffd) ∷ (0x20, 0xfffffff1) ∷ [])

-- the registers of the BARs that are taken
abbrev registers : Words → Function → List ℕ
registers w f = map (λ bar. bar.register) (record_of (parts_aside w no_fixed_parts f)).bars

both_channels : registers ide_counts (controller 0x01018000) ≡ 0x20 ∷ []
both_channels = refl

-- bit 0 is of the primary channel, and bit 2 of the secondary one
primary_is_native : registers ide_counts (controller 0x01018100) ≡ 0x10 ∷ 0x14 ∷ 0x20 ∷ []
primary_is_native = refl

secondary_is_native : registers ide_counts (controller 0x01018400) ≡ 0x18 ∷ 0x1c ∷ 0x20 ∷ []
secondary_is_native = refl

both_are_native : registers ide_counts (controller 0x01018500) ≡ 0x10 ∷ 0x14 ∷ 0x18 ∷ 0x1c ∷ 0x20 ∷ []
both_are_native = refl

-- a RAID controller, or a controller where the word doesn't count, keeps them
another_class : registers ide_counts (controller 0x01048000) ≡ 0x10 ∷ 0x14 ∷ 0x18 ∷ 0x1c ∷ 0x20 ∷ []
another_class = refl

without_the_word : registers no_words (controller 0x01018000) ≡ 0x10 ∷ 0x14 ∷ 0x18 ∷ 0x1c ∷ 0x20 ∷ []
without_the_word = refl

-- a BAR of 64 bits at 14h goes with its upper half, which isn't of the other channel
abbrev wide_at_14 : Function
wide_at_14 = device (slot 0 1 0) 2 ((0x08, 0x01018400) ∷ (0x14, 0xe0000004) ∷ (0x18, 1) ∷ (0x1c, 0x375) ∷ []) ((0x14, 0xfffff004) ∷ (0x18, 0xffffffff) ∷ (0x1c, 0xfffffffd) ∷ [])

wide_bar_goes : registers ide_counts wide_at_14 ≡ 0x1c ∷ []
wide_bar_goes = refl
