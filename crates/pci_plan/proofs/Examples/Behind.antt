-- Two functions behind a port, for the examples.
use Rattle.std.proofs.Common.{List, [], ◌∷◌, ℕ, replicate}
use Rattle.pci_spec.specs.Slot.{Slot}
use Rattle.pci_spec.specs.Machine.{Target}
use Rattle.pci_spec.proofs.Examples.Samples.{put, zeros, blank, puts, slot}

-- all of whose bits can be written, and one that takes none
abbrev pub open_at : Slot → List ℕ → Target
open_at s image = record { slot = s; image = image; writable = replicate 256 0xff; clearing = zeros }

abbrev pub fixed_at : Slot → List ℕ → Target
fixed_at s image = record { slot = s; image = image; writable = zeros; clearing = zeros }

abbrev pub here : Slot
here = slot 0 1 0

abbrev pub there : Slot
there = slot 0 2 0

-- a BAR, a ROM and Command
abbrev pub image : List ℕ
image = puts ((0x10, 0xfe000000) ∷ (0x30, 0xfd000001) ∷ []) (blank 0 3)

-- the same but for Status, a Device ID and Interrupt Line
abbrev pub alike : List ℕ
alike = put 1 0x3c 7 (put 2 0x06 0x10 (put 2 0x02 0x8765 image))

-- another ROM register, the last that is compared
abbrev pub other_rom : List ℕ
other_rom = puts ((0x30, 0xfd000000) ∷ []) image

abbrev pub both : List Target
both = open_at here image ∷ open_at there image ∷ []
