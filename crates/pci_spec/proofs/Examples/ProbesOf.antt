-- Probes of whole dumps: the first fault, the probe and the assumed registers of two functions.
use Rattle.std.proofs.Common.{◌≡◌, ℕ, List, [], ◌∷◌, refl, Option, None, Some, replicate, map}
use Rattle.std.specs.Prelude.{codes}
use Rattle.pci_spec.specs.Number.{some_from}
use Rattle.pci_spec.specs.Text.{Block}
use Rattle.pci_spec.specs.Resource.{ResourceLine, no_line, has_size, tells_bar, tells_rom}
use Rattle.pci_spec.specs.Derived.{bar_of_size, derived_bar, derived_rom, window_read_back, bar_register_derived, window_register_derived, register_derived, derived_probe, assumed_registers}
use Rattle.pci_spec.specs.NoProbe.{Assuming, Nothing, Disabled, first_at, no_probe}
use Rattle.pci_spec.specs.Mark.{spelled, assumed_at}
use Rattle.pci_spec.specs.SizesText.{SizesBlock}
use Rattle.pci_spec.specs.ProbeOf.{ProbeFault, SlotsDiffer, NoVendor, HeaderKind, NoSize, OtherSize, first_of, probe_fault, probe_of, assumed_of, probe_fault_text, assumed_text}
use Rattle.pci_spec.proofs.Examples.Samples.{put, puts, blank, slot, read_backs}
use Rattle.pci_spec.proofs.Examples.DerivedProbes.{line, lines}

-- a function that is shown at 00:dd.0, and one that is told of
abbrev shown : ℕ → List ℕ → Block
shown device image = record { slot = slot 0 device 0; title = None; image = image }

abbrev told : ℕ → List ResourceLine → SizesBlock
told device lines = record { slot = slot 0 device 0; lines = lines }

-- a device with its Command and a memory BAR; lines that tell 4 KB of it, and none
abbrev bar : ℕ → ℕ → List ℕ
bar command value = puts ((0x10, value) ∷ []) (blank 0 command)

-- a device with a ROM alone
abbrev rom : ℕ → ℕ → List ℕ
rom command value = puts ((0x30, value) ∷ []) (blank 0 command)

abbrev sized : List ResourceLine
sized = lines 0 (line 0xe0000000 0xe0000fff 0x40200)

abbrev untold : List ResourceLine
untold = replicate 7 no_line

-- two functions
abbrev fault_of : Assuming → List ℕ → List ResourceLine → List ℕ → List ResourceLine → Option ProbeFault
fault_of assuming first first_lines second second_lines =
    probe_fault assuming (shown 1 first ∷ shown 2 second ∷ []) (told 1 first_lines ∷ told 2 second_lines ∷ [])

-- ---- slots

abbrev slots : List ℕ → List ℕ → Option ProbeFault
slots ours theirs = probe_fault Disabled (map (λ d. shown d (bar 2 0xe0000000)) ours) (map (λ d. told d untold) theirs)

only_the_dump_has_it : slots (1 ∷ 2 ∷ []) (2 ∷ []) ≡ Some (SlotsDiffer (slot 0 1 0))
unfolding first_of probe_fault
only_the_dump_has_it = refl

only_the_sizes_have_it : slots (1 ∷ []) (1 ∷ 2 ∷ []) ≡ Some (SlotsDiffer (slot 0 2 0))
unfolding first_of probe_fault
only_the_sizes_have_it = refl

of_several_the_least : slots (1 ∷ 4 ∷ []) (1 ∷ 3 ∷ []) ≡ Some (SlotsDiffer (slot 0 3 0))
unfolding first_of probe_fault
of_several_the_least = refl

a_slot_goes_before_a_register : slots (1 ∷ 2 ∷ []) (1 ∷ []) ≡ Some (SlotsDiffer (slot 0 2 0))
unfolding first_of probe_fault
a_slot_goes_before_a_register = refl

nothing_is_derived_for_nothing : probe_fault Nothing [] [] ≡ None
unfolding first_of probe_fault
nothing_is_derived_for_nothing = refl

-- ---- headers

no_function : fault_of Disabled (bar 0 0) untold (put 2 0 0xffff (bar 0 0)) untold ≡ Some (NoVendor (slot 0 2 0))
unfolding first_of probe_fault
no_function = refl

a_header_of_type_2 : fault_of Disabled (blank 2 0) untold (put 2 0 0xffff (bar 0 0)) untold ≡ Some (HeaderKind (slot 0 1 0))
unfolding first_of probe_fault
a_header_of_type_2 = refl

a_later_header_goes_before_a_register : fault_of Disabled (bar 2 0xe0000000) untold (blank 2 0) untold ≡ Some (HeaderKind (slot 0 2 0))
unfolding first_of probe_fault
a_later_header_goes_before_a_register = refl

-- ---- registers

no_size_is_told : fault_of Disabled (bar 2 0xe0000000) sized (bar 2 0xe0000000) untold ≡ Some (NoSize (slot 0 2 0) 0x10)
unfolding some_from has_size tells_bar tells_rom bar_of_size derived_bar derived_rom window_read_back bar_register_derived window_register_derived register_derived first_at no_probe first_of probe_fault
no_size_is_told = refl

the_lower_slot_is_named : fault_of Disabled (bar 2 0) (lines 0 (line 0xe0000000 0xe0000fff 0x40204)) (bar 2 0xe0000000) untold ≡ Some (OtherSize (slot 0 1 0) 0x10)
unfolding some_from has_size tells_bar tells_rom bar_of_size derived_bar derived_rom window_read_back bar_register_derived window_register_derived register_derived first_at no_probe first_of probe_fault
the_lower_slot_is_named = refl

no_size_is_told_of_a_bar_that_is_off : fault_of Disabled (bar 2 0xe0000000) sized (bar 0 0xe0000000) untold ≡ Some (NoSize (slot 0 2 0) 0x10)
unfolding some_from has_size tells_bar tells_rom bar_of_size derived_bar derived_rom window_read_back bar_register_derived window_register_derived register_derived first_at no_probe first_of probe_fault
no_size_is_told_of_a_bar_that_is_off = refl

all_is_derived : fault_of Disabled (bar 2 0xe0000000) sized (rom 0 0xfebe0000) untold ≡ None
unfolding some_from has_size tells_bar tells_rom bar_of_size derived_bar derived_rom window_read_back bar_register_derived window_register_derived register_derived first_at no_probe first_of probe_fault
all_is_derived = refl

an_exact_probe_assumes_nothing : fault_of Nothing (bar 2 0xe0000000) sized (rom 0 0xfebe0000) untold ≡ Some (NoSize (slot 0 2 0) 0x30)
unfolding some_from has_size tells_bar tells_rom bar_of_size derived_bar derived_rom window_read_back bar_register_derived window_register_derived register_derived first_at no_probe first_of probe_fault
an_exact_probe_assumes_nothing = refl

-- ---- the probe and its assumed registers

abbrev dump : List Block
dump = shown 1 (bar 0 0xe0000000) ∷ record { slot = slot 0 2 0; title = Some (codes "Ethernet"); image = puts ((0x30, 0xfebe0000) ∷ []) (bar 0 0xe0000000) } ∷ []

abbrev sizes : List SizesBlock
sizes = told 1 sized ∷ told 2 untold ∷ []

titles_name_what_is_assumed : probe_of dump sizes
    ≡ shown 1 (read_backs ((0x10, 0xfffff000) ∷ []))
    ∷ record (shown 2 (read_backs ((0x10, 0xfffffff0) ∷ (0x30, 0xfffff800) ∷ []))) { title = Some (codes "assumed 10,30") } ∷ []
unfolding some_from has_size tells_bar tells_rom bar_of_size derived_bar derived_rom window_read_back bar_register_derived window_register_derived register_derived derived_probe assumed_registers spelled
titles_name_what_is_assumed = refl

registers_of_all_functions : assumed_of (shown 0 (bar 0 0xe0000000) ∷ dump) (told 0 untold ∷ sizes)
    ≡ assumed_at (slot 0 0 0) 0x10 ∷ assumed_at (slot 0 2 0) 0x10 ∷ assumed_at (slot 0 2 0) 0x30 ∷ []
unfolding some_from has_size tells_bar tells_rom bar_of_size derived_bar derived_rom window_read_back bar_register_derived window_register_derived register_derived assumed_registers
registers_of_all_functions = refl

-- ---- lines

a_slot_alone : probe_fault_text (SlotsDiffer (slot 0 1 0)) ≡ codes "30 SlotsDiffer 00:01.0"
a_slot_alone = refl

a_register_without_size : probe_fault_text (NoSize (slot 0 1 0) 0x10) ≡ codes "32 NoSize 00:01.0 10"
a_register_without_size = refl

a_register_of_another_size : probe_fault_text (OtherSize (slot 0 1 0) 0x1c) ≡ codes "33 OtherSize 00:01.0 1c"
a_register_of_another_size = refl

an_assumed_register : assumed_text (assumed_at (slot 0 2 0) 0x30) ≡ codes "assumed 00:02.0 30"
an_assumed_register = refl
