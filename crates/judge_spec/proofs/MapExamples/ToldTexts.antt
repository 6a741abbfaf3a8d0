-- Texts of maps with told ranges.
use Rattle.std.proofs.Common.{◌≡◌, ℕ, ◌+◌, List, [], ◌∷◌, ◌++◌, codes, refl, true, false, map}
use Rattle.std.specs.Fmt.{digits}
use Rattle.pci_spec.specs.Window.{IoWindow, MemoryWindow}
use Rattle.pci_spec.specs.System.{System, Function, Io, Memory, Bar, Window}
use Rattle.pci_spec.specs.Why.{scaled_text}
use Rattle.pci_spec.proofs.Examples.Samples.{slot, range, device, bridge}
use Rattle.judge_spec.specs.Given.{Given, nothing_given}
use Rattle.judge_spec.specs.Told.{ToldRange, Command, Always, Held}
use Rattle.judge_spec.specs.ToldClaims.{Told}
use Rattle.judge_spec.proofs.Examples.ToldClaims.{told_ranges, told_io, told_memory, told_asleep}
use Rattle.pci_spec.specs.Why.{Region}
use Rattle.judge_spec.specs.Regions.{MapRegion, Own, OfLine, slot_of, register_of, space_of, region_rank}
use Rattle.judge_spec.specs.Lines.{Lines, End, Free, Sits}
use Rattle.judge_spec.specs.Map.{Map}
use Rattle.judge_spec.specs.MapText.{indent, lines_text, map_region_line, map_text_of, map_off_text, outside_text, unreached_text}
use Rattle.judge_spec.proofs.MapExamples.Samples.{line, region, own, untaken}

abbrev pub of_line : ℕ → ToldRange → MapRegion
of_line n r = OfLine (record { register = 255 + n; told = r })

abbrev pub named : List ℕ → ToldRange → ToldRange
named name r = record r { name = name }

abbrev prefetchable : ToldRange → ToldRange
prefetchable r = record r { prefetchable = true }

-- ---- the map of a board with ISA Enable and three told ranges, of which one is off

abbrev pub p2sb : ToldRange
p2sb = named (codes "p2sb") (told_memory (slot 0 0x1f 1) 0xfd000000 0xfdffffff Held)

abbrev pub vf0 : ToldRange
vf0 = named (codes "vf0") (told_memory (slot 1 0 0) 0xe0000000 0xe001ffff Always)

abbrev pub ea0 : ToldRange
ea0 = named (codes "ea0") (told_memory (slot 1 1 0) 0xe0080000 0xe0080fff Command)

abbrev pub told : Told
told = told_ranges (p2sb ∷ vf0 ∷ ea0 ∷ [])

abbrev pub above : Function
above = bridge (slot 0 1 0) 3 0x010100 ((0x1c, 0x1010) ∷ (0x20, 0xe000e000) ∷ (0x3c, 0x00040000) ∷ []) ((0x1c, 0xf0f0) ∷ [])

abbrev pub behind : Function
behind = device (slot 1 0 0) 3 ((0x10, 0x1001) ∷ []) ((0x10, 0xffffffe1) ∷ [])

abbrev pub disabled : Function
disabled = device (slot 1 1 0) 0 [] []

abbrev pub s : System
s = above ∷ behind ∷ disabled ∷ []

abbrev pub with_isa : Given
with_isa = record nothing_given { isa = slot 0 1 0 ∷ [] }

abbrev pub io_window : Region
io_window = region (slot 0 1 0) 0x1c (Window IoWindow) Io false 0x1000 0x1fff

abbrev pub memory_window : Region
memory_window = region (slot 0 1 0) 0x20 (Window MemoryWindow) Memory false 0xe0000000 0xe00fffff

abbrev pub ports : Region
ports = region (slot 1 0 0) 0x10 (Bar 0) Io false 0x1000 0x101f

abbrev pub inside_io : Lines
inside_io = Sits (Own ports) End (Free (range 0x1020 0x10ff) (Free (range 0x1400 0x14ff) (Free (range 0x1800 0x18ff) (Free (range 0x1c00 0x1cff) End))))

abbrev pub inside_memory : Lines
inside_memory = Sits (of_line 2 vf0) End (Free (range 0xe0020000 0xe00fffff) End)

abbrev pub whole : Map
whole = record {
  roots = record { bus = 0; io = untaken (Sits (Own io_window) inside_io End); memory = untaken (Sits (Own memory_window) inside_memory (Sits (of_line 1 p2sb) End End)) } ∷ [];
  outside = [];
  unreached = [];
}

abbrev pub printed : List ℕ
printed =
    line (codes "bus 00 io")
    ++ line (codes "  00001000-00001fff 4K window 00:01.0 1c isa")
    ++ line (codes "    00001000-0000101f 32 bar 01:00.0 10")
    ++ line (codes "    00001020-000010ff 224 free")
    ++ line (codes "    00001400-000014ff 256 free")
    ++ line (codes "    00001800-000018ff 256 free")
    ++ line (codes "    00001c00-00001cff 256 free")
    ++ line (codes "bus 00 mem")
    ++ line (codes "  00000000e0000000-00000000e00fffff 1M window 00:01.0 20")
    ++ line (codes "    00000000e0000000-00000000e001ffff 128K told 01:00.0 +2 vf0")
    ++ line (codes "    00000000e0020000-00000000e00fffff 896K free")
    ++ line (codes "  00000000fd000000-00000000fdffffff 16M held 00:1f.1 +1 p2sb")
    ++ line (codes "off")
    ++ line (codes "  00000000e0080000-00000000e0080fff 4K told 01:01.0 +3 ea0")

pub text_of_the_board : map_text_of told with_isa whole s ≡ printed
unfolding indent lines_text scaled_text digits
text_of_the_board = refl

-- ---- its space, its register and its slot

spaces : map space_of (of_line 1 (told_io (slot 0 5 0) 0x1f0 0x1f7 Held) ∷ of_line 2 (told_memory (slot 0 5 0) 0 0xfff Held) ∷ []) ≡ Io ∷ Memory ∷ []
spaces = refl

registers : map register_of (of_line 1 (told_io (slot 0 5 0) 0x1f0 0x1f7 Held) ∷ of_line 4096 (told_io (slot 0 5 0) 0x1f0 0x1f7 Held) ∷ []) ≡ 256 ∷ 4351 ∷ []
registers = refl

slots : map slot_of (of_line 1 (told_io (slot 0 5 0) 0x1f0 0x1f7 Held) ∷ of_line 1 (told_io (slot 0x40 1 7) 0x1f0 0x1f7 Held) ∷ []) ≡ slot 0 5 0 ∷ slot 0x40 1 7 ∷ []
slots = refl

-- ---- what each is called: a name stands last, where there is one

each_mark : map (λ mark. map_region_line nothing_given 1 (of_line 1 (told_io (slot 0 5 0) 0x1f0 0x1f7 mark))) (Command ∷ Always ∷ Held ∷ [])
    ≡ line (codes "  000001f0-000001f7 8 told 00:05.0 +1") ∷ line (codes "  000001f0-000001f7 8 told 00:05.0 +1") ∷ line (codes "  000001f0-000001f7 8 held 00:05.0 +1") ∷ []
unfolding indent scaled_text digits
each_mark = refl

prefetchable_told : map_region_line nothing_given 2 (of_line 12 (prefetchable (told_memory (slot 0x40 1 7) 0xe0000000 0xe0000fff Always))) ≡ line (codes "    00000000e0000000-00000000e0000fff 4K told pref 40:01.7 +12")
unfolding indent scaled_text digits
prefetchable_told = refl

prefetchable_held : map_region_line nothing_given 1 (of_line 4096 (named (codes "x") (prefetchable (told_memory (slot 1 0x1f 0) 0xf0000000 0xf0000fff Held)))) ≡ line (codes "  00000000f0000000-00000000f0000fff 4K held pref 01:1f.0 +4096 x")
unfolding indent scaled_text digits
prefetchable_held = refl

-- ---- out of place, and left

aside : outside_text nothing_given (own (slot 0 2 0) 0x10 (Bar 0) Memory false 0xe0000000 0xe00fffff ∷ of_line 1 (named (codes "hpet") (told_memory (slot 0 2 0) 0xfed00000 0xfed003ff Always)) ∷ [])
    ++ unreached_text nothing_given (of_line 2 (told_io (slot 1 0x1f 0) 0x60 0x60 Held) ∷ [])
    ≡ line (codes "outside")
    ++ line (codes "  00000000e0000000-00000000e00fffff 1M bar 00:02.0 10")
    ++ line (codes "  00000000fed00000-00000000fed003ff 1K told 00:02.0 +1 hpet")
    ++ line (codes "unreached")
    ++ line (codes "  00000060-00000060 1 held 01:1f.0 +2")
unfolding indent scaled_text digits
aside = refl

-- by slot, and of a slot told ranges behind all registers, in the order of their lines
ranks : map region_rank (own (slot 0 1 0) 0x30 (Bar 0) Memory false 0 0 ∷ of_line 1 (told_io (slot 0 1 0) 0 0 Held) ∷ of_line 4096 (told_io (slot 0 1 0) 0 0 Held) ∷ own (slot 0 1 1) 0x10 (Bar 0) Memory false 0 0 ∷ [])
    ≡ 65584 ∷ 65792 ∷ 69887 ∷ 73744 ∷ []
ranks = refl

-- ---- off: of a function its BARs, and then its told ranges; no held one

off : map_off_text (told_asleep (slot 0 2 0) (told_io (slot 0 1 0) 0x1f0 0x1f7 Command ∷ told_memory (slot 0 1 0) 0 0xfff Command ∷ told_io (slot 0 1 0) 0x60 0x60 Held ∷ named (codes "x") (told_io (slot 0 2 0) 0x64 0x64 Always) ∷ []))
    (device (slot 0 1 0) 2 ((0x14, 0xe001) ∷ []) ((0x14, 0xffffffe1) ∷ []) ∷ device (slot 0 2 0) 1 ((0x10, 0xe0000000) ∷ []) ((0x10, 0xfffff000) ∷ []) ∷ [])
    ≡ line (codes "off")
    ++ line (codes "  0000e000-0000e01f 32 bar 00:01.0 14")
    ++ line (codes "  000001f0-000001f7 8 told 00:01.0 +1")
    ++ line (codes "  00000000e0000000-00000000e0000fff 4K bar 00:02.0 10")
    ++ line (codes "  00000064-00000064 1 told 00:02.0 +4 x")
unfolding indent scaled_text digits
off = refl
