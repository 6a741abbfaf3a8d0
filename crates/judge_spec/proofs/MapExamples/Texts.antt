-- Texts of maps.
use Rattle.std.proofs.Common.{◌≡◌, [], ◌∷◌, ◌++◌, codes, refl, true, false}
use Rattle.std.specs.Fmt.{digits}
use Rattle.pci_spec.specs.Window.{IoWindow, MemoryWindow}
use Rattle.pci_spec.specs.System.{Io, Memory, Bar, Rom, Window}
use Rattle.pci_spec.specs.Why.{scaled_text}
use Rattle.pci_spec.proofs.Examples.Samples.{slot, range, device}
use Rattle.judge_spec.specs.Given.{nothing_given}
use Rattle.judge_spec.specs.Lines.{Lines, End, Free, Sits}
use Rattle.judge_spec.specs.MapText.{indent, lines_text, map_region_line, root_text, map_text_of}
use Rattle.judge_spec.proofs.MapExamples.Samples.{line, own, untaken, untold}

-- bus 40 of a server: a bar in an I/O window, and three windows of memory, each inside the one before
abbrev io_lines : Lines
io_lines =
    Sits (own (slot 0x40 3 0) 0x1c (Window IoWindow) Io false 0xc000 0xcfff)
    (Sits (own (slot 0x45 0 0) 0x18 (Bar 2) Io false 0xc000 0xc01f) End
    (Free (range 0xc020 0xcfff) End))
    End

abbrev memory_lines : Lines
memory_lines =
    Sits (own (slot 0x40 0 0) 0x20 (Window MemoryWindow) Memory false 0xfde00000 0xfe1fffff)
    (Sits (own (slot 0x41 0 0) 0x20 (Window MemoryWindow) Memory false 0xfde00000 0xfe1fffff)
    (Sits (own (slot 0x42 1 0) 0x20 (Window MemoryWindow) Memory false 0xfde00000 0xfdffffff)
    (Free (range 0xfde00000 0xfde3ffff)
    (Sits (own (slot 0x44 0 0) 0x14 (Bar 1) Memory false 0xfde40000 0xfde40fff) End
    (Free (range 0xfde41000 0xfdffffff) End)))
    End)
    End)
    (Sits (own (slot 0x40 0 0) 0x10 (Bar 0) Memory false 0xfe401000 0xfe401fff) End End)

server : root_text nothing_given (record { bus = 0x40; io = untaken io_lines; memory = untaken memory_lines })
    ≡ line (codes "bus 40 io")
    ++ line (codes "  0000c000-0000cfff 4K window 40:03.0 1c")
    ++ line (codes "    0000c000-0000c01f 32 bar 45:00.0 18")
    ++ line (codes "    0000c020-0000cfff 4064 free")
    ++ line (codes "bus 40 mem")
    ++ line (codes "  00000000fde00000-00000000fe1fffff 4M window 40:00.0 20")
    ++ line (codes "    00000000fde00000-00000000fe1fffff 4M window 41:00.0 20")
    ++ line (codes "      00000000fde00000-00000000fdffffff 2M window 42:01.0 20")
    ++ line (codes "        00000000fde00000-00000000fde3ffff 256K free")
    ++ line (codes "        00000000fde40000-00000000fde40fff 4K bar 44:00.0 14")
    ++ line (codes "        00000000fde41000-00000000fdffffff 1788K free")
    ++ line (codes "  00000000fe401000-00000000fe401fff 4K bar 40:00.0 10")
unfolding indent lines_text scaled_text digits
server = refl

-- a space without regions has no heading
empty_bus : root_text nothing_given (record { bus = 0; io = untaken End; memory = untaken End }) ≡ []
empty_bus = refl

-- what each part is called
prefetchable_bar : map_region_line nothing_given 1 (own (slot 0x44 0 0) 0x20 (Bar 4) Memory true 0xfe600000 0xfe603fff)
    ≡ line (codes "  00000000fe600000-00000000fe603fff 16K bar pref 44:00.0 20")
unfolding indent scaled_text digits
prefetchable_bar = refl

rom : map_region_line nothing_given 2 (own (slot 0 2 0) 0x30 Rom Memory false 0xfe9e0000 0xfe9effff)
    ≡ line (codes "    00000000fe9e0000-00000000fe9effff 64K rom 00:02.0 30")
unfolding indent scaled_text digits
rom = refl

-- an I/O window of a bridge with ISA Enable, and what of it is free
cut_window : root_text (record nothing_given { isa = slot 0 1 0 ∷ [] }) (record {
  bus = 0;
  io =
      untaken (Sits (own (slot 0 1 0) 0x1c (Window IoWindow) Io false 0x1000 0x1fff)
      (Sits (own (slot 1 0 0) 0x10 (Bar 0) Io false 0x1000 0x101f) End
      (Free (range 0x1020 0x10ff) (Free (range 0x1400 0x14ff) (Free (range 0x1800 0x18ff) (Free (range 0x1c00 0x1cff) End)))))
      End);
  memory = untaken End;
})
    ≡ line (codes "bus 00 io")
    ++ line (codes "  00001000-00001fff 4K window 00:01.0 1c isa")
    ++ line (codes "    00001000-0000101f 32 bar 01:00.0 10")
    ++ line (codes "    00001020-000010ff 224 free")
    ++ line (codes "    00001400-000014ff 256 free")
    ++ line (codes "    00001800-000018ff 256 free")
    ++ line (codes "    00001c00-00001cff 256 free")
unfolding indent lines_text scaled_text digits
cut_window = refl

-- a root bus on which nothing stands has a heading where something is free
all_free : root_text nothing_given (record { bus = 0x40; io = untaken (Free (range 0x1000 0x1fff) End); memory = untaken End })
    ≡ line (codes "bus 40 io") ++ line (codes "  00001000-00001fff 4K free")
unfolding indent lines_text scaled_text digits
all_free = refl

-- what is out of place, regions that are left, and BARs that are off: the second function's Command enables memory alone
aside_and_off : map_text_of untold nothing_given (record {
  roots = [];
  outside =
      own (slot 0 1 0) 0x30 Rom Memory false 0xd0000000 0xd00fffff
      ∷ own (slot 1 0 0) 0x18 (Bar 2) Memory true 0xd8000000 0xd80fffff
      ∷ [];
  unreached =
      own (slot 1 0 0) 0x10 (Bar 0) Memory false 0xe0000000 0xe00000ff
      ∷ own (slot 1 0 0) 0x14 (Bar 1) Io false 0xd000 0xd0ff
      ∷ [];
})
    (device (slot 0 1 0) 3 ((0x10, 0xe001) ∷ []) ((0x10, 0xffffff01) ∷ [])
    ∷ device (slot 1 2 0) 2 ((0x10, 0xe001) ∷ (0x14, 0xe0800008) ∷ []) ((0x10, 0xffffff01) ∷ (0x14, 0xfff00008) ∷ [])
    ∷ device (slot 1 3 0) 1 ((0x10, 0xe001) ∷ (0x14, 0xe0800008) ∷ []) ((0x10, 0xffffff01) ∷ (0x14, 0xfff00008) ∷ [])
    ∷ [])
    ≡ line (codes "outside")
    ++ line (codes "  00000000d0000000-00000000d00fffff 1M rom 00:01.0 30")
    ++ line (codes "  00000000d8000000-00000000d80fffff 1M bar pref 01:00.0 18")
    ++ line (codes "unreached")
    ++ line (codes "  00000000e0000000-00000000e00000ff 256 bar 01:00.0 10")
    ++ line (codes "  0000d000-0000d0ff 256 bar 01:00.0 14")
    ++ line (codes "off")
    ++ line (codes "  0000e000-0000e0ff 256 bar 01:02.0 10")
    ++ line (codes "  00000000e0800000-00000000e08fffff 1M bar pref 01:03.0 14")
unfolding indent scaled_text digits
aside_and_off = refl
