-- Lines of maps, their headings, and titles.
use Rattle.std.proofs.Common.{◌≡◌, ◌+◌, ◌*◌, ℕ, Some, None, true, false, List, [], ◌∷◌, ◌++◌, codes, map, refl, arith}
use Rattle.pci_picture.specs.Headings.{AreSectionsOf, Headed, depth_behind, heading_told, read_on, headed_regions, is_lost, is_below_no_heading, is_section, lines_below_headings}
use Rattle.pci_picture.specs.Lines.{region_lines, is_region_line, is_range, names_part, is_slot, is_register, is_told_number, slot_number_of, words_in_line}
use Rattle.pci_picture.specs.Boxes.{titled_line}
use Rattle.pci_picture.specs.Marks.{key_of_words, keys_of_fault, look_of_part, look_with, number_before_blank, number_in_slot}
use Rattle.pci_picture.specs.Said.{faults_said}
use Rattle.pci_picture.specs.Spots.{Section}
use Rattle.pci_picture.specs.declared.map.Heading.TheVariants.{Section as InSection, Lost, Off}

-- a map of a heading and a line
one_region : region_lines (codes "bus 00 io" ++ 10 ∷ codes "  0000d040-0000d05f 32 bar 00:1f.2 20")
    ≡ codes "0000d040-0000d05f 32 bar 00:1f.2 20" ∷ []
unfolding is_region_line is_range names_part is_slot is_register words_in_line
one_region = refl

-- what is inside a window, and what is free there
inner_regions : region_lines (codes "    fe800000-fe8fffff 1M bar pref 43:00.0 20" ++ 10 ∷ codes "    fe900000-fe9fffff 1M free")
    ≡ codes "fe800000-fe8fffff 1M bar pref 43:00.0 20" ∷ codes "fe900000-fe9fffff 1M free" ∷ []
unfolding is_region_line is_range names_part is_slot is_register words_in_line
inner_regions = refl

-- ranges that are told, with a name and without one
told_regions : region_lines (codes "    e0000000-e001ffff 128K told 01:00.0 +2 vf0" ++ 10 ∷ (codes "    e0020000-e002ffff 64K told pref 01:00.0 +4096"
    ++ 10 ∷ (codes "  fd000000-fdffffff 16M held 00:1f.1 +10 p2sb" ++ 10 ∷ codes "  f0000000-f0000fff 4K held pref 01:1f.0 +1 x")))
    ≡ codes "e0000000-e001ffff 128K told 01:00.0 +2 vf0" ∷ codes "e0020000-e002ffff 64K told pref 01:00.0 +4096"
    ∷ codes "fd000000-fdffffff 16M held 00:1f.1 +10 p2sb" ∷ codes "f0000000-f0000fff 4K held pref 01:1f.0 +1 x" ∷ []
unfolding is_region_line is_range names_part is_slot is_register is_told_number words_in_line
told_regions = refl

-- no number, 0, a zero before it, one too many, a register, and the word `pref` twice
untold_regions : region_lines (codes "  d040-d05f 32 told 00:1f.2 +" ++ 10 ∷ (codes "  d040-d05f 32 told 00:1f.2 +0" ++ 10 ∷ (codes "  d040-d05f 32 told 00:1f.2 +01"
    ++ 10 ∷ (codes "  d040-d05f 32 told 00:1f.2 +4097" ++ 10 ∷ (codes "  d040-d05f 32 told 00:1f.2 20" ++ 10 ∷ codes "  d040-d05f 32 held pref pref 00:1f.2 +1"))))) ≡ []
unfolding is_region_line is_range names_part is_slot is_register is_told_number words_in_line
untold_regions = refl

-- one blank, a range whose ends fall, a word that is no part, and a slot of other digits
no_region : region_lines (codes " d040-d05f 32 free" ++ 10 ∷ (codes "  d05f-d040 32 free" ++ 10 ∷ (codes "  d040-d05f 32 used"
    ++ 10 ∷ codes "  d040-d05f 32 rom 00:1F.2 20"))) ≡ []
unfolding is_region_line is_range names_part is_slot is_register words_in_line
no_region = refl

-- the title of a region with the name of its function, and that of a fault
of_region : titled_line (codes "d040-d05f 32 bar 00:1f.2 20" ++ 10 ∷ codes "SATA controller") ≡ codes "d040-d05f 32 bar 00:1f.2 20" ∷ []
unfolding is_region_line is_range names_part is_slot is_register words_in_line
of_region = refl

of_fault : titled_line (codes "61 Clash bus 00 io 00000720 00:1f.3 20 00:1f.2 20") ≡ []
unfolding is_region_line is_range names_part is_slot is_register words_in_line
of_fault = refl

-- headings: of bus 1f the section of I/O has the number 62, that of memory 63
of_io : heading_told (codes "bus 1f io") ≡ InSection 62
unfolding heading_told is_register words_in_line
of_io = refl

of_memory : heading_told (codes "bus 1f mem") ≡ InSection 63
unfolding heading_told is_register words_in_line
of_memory = refl

-- a bus in other digits
of_no_bus : heading_told (codes "bus 1F io") ≡ Off
unfolding heading_told is_register words_in_line
of_no_bus = refl

of_outside : heading_told (codes "outside") ≡ Lost
unfolding heading_told is_register words_in_line
of_outside = refl

of_unreached : heading_told (codes " unreached") ≡ Lost
unfolding heading_told is_register words_in_line
of_unreached = refl

of_off : heading_told (codes "off") ≡ Off
unfolding heading_told is_register words_in_line
of_off = refl

-- a map with a line before its headings, with two sections, and with what is out of place and off
abbrev headed_map : List ℕ
headed_map = codes "  a-b 2 free" ++ 10 ∷ (codes "bus 00 io" ++ 10 ∷ (codes "  c-d 2 free" ++ 10 ∷ (codes "bus 00 mem" ++ 10 ∷ (codes "  e-f 2 free"
    ++ 10 ∷ (codes "    0-1 2 free" ++ 10 ∷ (codes "outside" ++ 10 ∷ (codes "  2-3 2 free" ++ 10 ∷ (codes "off" ++ 10 ∷ codes "  4-5 2 free"))))))))

below_io : lines_below_headings (is_section 0) (headed_regions headed_map) ≡ codes "c-d 2 free" ∷ []
unfolding heading_told read_on is_region_line is_range names_part is_register words_in_line
below_io = refl

below_memory : lines_below_headings (is_section 1) (headed_regions headed_map) ≡ codes "e-f 2 free" ∷ codes "0-1 2 free" ∷ []
unfolding heading_told read_on is_region_line is_range names_part is_register words_in_line
below_memory = refl

out_of_place : lines_below_headings is_lost (headed_regions headed_map) ≡ codes "2-3 2 free" ∷ []
unfolding heading_told read_on is_region_line is_range names_part is_register words_in_line
out_of_place = refl

below_none : lines_below_headings is_below_no_heading (headed_regions headed_map) ≡ codes "a-b 2 free" ∷ codes "4-5 2 free" ∷ []
unfolding heading_told read_on is_region_line is_range names_part is_register words_in_line
below_none = refl

-- how deep the lines of a map stand: a line inside another one, and lines out of place and off
abbrev depths_of : List ℕ → List ℕ
depths_of text = map (λ region. region.depth) (headed_regions text)

depths_by_blanks : depths_of headed_map ≡ 1 ∷ 1 ∷ 1 ∷ 2 ∷ 1 ∷ 1 ∷ []
unfolding heading_told read_on depth_behind is_region_line is_range names_part is_register words_in_line
depths_by_blanks = refl

-- what is below `unclaimed S` stands beside the lines of its root bus, and inside each other as before
unclaimed_depths : depths_of (codes "bus 00 mem" ++ 10 ∷ (codes "  a-b 2 free" ++ 10 ∷ (codes "  unclaimed 00:1e.0" ++ 10 ∷ (codes "    c-d 2 free" ++ 10 ∷ codes "      c-c 1 free"))))
    ≡ 1 ∷ 1 ∷ 2 ∷ []
unfolding heading_told read_on depth_behind is_region_line is_range names_part is_register words_in_line
unclaimed_depths = refl

-- a line is one step deeper at most than the line before it, and stands inside nothing right below a heading
steps_of_three : depths_of (codes "bus 00 mem" ++ 10 ∷ (codes "      a-f 6 free" ++ 10 ∷ (codes "        a-b 2 free" ++ 10 ∷ (codes "bus 00 io" ++ 10 ∷ codes "    a-b 2 free"))))
    ≡ 1 ∷ 2 ∷ 1 ∷ []
unfolding heading_told read_on depth_behind is_region_line is_range names_part is_register words_in_line
steps_of_three = refl

-- two sections of one number are refused
one_section : (regions : List Headed) (one other : Section) → one.number ≡ other.number → AreSectionsOf regions (one ∷ other ∷ []) → ⊥
one_section regions one other same are = omega (arith, are.rise 0 1 one (omega arith) (omega arith), same)

-- a fault names two regions at its end, or one behind its number and its name
of_clash : keys_of_fault 61 (words_in_line (codes "61 Clash bus 00 io 00000720 00:1f.3 20 00:1f.2 20")) ≡ (499 * 65536 + 32) ∷ (498 * 65536 + 32) ∷ []
unfolding keys_of_fault key_of_words number_in_slot slot_number_of is_slot is_register words_in_line
of_clash = refl

of_one_region : keys_of_fault 60 (words_in_line (codes "60 Unreached 02:00.0 10 mem 00:02.0")) ≡ (2 * 4096 * 65536 + 16) ∷ []
unfolding keys_of_fault key_of_words number_in_slot slot_number_of is_slot is_register words_in_line
of_one_region = refl

-- a told range, and what is no register
of_told : keys_of_fault 63 (words_in_line (codes "63 Outside 01:00.0 +2")) ≡ (4096 * 65536 + 258) ∷ []
unfolding keys_of_fault key_of_words number_in_slot slot_number_of is_slot is_register is_told_number words_in_line
of_told = refl

of_no_region : keys_of_fault 63 (words_in_line (codes "63 Outside 01:00.0 +0")) ≡ []
unfolding keys_of_fault key_of_words number_in_slot slot_number_of is_slot is_register is_told_number words_in_line
of_no_region = refl

-- the first line of a fault, its reason, and a word that is no number
of_first_line : number_before_blank (codes "61 Clash") ≡ Some 61
unfolding number_before_blank
of_first_line = refl

of_reason : number_before_blank (codes "  shared 00000720-0000073f 32") ≡ None
unfolding number_before_blank
of_reason = refl

-- a prefetchable BAR in a window that clashes, and one out of place
of_pref : look_with true false (look_of_part (words_in_line (codes "e0000000-efffffff 256M bar pref 01:00.0 18"))) ≡ codes "pref clash"
unfolding look_of_part words_in_line
of_pref = refl

of_lost_rom : look_with false true (look_of_part (words_in_line (codes "fe500000-fe50ffff 64K rom 02:00.0 30"))) ≡ codes "rom lost"
unfolding look_of_part words_in_line
of_lost_rom = refl

-- a fault with a reason
of_two_lines : faults_said (codes "61 Clash" ++ 10 ∷ codes "  shared d040-d05f 32") ≡ record { number = 61; lines = codes "61 Clash" ∷ codes "shared d040-d05f 32" ∷ [] } ∷ []
unfolding number_before_blank
of_two_lines = refl
