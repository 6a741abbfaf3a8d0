-- What a picture says first: its title, and how many functions, regions and faults there are.
use Rattle.std.specs.Prelude.{ℕ, Bool, ◌==◌, ◌&&◌, not, List, [], ◌++◌, codes, length, if◌then◌else◌}
use Rattle.std.specs.Fmt.{decimal}
use Rattle.std.specs.List.{filter}
use Rattle.pci_picture.specs.Elements.{words_text}
use Rattle.pci_picture.specs.Headings.{Headed, is_in_section}
use Rattle.pci_picture.specs.Lines.{words_in_line}
use Rattle.pci_picture.specs.Marks.{key_of_region}

-- a region that is counted stands in a section and has a key, which free addresses do not have
abbrev pub is_counted_region : Headed → Bool
is_counted_region region = is_in_section region.heading && not (key_of_region (words_in_line region.line) == 0)

abbrev pub count_of_regions : List Headed → ℕ
count_of_regions regions = length (filter is_counted_region regions)

-- a number of faults in words
abbrev pub count_of_faults : ℕ → List ℕ
count_of_faults faults =
    if faults == 0 then codes "no fault" else (if faults == 1 then codes "1 fault" else decimal faults ++ codes " faults")

-- numbers of functions, of regions and of faults in words
abbrev pub words_of_counts : ℕ → ℕ → ℕ → List ℕ
words_of_counts functions regions faults =
    decimal functions ++ codes " functions, " ++ decimal regions ++ codes " regions; " ++ count_of_faults faults
    ++ codes ". Heights grow with the logarithm of sizes."

-- the title, and the counts 20 units below it
abbrev pub counts_text : ℕ → ℕ → ℕ → List ℕ
counts_text functions regions faults =
    words_text 16 26 (codes "title") (codes "pciplan") ++ words_text 16 46 [] (words_of_counts functions regions faults)
