-- The line of a region, by the fields of its value.
use Rattle.std.specs.Prelude.{ℕ, ◌==◌, Bool, false, if◌then◌else◌, List, [], ◌∷◌, ◌++◌}
use Rattle.pci_spec.specs.Registers.{IO_BASE, MEMORY_BASE}
use Rattle.pci_spec.specs.System.{Space}
use Rattle.pci_spec.specs.System as system
use Rattle.pci_spec.specs.Window.{IoWindow, MemoryWindow, PrefetchWindow}
use Rattle.pci_spec.specs.Listing.{inner_line}
use Rattle.pci_spec.specs.Why.{part_text, place_words}
use Rattle.pci_tree.specs.declared.region.Part.{Part}
use Rattle.pci_tree.specs.declared.region.Part.TheVariants.{Bar, Rom, Window}
use Rattle.pci_tree.specs.declared.region.Region.{Region}
use Rattle.pci_tree.specs.Regions.{is_of_window}
use Rattle.judge_spec.specs.Given.{Given}
use Rattle.pci_why.specs.Lines.{ended}
use Rattle.judge_spec.specs.Why.{isa_words}
use Rattle.pci_claims.specs.Found.{bounds_range}

abbrev pub bar_words : Space → Bool → List ℕ
bar_words space prefetch = part_text (system.Bar 0) space prefetch

-- the window whose register this is
abbrev pub window_at : ℕ → List ℕ
window_at reg =
    if reg == IO_BASE then part_text (system.Window IoWindow) system.Io false
    else if reg == MEMORY_BASE then part_text (system.Window MemoryWindow) system.Memory false
    else part_text (system.Window PrefetchWindow) system.Memory false

abbrev pub words_of : Part → ℕ → Space → Bool → List ℕ
words_of Bar reg space prefetch = bar_words space prefetch
words_of Rom reg space prefetch = part_text system.Rom system.Memory false
words_of Window reg space prefetch = window_at reg

-- what a region is
abbrev pub part_words : Region → Space → List ℕ
part_words q space = words_of q.part q.reg space q.prefetch

-- its line, with what ends it
abbrev pub line_ended : List ℕ → Space → Region → List ℕ → List ℕ
line_ended word space q end =
    32 ∷ ended (word ∷ place_words q.slot q.reg (part_words q space) space (bounds_range q)) end

-- what the line of a region tells of ISA Enable
abbrev pub isa_words_at : Given → Space → Region → List (List ℕ)
isa_words_at given space q = if is_of_window q.part then isa_words given space q.slot else []

-- the line of a region, with what is given
abbrev pub given_line_of : Given → List ℕ → Space → Region → List ℕ
given_line_of given word space q =
    inner_line (word ∷ place_words q.slot q.reg (part_words q space) space (bounds_range q)
    ++ isa_words_at given space q)
