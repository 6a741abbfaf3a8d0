-- The lines of regions, by whether ISA Enable cuts them, and of told ranges.
use Rattle.std.specs.Prelude.{ℕ, Bool, if◌then◌else◌, List, [], ◌∷◌, codes}
use Rattle.pci_spec.specs.Text.{hex_byte, slot_text}
use Rattle.pci_spec.specs.Why.{Region}
use Rattle.judge_spec.specs.MapText.{part_name, extent_line}

-- the word of a window that it cuts
abbrev pub isa_word : Bool → List (List ℕ)
isa_word cut = if cut then codes "isa" ∷ [] else []

-- the same, behind a space
abbrev pub isa_ending : Bool → List ℕ
isa_ending cut = if cut then codes " isa" else []

abbrev pub region_line_by : ℕ → Region → Bool → List ℕ
region_line_by depth q cut =
    extent_line depth q.space q.range
    (part_name q.part q.prefetchable ∷ slot_text q.slot ∷ hex_byte q.register ∷ isa_word cut)

-- a name behind a space, where there is one
abbrev pub name_ending : List ℕ → List ℕ
name_ending [] = []
name_ending (c ∷ name) = 32 ∷ c ∷ name
