-- Bridges with legacy parts, with palette parts and with ISA Enable, by their blocks.
use Rattle.std.specs.Prelude.{List, [], map}
use Rattle.std.specs.List.{filter}
use Rattle.pci_spec.specs.Slot.{Slot}
use Rattle.pci_spec.specs.Text.{Block}
use Rattle.pci_spec.specs.System.{Function}
use Rattle.judge_spec.specs.Given as spec
use Rattle.judge_spec.specs.Words as words
use Rattle.judge_spec.specs.Words.{has_isa_enable, has_legacy, has_palette, legacy_bridge}

-- a function whose registers read back nothing: no read back says what its legacy part is
abbrev pub function_without_probe : Block → Function
function_without_probe b = record { slot = b.slot; image = b.image; probe = [] }

abbrev pub legacy_bridges_shown : words.VgaWord → List Block → List spec.LegacyBridge
legacy_bridges_shown word blocks =
    map (λ b. legacy_bridge word (function_without_probe b)) (filter (λ b. has_legacy (function_without_probe b)) blocks)

-- by the word for 16 bits, or as Bridge Control says
abbrev pub palette_bridges_shown : words.VgaWord → List Block → List spec.LegacyBridge
palette_bridges_shown word blocks =
    map (λ b. legacy_bridge word (function_without_probe b)) (filter (λ b. has_palette (function_without_probe b)) blocks)

abbrev pub isa_bridges_shown : List Block → List Slot
isa_bridges_shown blocks =
    map (λ b. b.slot) (filter (λ b. has_isa_enable (function_without_probe b)) blocks)
