-- What a function has in a space once all has its place: what is left, what got a place, and what is its own.
use Rattle.std.specs.Prelude.{◌-◌, ◌/◌, Bool, false, ◌&&◌, ◌||◌, not, Option, None, Some}
use Rattle.std.specs.Option.{is_some}
use Rattle.std.specs.List.{list_any}
use Rattle.pci_spec.specs.Registers.{BASE_ADDRESS}
use Rattle.pci_spec.specs.System.{System, Function, Space, Io, Memory, Bar, is_window}
use Rattle.settle_spec.specs.Lists.{Request}
use Rattle.settle_spec.specs.Parts.{are_same_space, function_parts}
use Rattle.settle_spec.specs.Stands.{part_space}
use Rattle.pci_base.specs.Space.{is_on}
use Rattle.pci_image.specs.declared.bar.Bar.{Bar as CodeBar}
use Rattle.pci_image.specs.declared.rom.Rom.{Rom as CodeRom}
use Rattle.pci_function.specs.declared.record.Bridge.{Bridge}
use Rattle.pci_function.specs.declared.record.Record.{Record}
use Rattle.pci_place.specs.declared.above.Above.{Above}
use Rattle.pci_place.specs.Classes.{is_io_kind}
use Rattle.pci_first_fit.specs.declared.own.Terms.{Terms}
use Rattle.pci_first_fit.specs.Own.{is_left_bar}
use Rattle.pci_settle_places.specs.declared.places.Places.{Places}
use Rattle.pci_settle_places.specs.Places.{place_range_in}

abbrev pub is_bar_in : Space → CodeBar → Bool
is_bar_in Io bar = is_io_kind bar.kind
is_bar_in Memory bar = not (is_io_kind bar.kind)

-- ---- what is left

abbrev pub has_left_bar : Record → Above → Terms → Bool
has_left_bar r above t = list_any (λ bar. is_left_bar bar above t.has_io) r.bars.items

-- ---- what got a place

abbrev pub is_placed_bar : Space → Places → CodeBar → Bool
is_placed_bar space p bar =
    is_bar_in space bar && is_some (place_range_in p (Bar ((bar.reg - BASE_ADDRESS) / 4)))

abbrev pub has_placed_window : Space → Places → Option Bridge → Bool
has_placed_window space p None = false
has_placed_window space p (Some b) =
    (is_some b.windows.io && (are_same_space space Io && is_some p.windows.io))
    || ((are_same_space space Memory && is_some p.windows.memory)
    || (is_some b.windows.pref && (are_same_space space Memory && is_some p.windows.prefetchable)))

abbrev pub has_placed : Space → Places → Record → Bool
has_placed space p r =
    list_any (is_placed_bar space p) r.bars.items
    || (has_placed_window space p r.bridge || (are_same_space space Memory && is_some p.rom))

-- ---- what is its own

abbrev pub is_kept_bar : Space → Above → Terms → CodeBar → Bool
is_kept_bar space above t bar = is_bar_in space bar && not (is_left_bar bar above t.has_io)

abbrev pub is_rom_on : Option CodeRom → Bool
is_rom_on None = false
is_rom_on (Some rom) = rom.on

abbrev pub has_kept : Space → Above → Terms → Record → Bool
has_kept space above t r =
    list_any (is_kept_bar space above t) r.bars.items
    || (are_same_space space Memory && is_rom_on r.rom)

-- a function has a BAR or ROM of a space
abbrev pub has_own_part : Request → System → Space → Function → Bool
has_own_part q s space f =
    list_any (λ r. are_same_space space (part_space r) && not (is_window r.part)) (function_parts q s f)

-- ---- whether its space is enabled, where something live is behind it or not

abbrev pub is_enabled_by : Space → Places → Above → Terms → Record → Bool → Bool
is_enabled_by space p above t r behind =
    not (are_same_space space Io && has_left_bar r above t)
    && (is_on r.command space || has_placed space p r || behind)
