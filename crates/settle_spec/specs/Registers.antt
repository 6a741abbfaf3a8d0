-- What registers show a place, and which parts can change (PCI 3.0, 6.2.2 and 6.2.5; Bridge 1.2, 3.2.5).
use Rattle.std.specs.Prelude.{ℕ, suc, ◌+◌, ◌-◌, Bool, ◌&&◌, ◌||◌, not, if◌then◌else◌, List, map}
use Rattle.std.specs.List.{list_any, filter}
use Rattle.pci_spec.specs.Header.{layout, bar_register, rom_register}
use Rattle.pci_spec.specs.Bar.{bar_at, is_wide}
use Rattle.pci_spec.specs.Window.{bounds_for, closed_bounds}
use Rattle.pci_spec.specs.System.{System, Function, Space, Part, Bar, Rom, Window, is_window, is_implemented}
use Rattle.plan_spec.specs.Plan.{is_open}
use Rattle.plan_spec.specs.Place.{nibble_of}
use Rattle.plan_spec.specs.Planning.Showing.{bar_value, rom_value}
use Rattle.judge_spec.specs.ToldRegion.{ToldRegion, told_regions}
use Rattle.pci_spec.specs.Slot.{same_slot}
use Rattle.settle_spec.specs.Lines.{is_command_line}
use Rattle.settle_spec.specs.Lists.{Request}
use Rattle.settle_spec.specs.Parts.{FunctionPart, function_parts, header_parts, is_part, are_same_space}
use Rattle.settle_spec.specs.Stands.{part_space, range_stands}
use Rattle.settle_spec.specs.Items.{Placed}
use Rattle.judge_spec.specs.Windows.{with_bounds, with_number}

-- an image with a part of the function at its place
abbrev pub with_place : Function → Part → Placed → List ℕ → List ℕ
with_place f (Bar n) p image =
    with_number (if is_wide (bar_at f.probe n) then 8 else 4) (bar_register n)
    (bar_value f.image f.probe n p.at) image
with_place f Rom p image =
    with_number 4 (rom_register (layout f.image)) (rom_value f.image p.at) image
with_place f (Window c) p image =
    with_bounds c (bounds_for c (nibble_of c f) p.at (p.at + (p.item.extent.size - 1))) image

-- a window closed as in planning, where it was open
abbrev pub closed_if_open : Function → Part → List ℕ → List ℕ
closed_if_open f (Window c) image =
    if is_open f c then with_bounds c (closed_bounds c (nibble_of c f)) image else image
closed_if_open f p image = image

-- what can change: the parts, and windows that are closed
abbrev pub changing : Request → System → Function → List FunctionPart
changing q s f =
    map (λ p. record { function = f; part = p })
    (filter (λ p. is_part q s f p || (is_window p && is_implemented f p)) (header_parts f))

-- ---- Command

-- a `command` range of a function stands in a space
abbrev pub is_answered_by : Request → System → Space → Function → ToldRegion → Bool
is_answered_by q s space f x =
    is_command_line x && same_slot x.told.slot f.slot && are_same_space space x.told.space
    && range_stands q s x

-- a function has something of a space to answer: such a range, a BAR or a ROM
abbrev pub has_own : Request → System → Space → Function → Bool
has_own q s space f =
    list_any (is_answered_by q s space f) (told_regions q.told)
    || list_any (λ r. are_same_space space (part_space r) && not (is_window r.part)) (function_parts q s f)
