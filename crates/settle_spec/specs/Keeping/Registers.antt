-- What registers show once everything has its place beside what is kept (PCI 3.0, 6.2.2 and 6.2.5; Bridge 1.2, 3.2.5).
use Rattle.std.specs.Prelude.{ℕ, zero, suc, ◌+◌, ◌==◌, Bool, false, ◌&&◌, ◌||◌, not, if◌then◌else◌, List, map, Option, None, Some}
use Rattle.std.specs.List.{list_any, fold}
use Rattle.std.specs.Option.{is_some}
use Rattle.pci_spec.specs.Registers.{COMMAND}
use Rattle.pci_spec.specs.Header.{command}
use Rattle.pci_spec.specs.Window.{bounds_for}
use Rattle.pci_spec.specs.Decoded.{Range}
use Rattle.pci_spec.specs.Machine.{without_low}
use Rattle.pci_spec.specs.System.{System, Function, Space, Io, Memory, Part, Window, is_bridge, is_space_on}
use Rattle.pci_spec.specs.Bus.{secondary}
use Rattle.plan_spec.specs.Place.{nibble_of}
use Rattle.settle_spec.specs.Lists.{Request}
use Rattle.settle_spec.specs.Parts.{FunctionPart, addresses, has_left, are_same_space}
use Rattle.settle_spec.specs.Stands.{part_space}
use Rattle.settle_spec.specs.Items.{Placed}
use Rattle.settle_spec.specs.Registers.{with_place, closed_if_open, changing, has_own}
use Rattle.judge_spec.specs.Windows.{with_number, with_bounds}
use Rattle.settle_spec.specs.Kept.{Kept}
use Rattle.settle_spec.specs.Keeping.Places.{new_place}

abbrev pub is_same_range : Range → Range → Bool
is_same_range r t = r.first == t.first && r.last == t.last

-- an image where a window has other addresses than before
abbrev pub with_range : Function → Part → Range → List ℕ → List ℕ
with_range f (Window c) r image = with_bounds c (bounds_for c (nibble_of c f) r.first r.last) image
with_range f p r image = image

-- what stays and keeps its addresses keeps all bits, too
abbrev pub with_kept : Kept → FunctionPart → List ℕ → List ℕ
with_kept k r image =
    if is_same_range (k.range r) (addresses r) then image
    else with_range r.function r.part (k.range r) image

-- one that has no place: a window that doesn't stay is closed
abbrev pub without_place : Kept → FunctionPart → List ℕ → List ℕ
without_place k r image =
    if k.stays r then with_kept k r image else closed_if_open r.function r.part image

abbrev pub shown : Kept → FunctionPart → Option Placed → List ℕ → List ℕ
shown k r None image = without_place k r image
shown k r (Some p) image = with_place r.function r.part p image

-- a window in which room is kept free shows that, whatever its place
abbrev pub with_wish : FunctionPart → Option Range → List ℕ → List ℕ
with_wish r None image = image
with_wish r (Some range) image = with_range r.function r.part range image

abbrev pub settled_image : Request → System → Kept → Function → List ℕ
settled_image q s k f =
    fold (λ image r. with_wish r (k.wished r) (shown k r (new_place q s k r) image)) f.image (changing q s f)

-- ---- Command

-- whether a part of the space got a place
abbrev pub got_place : Request → System → Kept → Space → Function → Bool
got_place q s k space f =
    list_any (λ r. are_same_space space (part_space r) && is_some (new_place q s k r)) (changing q s f)

-- the enable of a space: as it was, or for what got a place, or on a bridge for what is live behind it
abbrev pub is_enabled_if : Request → System → Kept → Space → (Function → Bool) → Function → Bool
is_enabled_if q s k space live f =
    not (are_same_space space Io && has_left q s f)
    && (is_space_on f space || got_place q s k space f
    || (is_bridge f && list_any (λ g. g.slot.bus == secondary f && live g) s))

-- whether a function is live: its space is enabled for a BAR or ROM of its own, or for what is behind
unfoldable pub is_live_within : Request → System → Kept → Space → ℕ → Function → Bool
is_live_within q s k space zero f = false
is_live_within q s k space (suc depth) f =
    is_enabled_if q s k space (is_live_within q s k space depth) f
    && (has_own q s space f
    || (is_bridge f && list_any (λ g. g.slot.bus == secondary f && is_live_within q s k space depth g) s))

-- buses rise on the way down, so 256 of them are all
abbrev pub is_enabled_in : Request → System → Kept → Space → Function → Bool
is_enabled_in q s k space f = is_enabled_if q s k space (is_live_within q s k space 256) f

abbrev pub settled_command : Request → System → Kept → Function → ℕ
settled_command q s k f =
    without_low 4 (command f.image) + (if is_enabled_in q s k Io f then 1 else 0)
    + (if is_enabled_in q s k Memory f then 2 else 0)

-- a function as it is to be
abbrev pub settled_function : Request → System → Kept → Function → Function
settled_function q s k f = record {
  slot = f.slot;
  image = with_number 2 COMMAND (settled_command q s k f) (settled_image q s k f);
  probe = f.probe;
}

abbrev pub settled : Request → System → Kept → System
settled q s k = map (settled_function q s k) s
