-- Room behind hot-plug slots: which bridges have a slot, and how large the spare behind one is.
use Rattle.std.specs.Prelude.{ℕ, zero, suc, ◌*◌, ◌%◌, ◌==◌, nat_lt, Bool, ◌&&◌, if◌then◌else◌, List, [], ◌∷◌, ◌++◌, Option, None, Some}
use Rattle.std.specs.List.{list_any}
use Rattle.pci_spec.specs.Slot.{same_slot}
use Rattle.pci_spec.specs.Window.{WindowKind, page_size}
use Rattle.pci_spec.specs.System.{Function, is_bridge}
use Rattle.plan_spec.specs.Plan.{raised_to}
use Rattle.settle_spec.specs.FirstPlace.{Extent}
use Rattle.settle_spec.specs.Lists.{Request, wanted_in}

abbrev pub has_slot : Request → Function → Bool
has_slot q f = list_any (same_slot f.slot) q.slots && is_bridge f

-- twice as much, as often as it divides a number
unfoldable pub doubled_in : ℕ → ℕ → ℕ → ℕ
doubled_in n zero size = size
doubled_in n (suc times) size = if n % (2 * size) == 0 then doubled_in n times (2 * size) else size

-- the greatest power of two that divides a number, up to 2^64
abbrev pub power_in : ℕ → ℕ
power_in n = doubled_in n 64 1

-- a spare is whole pages, aligned to the greatest power of two that divides its size
abbrev pub spare_extent : WindowKind → ℕ → ℕ → Extent
spare_extent c wanted highest = record {
  size = raised_to (page_size c) wanted;
  alignment = power_in (raised_to (page_size c) wanted);
  highest = highest;
}

-- the spare of a class behind a bridge, whose window can hold no higher address than this
abbrev pub spare_below : Request → WindowKind → Function → ℕ → Option Extent
spare_below q c b highest =
    if has_slot q b && nat_lt 0 (wanted_in q.spares c)
    then Some (spare_extent c (wanted_in q.spares c) highest) else None

-- extents with a spare behind them
abbrev pub with_spare : Option Extent → List Extent → List Extent
with_spare None extents = extents
with_spare (Some e) extents = extents ++ e ∷ []
