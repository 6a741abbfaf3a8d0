-- Room behind slots, and what is asked of places: lists of ranges, that room, and what is told of beside BARs and ROMs.
use Rattle.std.specs.Prelude.{ℕ, nat_lt, min, if◌then◌else◌, List, [], Option, None, Some}
use Rattle.std.specs.List.{list_any}
use Rattle.pci_spec.specs.Slot.{Slot, same_slot}
use Rattle.pci_spec.specs.Window.{WindowKind, IoWindow, MemoryWindow, PrefetchWindow}
use Rattle.judge_spec.specs.ToldClaims.{Told, nothing_told}
use Rattle.settle_spec.specs.FirstPlace.{Extent as ExtentValue}
use Rattle.settle_spec.specs.Lists.{Request, Spares, no_spares}
use Rattle.settle_spec.specs.Lists as ranges
use Rattle.settle_spec.specs.Spares.{spare_extent}
use Rattle.pci_first_fit.specs.declared.list.Lists.{Lists}
use Rattle.pci_first_fit.specs.declared.slots.Slots.{Slots}
use Rattle.pci_first_fit.specs.Lists.{lists_value}

-- a greater number counts as this one, so that whole pages of them are fewer than 2^64
abbrev pub most_wanted : ℕ
most_wanted = 0xffff_ffff_fff0_0000

-- how many addresses of a class are wanted behind each slot
abbrev pub wanted_of : Slots → WindowKind → ℕ
wanted_of w IoWindow = min w.io most_wanted
wanted_of w MemoryWindow = min w.mem most_wanted
wanted_of w PrefetchWindow = min w.pref most_wanted

-- and behind a bridge: none where it has no slot
abbrev pub wanted_at : Slots → Slot → WindowKind → ℕ
wanted_at w bridge c = if list_any (same_slot bridge) w.bridges.now then wanted_of w c else 0

-- the spare of a new window with so many addresses wanted behind its items
abbrev pub spare_by : WindowKind → ℕ → ℕ → Option ExtentValue
spare_by c wanted highest = if nat_lt 0 wanted then Some (spare_extent c wanted highest) else None

-- ---- what is asked of places

pub record Demand : Type 0 where
  pub lists : ranges.Lists
  pub slots : List Slot
  pub spares : Spares
  pub told : Told

abbrev pub demand_of : Request → Demand
demand_of q = record { lists = q.lists; slots = q.slots; spares = q.spares; told = q.told }

abbrev pub spares_value : Slots → Spares
spares_value w = record {
  io = wanted_of w IoWindow;
  memory = wanted_of w MemoryWindow;
  prefetch = wanted_of w PrefetchWindow;
}

-- lists alone, with no room behind slots, and nothing told
abbrev pub lists_alone : ranges.Lists → Demand
lists_alone l = record { lists = l; slots = []; spares = no_spares; told = nothing_told [] }

-- what lists tell of beside BARs and ROMs: nobody is asleep where settling is asked for
abbrev pub told_of_lists : Lists → Told
told_of_lists l = record { ranges = l.told.ranges.now; asleep = [] }

-- that of the code
abbrev pub demand_value : Lists → Demand
demand_value l = record {
  lists = lists_value l;
  slots = l.slots.bridges.now;
  spares = spares_value l.slots;
  told = told_of_lists l;
}

-- the same with the list of I/O alone
abbrev pub demand_in_io : Demand → Demand
demand_in_io d =
    record d { lists = record { io = d.lists.io; memory = []; prefetch = [] } }
