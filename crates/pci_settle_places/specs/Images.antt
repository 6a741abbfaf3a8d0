-- The image of a function with its parts at the places that they get.
use Rattle.std.specs.Prelude.{◌≡◌, ℕ, ◌-◌, ◌/◌, Bool, IsTrue, IsFalse, List, Option, None, Some}
use Rattle.std.specs.Option.{is_some, option_map}
use Rattle.std.specs.List.{fold}
use Rattle.pci_spec.specs.Number.{number_at}
use Rattle.pci_spec.specs.Registers.{BASE_ADDRESS}
use Rattle.pci_spec.specs.Header.{rom_place}
use Rattle.pci_spec.specs.Window.{WindowKind, IoWindow, MemoryWindow, PrefetchWindow}
use Rattle.pci_spec.specs.System.{System, Function, Part, Bar, Window, IsSystem, has_part, is_window}
use Rattle.pci_spec.specs.Bus.{IsNested}
use Rattle.plan_spec.specs.Plan.{is_open}
use Rattle.settle_spec.specs.Lists.{Request}
use Rattle.settle_spec.specs.Parts.{addresses}
use Rattle.settle_spec.specs.Stands.{window_part}
use Rattle.settle_spec.specs.Kept.{Kept, range_or}
use Rattle.settle_spec.specs.Keeping.Places.{new_place}
use Rattle.pci_base.specs.declared.range.Range.{Range}
use Rattle.pci_base.specs.declared.window_kind.ByKind.{ByKind}
use Rattle.pci_base.specs.Ranges.{decoded_range_of}
use Rattle.pci_image.specs.declared.bar.Bar.{Bar as CodeBar}
use Rattle.pci_image.specs.declared.window.Windows.{Windows}
use Rattle.pci_function.specs.declared.record.Bridge.{Bridge}
use Rattle.pci_function.specs.declared.record.Record.{Record}
use Rattle.pci_place.specs.Records.{IsRecordInSystem}
use Rattle.pci_first_fit.specs.Keeping.{told_of_kind}
use Rattle.pci_settle_places.specs.declared.places.Places.{Places}
use Rattle.pci_settle_places.specs.Places.{place_range_in, placed_at}
use Rattle.pci_settle_places.specs.Shown.{with_bar, with_rom, with_optional, with_wished}

-- ---- by what is decoded

-- what a place changes, where there is one
abbrev pub where_placed : (Range → List ℕ → List ℕ) → Option Range → List ℕ → List ℕ
where_placed shown None image = image
where_placed shown (Some place) image = shown place image

abbrev pub with_placed_bar : List ℕ → Places → List ℕ → CodeBar → List ℕ
with_placed_bar old p image bar =
    where_placed (with_bar (number_at old bar.reg 4) bar)
    (place_range_in p (Bar ((bar.reg - BASE_ADDRESS) / 4))) image

abbrev pub with_bars : List ℕ → Places → List CodeBar → List ℕ → List ℕ
with_bars old p bars image = fold (with_placed_bar old p) image bars

abbrev pub with_windows : Places → ByKind Bool → ByKind (Option Range) → ByKind (Option Range) → Windows → List ℕ → List ℕ
with_windows p kept grown wished w image =
    with_wished PrefetchWindow wished.prefetchable w.pref
    (with_optional PrefetchWindow kept.prefetchable grown.prefetchable w.pref p.windows.prefetchable
    (with_wished MemoryWindow wished.memory (Some w.mem)
    (with_optional MemoryWindow kept.memory grown.memory (Some w.mem) p.windows.memory
    (with_wished IoWindow wished.io w.io
    (with_optional IoWindow kept.io grown.io w.io p.windows.io image)))))

abbrev pub with_bridge_windows : Places → ByKind Bool → ByKind (Option Range) → ByKind (Option Range) → Option Bridge → List ℕ → List ℕ
with_bridge_windows p kept grown wished None image = image
with_bridge_windows p kept grown wished (Some b) image = with_windows p kept grown wished b.windows image

abbrev pub with_placed_rom : List ℕ → Places → ℕ → List ℕ → List ℕ
with_placed_rom old p register image =
    where_placed (with_rom (number_at old register 4) register) p.rom image

-- BARs, windows and the ROM of a record
abbrev pub with_parts : List ℕ → Places → ByKind Bool → ByKind (Option Range) → ByKind (Option Range) → Record → List ℕ
with_parts old p kept grown wished r =
    with_placed_rom old p (rom_place (is_some r.bridge))
    (with_bridge_windows p kept grown wished r.bridge (with_bars old p r.bars.items old))

-- ---- by the definitions

-- a function of a system, its record, and the places that its parts get: none for what stays
pub record HasPartPlaces (q : Request) (s : System) (keep : Kept) (f : Function) (r : Record)
    (p : Places) : Type 0 where
  pub system : IsSystem s
  pub nested : IsNested q.roots s
  pub is : IsRecordInSystem s f r
  pub each : (part : Part) → IsTrue (has_part f part)
      → place_range_in p part ≡ placed_at (new_place q s keep record { function = f; part = part })

-- whether the window of a kind is one of those that stay
abbrev pub is_staying_window : ByKind Bool → WindowKind → Bool
is_staying_window kept IoWindow = kept.io
is_staying_window kept MemoryWindow = kept.memory
is_staying_window kept PrefetchWindow = kept.prefetchable

-- and the windows that stay: to what they grow; and the addresses of those in which room is kept free
pub record HasPlacesAndWindows (q : Request) (s : System) (keep : Kept) (f : Function) (r : Record)
    (p : Places) (kept : ByKind Bool) (grown wished : ByKind (Option Range)) : Type 0 where
  pub places : HasPartPlaces q s keep f r p
  pub windows : (c : WindowKind) → IsTrue (has_part f (Window c))
      → is_staying_window kept c ≡ keep.stays (window_part c f)
  pub opened : (c : WindowKind) → IsTrue (has_part f (Window c))
      → IsTrue (keep.stays (window_part c f)) → IsTrue (is_open f c)
  pub ranges : (c : WindowKind) → IsTrue (has_part f (Window c))
      → IsTrue (keep.stays (window_part c f))
      → keep.range (window_part c f)
      ≡ range_or (option_map decoded_range_of (told_of_kind grown c)) (addresses (window_part c f))
  pub wishes : (c : WindowKind)
      → keep.wished (window_part c f) ≡ option_map decoded_range_of (told_of_kind wished c)
  -- it is of windows alone
  pub others : (part : Part) → IsTrue (has_part f part) → IsFalse (is_window part)
      → keep.wished record { function = f; part = part } ≡ None
