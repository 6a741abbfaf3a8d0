-- Which addresses are cuts.
use Rattle.std.specs.Prelude.{◌≡◌, ◌+◌, ℕ, Bool, true, false, not, List, [], ◌∷◌, ◌++◌, map}
use Rattle.std.specs.List.{Any, filter, flat_map}
use Rattle.pci_picture.specs.Heights.{AddressRange}
use Rattle.pci_picture.specs.declared.heights.Cut.{Cut}
use Rattle.pci_picture.specs.declared.tellings.Told.{Told as ToldRange}
use Rattle.pci_picture.specs.declared.region.Part.{Part}
use Rattle.pci_picture.specs.declared.region.Part.TheVariants.{Bar, Prefetchable, Rom, Window, Told, Held, Free}
use Rattle.pci_picture.specs.declared.region.Region.{Region}

-- an address is a cut
abbrev pub HasCutAt : List Cut → ℕ → Type 0
HasCutAt cuts address = Any (λ cut. cut.at ≡ address) cuts

abbrev pub is_window_part : Part → Bool
is_window_part Bar = false
is_window_part Prefetchable = false
is_window_part Rom = false
is_window_part Window = true
is_window_part Told = false
is_window_part Held = false
is_window_part Free = false

-- a region is a window, or is none
abbrev pub is_of_kind : Bool → Region → Bool
is_of_kind true region = is_window_part region.part
is_of_kind false region = not (is_window_part region.part)

-- ---- the cuts of a section

-- where a region begins, up to its end, and where it ends
abbrev pub cut_of_region : Region → Cut
cut_of_region region = record { at = region.first; end = region.last + 1 }

abbrev pub end_of_region : Region → Cut
end_of_region region = record { at = region.last + 1; end = region.last + 1 }

-- the ends of regions that are windows, or of all others
abbrev pub ends_of_kind : Bool → List Region → List Cut
ends_of_kind of_windows regions = map end_of_region (filter (is_of_kind of_windows) regions)

-- both ends of a range that a fault tells; it counts as covered by nothing
abbrev pub ends_of_told : ToldRange → List Cut
ends_of_told range = record { at = range.first; end = range.first } ∷ record { at = range.last + 1; end = range.last + 1 } ∷ []

abbrev pub ends_of_all_told : List ToldRange → List Cut
ends_of_all_told ranges = flat_map ends_of_told ranges

-- those of some regions and of the ranges that are shared, or where something fits
abbrev pub cuts_told : List Region → List ToldRange → List ToldRange → List Cut
cuts_told regions shared fits =
    map cut_of_region regions ++ ends_of_kind false regions ++ ends_of_kind true regions ++ ends_of_all_told shared ++ ends_of_all_told fits

abbrev pub extents_told : List ToldRange → List AddressRange
extents_told ranges = map (λ range. record { first = range.first; last = range.last }) ranges
