-- The sizes of what a record has are those of what its function has.
use Rattle.std.proofs.Common.{◌≡◌, ℕ, List, [], ◌∷◌, ◌++◌, map, Option, Some, None, refl, Bool, true, false, cond, not, ◌||◌, sym, ◌∙◌, ap}
use Rattle.std.specs.Bool.{if◌then◌else◌}
use Rattle.std.specs.Option.{option_map}
use Rattle.std.specs.List.{filter, list_any}
use Rattle.std.proofs.lemmas.List.{map-append}
use Rattle.std.proofs.lemmas.List.Elements.{filter-append}
use Rattle.std.proofs.lemmas.List.Folds.{list_any-append}
use Rattle.pci_spec.specs.Bar.{bar_at, is_io}
use Rattle.pci_spec.specs.Rom.{has_rom}
use Rattle.pci_spec.specs.Window.{WindowKind, IoWindow, MemoryWindow, has_window}
use Rattle.pci_spec.specs.Decoded.{DecodedRom, decoded_bar, decoded_rom}
use Rattle.pci_spec.specs.System.{System, Function, Part, Bar, Rom, bars_and_rom}
use Rattle.plan_spec.specs.Plan.{class_of, same_class, size_of, sizes_in, bridges_above, is_io_part}
use Rattle.pci_image.specs.declared.rom.Rom.{Rom as CodeRom}
use Rattle.pci_image.specs.Bars.{decoded_bar_of}
use Rattle.pci_image.specs.Roms.{decoded_rom_of}
use Rattle.pci_function.specs.declared.record.Record.{Record}
use Rattle.pci_place.specs.declared.above.Above.{Above}
use Rattle.pci_place.specs.declared.pools.Pools.{Pools}
use Rattle.pci_place.specs.Pools.{pools_value}
use Rattle.pci_place.specs.Above.{IsAbove}
use Rattle.pci_place.specs.Records.{IsRecordInSystem}
use Rattle.pci_place.specs.Classes.{is_io_kind, bar_class}
use Rattle.pci_place.specs.Sizes.{span, bar_sizes, rom_sizes, record_own_sizes}
use Rattle.pci_place.proofs.Mapped.{filter-map, list_any-map, any_fails, any_same, kept_same}
use Rattle.pci_place.proofs.Parts.{bars_in, rom_in, parts_of, bars_of, rom_of, bar_span, rom_there, rom_span}
use Rattle.pci_place.proofs.ClassOf.{kind_io, class_is}

pub map_twice : {X Y Z : Type 0} (g : Y → Z) (f : X → Y) (xs : List X) → map g (map f xs) ≡ map (λ x. g (f x)) xs
map_twice g f [] = refl
map_twice g f (x ∷ xs) = ap (λ ys. g (f x) ∷ ys) (map_twice g f xs)

pub no_rom : (there : Bool) (y : DecodedRom) → None ≡ (if there then Some y else None) → there ≡ false
no_rom true y e = cc
no_rom false y e = refl

module _ (s : System) (f : Function) (r : Record) (is : IsRecordInSystem s f r) where
  -- ---- I/O BARs

  no_io_rom : (b : Bool) → list_any (is_io_part f) (if b then Rom ∷ [] else []) ≡ false
  no_io_rom true = refl
  no_io_rom false = refl

  or_none : (b : Bool) → (b || false) ≡ b
  or_none true = refl
  or_none false = refl

  -- a record has an I/O BAR where the function has one
  pub any_io : list_any (λ bar. is_io_kind bar.kind) r.bars.items ≡ list_any (is_io_part f) (bars_and_rom f)
  any_io =
      let bars = any_same decoded_bar_of (decoded_bar f.image f.probe) (λ bar. is_io_kind bar.kind) (λ n. is_io (bar_at f.probe n)) (λ bar n e. kind_io f bar n e)
      r.bars.items (bars_in f) (bars_of s f r is) in
      let parts : list_any (is_io_part f) (bars_and_rom f) ≡ list_any (λ n. is_io (bar_at f.probe n)) (bars_in f) =
      ap (list_any (is_io_part f)) (parts_of f)
      ∙ list_any-append (is_io_part f) (map Bar (bars_in f)) (rom_in f)
      ∙ ap (λ b. list_any (is_io_part f) (map Bar (bars_in f)) || b) (no_io_rom (has_rom f.image f.probe))
      ∙ or_none (list_any (is_io_part f) (map Bar (bars_in f)))
      ∙ list_any-map (is_io_part f) Bar (bars_in f) in
      bars ∙ sym parts

  module _ (above : Above) (at : IsAbove s f.slot.bus above) where
    -- some bridge above has no I/O window where not all have one
    pub lacking_above : not above.io ≡ list_any (λ b. not (has_window IoWindow b.probe)) (bridges_above s f.slot.bus)
    lacking_above = ap not at.io ∙ sym (any_fails (λ b. has_window IoWindow b.probe) (bridges_above s f.slot.bus))

    -- ---- sizes

    module _ (pools : Pools) (c : WindowKind) where
      abbrev is_of : Part → Bool
      is_of part = same_class c (class_of s (pools_value pools) f part)

      bar_sizes_are : bar_sizes c above pools r.bars.items ≡ map (λ n. size_of f (Bar n)) (filter (λ n. is_of (Bar n)) (bars_in f))
      bar_sizes_are =
          kept_same decoded_bar_of (decoded_bar f.image f.probe) (λ bar. same_class c (bar_class bar above pools)) (λ n. is_of (Bar n))
          (λ bar n e. ap (same_class c) (class_is s f above pools bar n e at))
          (λ bar. span bar.first bar.last) (λ n. size_of f (Bar n)) (λ bar n e. (bar_span f bar n e).1) r.bars.items (bars_in f) (bars_of s f r is)

      rom_kept : (b : Bool) (size : ℕ) → size ≡ size_of f Rom → cond b (size ∷ []) [] ≡ map (size_of f) (cond b (Rom ∷ []) [])
      rom_kept true size e = ap (λ n. n ∷ []) e
      rom_kept false size e = refl

      rom_sizes_are : (o : Option CodeRom) → option_map decoded_rom_of o ≡ decoded_rom f.image f.probe → rom_sizes c o ≡ map (size_of f) (filter is_of (rom_in f))
      rom_sizes_are None e =
          sym (ap (λ b. map (size_of f) (filter is_of (cond b (Rom ∷ []) []))) (no_rom (has_rom f.image f.probe) _ e))
      rom_sizes_are (Some rom) e =
          rom_kept (same_class c MemoryWindow) (span rom.first rom.last) (rom_span f rom e).1
          ∙ sym (ap (λ b. map (size_of f) (filter is_of (cond b (Rom ∷ []) []))) (rom_there (has_rom f.image f.probe) (decoded_rom_of rom) _ e).0)

      -- the sizes of a class that a record has are those that its function has
      pub sizes_are : record_own_sizes c above pools r ≡ sizes_in s (pools_value pools) c f
      sizes_are =
          let bars : map (size_of f) (filter is_of (map Bar (bars_in f))) ≡ map (λ n. size_of f (Bar n)) (filter (λ n. is_of (Bar n)) (bars_in f)) =
          ap (map (size_of f)) (filter-map is_of Bar (bars_in f)) ∙ map_twice (size_of f) Bar (filter (λ n. is_of (Bar n)) (bars_in f)) in
          let parts : sizes_in s (pools_value pools) c f ≡ map (size_of f) (filter is_of (map Bar (bars_in f))) ++ map (size_of f) (filter is_of (rom_in f)) =
          ap (λ ps. map (size_of f) (filter is_of ps)) (parts_of f)
          ∙ ap (map (size_of f)) (filter-append is_of (map Bar (bars_in f)) (rom_in f))
          ∙ map-append (size_of f) (filter is_of (map Bar (bars_in f))) (filter is_of (rom_in f)) in
          ap (λ xs. xs ++ rom_sizes c r.rom) (bar_sizes_are ∙ sym bars)
          ∙ ap (λ xs. map (size_of f) (filter is_of (map Bar (bars_in f))) ++ xs) (rom_sizes_are r.rom (rom_of s f r is))
          ∙ sym parts
