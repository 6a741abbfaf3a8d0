-- The first part of a function whose read back is assumed, by its record, is that of the definitions.
use Rattle.std.proofs.Common.{◌≡◌, ℕ, List, [], ◌∷◌, Bool, true, false, cond, ◌&&◌, refl, sym, ◌∙◌, ap, Option, None, Some}
use Rattle.std.specs.Option.{is_some, option_map, option_or}
use Rattle.std.specs.List.{find, flat_map, range_with_len}
use Rattle.pci_spec.specs.Header.{layout, bar_count, bar_register, rom_place}
use Rattle.pci_spec.specs.Bar.{has_bar}
use Rattle.pci_spec.specs.Rom.{has_rom, rom_is_on}
use Rattle.pci_spec.specs.Window.{IoWindow, MemoryWindow, PrefetchWindow}
use Rattle.pci_spec.specs.Decoded.{DecodedBar, DecodedRom, decoded_bar, decoded_rom}
use Rattle.pci_spec.specs.System.{System, Function, Part, Bar, Rom, Window, register_of}
use Rattle.pci_spec.specs.Mark.{AssumedRegister, is_size_assumed}
use Rattle.settle_spec.specs.Parts.{FunctionPart, header_bars, header_parts}
use Rattle.settle_spec.specs.Assumed.{is_assumed_part, is_assumed_register, all_parts_of, assumed_region}
use Rattle.pci_image.specs.declared.bar.Bar.{Bar as CodeBar}
use Rattle.pci_image.specs.declared.rom.Rom.{Rom as CodeRom}
use Rattle.pci_image.specs.Bars.{decoded_bar_of}
use Rattle.pci_image.specs.Roms.{decoded_rom_of}
use Rattle.pci_function.specs.declared.record.Record.{Record}
use Rattle.pci_tree.proofs.Lifting.{same_bridge, same_slot_of}
use Rattle.pci_place.specs.Records.{IsRecordInSystem}
use Rattle.pci_place.proofs.Parts.{bars_in, bars_of, rom_of, rom_there}
use Rattle.pci_place.proofs.Owned.{no_rom}
use Rattle.pci_settle_places.specs.Claims.{is_rom_on}
use Rattle.pci_settle.specs.declared.lack.SettleFault.TheVariants.{Assumed}
use Rattle.pci_settle.specs.Fixed.{assumed_part, first}
use Rattle.pci_settle.specs.Assumed.{bar_assumed, rom_assumed, record_assumed}
use Rattle.pci_settle.proofs.Firsts.{first-append, first-filter, first-map, first_pair, map_twice}

-- where no register is named none is found
pub none_named : (s : System) → option_map assumed_part (assumed_region [] s) ≡ None
none_named s = ap (option_map assumed_part) (none_found (flat_map all_parts_of s)) where
  no_part : (x : FunctionPart) → is_assumed_register [] x ≡ false
  no_part x = part_by x.function x.part where
    and_none : (b : Bool) → (b && false) ≡ false
    and_none true = refl
    and_none false = refl

    part_by : (f : Function) (part : Part) → is_assumed_part [] f part ≡ false
    part_by f (Bar n) = and_none (has_bar f.probe n)
    part_by f Rom = and_none (has_rom f.image f.probe && rom_is_on f.image)
    part_by f (Window kind) = refl

  none_found : (xs : List FunctionPart) → find (is_assumed_register []) xs ≡ None
  none_found [] = refl
  none_found (x ∷ xs) = ap (λ b. cond b (Some x) (find (is_assumed_register []) xs)) (no_part x) ∙ none_found xs

one_of : {X Z : Type 0} (value : X → Z) (b : Bool) (x : X) → option_map value (cond b (Some x) None) ≡ cond b (Some (value x)) None
one_of value true x = refl
one_of value false x = refl

module _ (named : List AssumedRegister) (s : System) (f : Function) (r : Record) (is : IsRecordInSystem s f r) where
  abbrev lacks : Part → Bool
  lacks part = is_assumed_part named f part

  abbrev all : List ℕ
  all = range_with_len 0 (bar_count (layout f.image))

  bar_same : (bar : CodeBar) (n : ℕ) → decoded_bar_of bar ≡ decoded_bar f.image f.probe n → (is_size_assumed named f.slot bar.reg ≡ is_size_assumed named f.slot (bar_register n)) × (bar.reg ≡ bar_register n)
  bar_same bar n e =
      let register : bar.reg ≡ bar_register n = ap (λ (x : DecodedBar). x.register) e in
      (ap (is_size_assumed named f.slot) register, register)

  bars_are : bar_assumed named r.slot r.bars.items ≡ first (register_of f) lacks (header_bars f)
  bars_are =
      ap (λ slot. bar_assumed named slot r.bars.items) (same_slot_of r f is.value)
      ∙ first_pair decoded_bar_of (decoded_bar f.image f.probe) (λ bar. bar.reg) bar_register (λ bar. is_size_assumed named f.slot bar.reg) (λ n. is_size_assumed named f.slot (bar_register n)) bar_same r.bars.items (bars_in f)
      (bars_of s f r is)
      ∙ first-filter bar_register (has_bar f.probe) (λ n. is_size_assumed named f.slot (bar_register n)) all ∙ sym (first-map (register_of f) lacks Bar all)

  rom_on : (o : Option CodeRom) → option_map decoded_rom_of o ≡ decoded_rom f.image f.probe → is_rom_on o ≡ (has_rom f.image f.probe && rom_is_on f.image)
  rom_on None e = sym (ap (λ b. b && rom_is_on f.image) (no_rom (has_rom f.image f.probe) _ e))
  rom_on (Some rom) e =
      let there = rom_there (has_rom f.image f.probe) (decoded_rom_of rom) _ e in
      ap (λ (x : DecodedRom). x.on) there.1 ∙ sym (ap (λ b. b && rom_is_on f.image) there.0)

  rom_is : rom_assumed named r ≡ cond (lacks Rom) (Some (register_of f Rom)) None
  rom_is =
      ap (λ b. cond (b && is_size_assumed named r.slot (rom_place (is_some r.bridge))) (Some (rom_place (is_some r.bridge))) None) (rom_on r.rom (rom_of s f r is))
      ∙ ap (λ slot. cond ((has_rom f.image f.probe && rom_is_on f.image) && is_size_assumed named slot (rom_place (is_some r.bridge))) (Some (rom_place (is_some r.bridge))) None) (same_slot_of r f is.value)
      ∙ ap (λ b. cond ((has_rom f.image f.probe && rom_is_on f.image) && is_size_assumed named f.slot (rom_place b)) (Some (rom_place b)) None) (same_bridge r f is.value)

  abbrev others : List Part
  others = Window IoWindow ∷ Window MemoryWindow ∷ Window PrefetchWindow ∷ Rom ∷ []

  parts_are : option_or (bar_assumed named r.slot r.bars.items) (rom_assumed named r) ≡ first (register_of f) lacks (header_parts f)
  parts_are =
      ap (λ o. option_or o (rom_assumed named r)) bars_are
      ∙ ap (λ o. option_or (first (register_of f) lacks (header_bars f)) o) (rom_is ∙ sym (one_of (register_of f) (lacks Rom) Rom))
      ∙ sym (first-append (register_of f) lacks (header_bars f) others)

  pub record_is : record_assumed named r ≡ first assumed_part (is_assumed_register named) (all_parts_of f)
  record_is =
      ap (option_map (Assumed r.slot)) parts_are
      ∙ ap (λ slot. option_map (Assumed slot) (first (register_of f) lacks (header_parts f))) (same_slot_of r f is.value)
      ∙ map_twice (Assumed f.slot) (register_of f) (find lacks (header_parts f))
      ∙ sym (first-map assumed_part (is_assumed_register named) (λ p. record { function = f; part = p }) (header_parts f))
