-- The parts of a record are those of its function: BARs and the ROM, with their sizes.
use Rattle.std.proofs.Common.{◌≡◌, ℕ, ◌+◌, ◌-◌, ◌*◌, ◌/◌, ◌<◌, ◌≤◌, List, [], ◌∷◌, ◌++◌, map, Some, None, refl, Bool, true, false, arith, ◌∙◌, ap}
use Rattle.std.specs.Bool.{if◌then◌else◌}
use Rattle.std.specs.Option.{option_map}
use Rattle.std.specs.List.{filter, range_with_len}
use Rattle.std.proofs.lemmas.Nat.{pow_pos}
use Rattle.std.proofs.lemmas.List.Elements.{filter-append}
use Rattle.pci_spec.specs.Number.{lowest_one}
use Rattle.pci_spec.specs.Header.{layout, bar_count}
use Rattle.pci_spec.specs.Bar.{bar_at, is_io, whole_bar, has_bar}
use Rattle.pci_spec.specs.Rom.{rom_at, has_rom}
use Rattle.pci_spec.specs.Decoded.{DecodedBar, DecodedRom, decoded_bar, decoded_rom, bar_size, rom_size}
use Rattle.pci_spec.specs.Decoded as decoded
use Rattle.pci_spec.specs.System.{System, Function, Part, Bar, Rom, is_implemented, bars_and_rom}
use Rattle.plan_spec.specs.Plan.{size_of}
use Rattle.pci_image.specs.declared.bar.Bar.{Bar as CodeBar}
use Rattle.pci_image.specs.declared.rom.Rom.{Rom as CodeRom}
use Rattle.pci_image.specs.Bars.{decoded_bar_of}
use Rattle.pci_image.specs.Roms.{decoded_rom_of}
use Rattle.pci_function.specs.declared.record.Record.{Record}
use Rattle.pci_place.specs.Records.{IsRecordInSystem}
use Rattle.pci_place.specs.Sizes.{span}
use Rattle.pci_place.proofs.Mapped.{filter-map}

-- ---- which parts there are

-- the registers at which BARs start
abbrev pub bars_in : Function → List ℕ
bars_in f = filter (has_bar f.probe) (range_with_len 0 (bar_count (layout f.image)))

abbrev pub rom_in : Function → List Part
rom_in f = if has_rom f.image f.probe then Rom ∷ [] else []

pub parts_of : (f : Function) → bars_and_rom f ≡ map Bar (bars_in f) ++ rom_in f
parts_of f =
    filter-append (is_implemented f) (map Bar (range_with_len 0 (bar_count (layout f.image)))) (Rom ∷ [])
    ∙ ap (λ xs. xs ++ rom_in f) (filter-map (is_implemented f) Bar (range_with_len 0 (bar_count (layout f.image))))

-- the BARs of a record are decoded at those registers
pub bars_of : (s : System) (f : Function) (r : Record) → IsRecordInSystem s f r → map decoded_bar_of r.bars.items ≡ map (decoded_bar f.image f.probe) (bars_in f)
bars_of s f r is = ap (λ (x : decoded.Record). x.bars) is.value

pub rom_of : (s : System) (f : Function) (r : Record) → IsRecordInSystem s f r → option_map decoded_rom_of r.rom ≡ decoded_rom f.image f.probe
rom_of s f r is = ap (λ (x : decoded.Record). x.rom) is.value

-- ---- sizes

spanned : (first last base size : ℕ) → 0 < size → first ≡ base → last ≡ base + (size - 1) → (first ≤ last) × (span first last ≡ size)
spanned first last base size pos start end = (omega (arith, pos, start, end), omega (arith, pos, start, end))

-- a BAR has the addresses from its first to its last
pub bar_span : (f : Function) (bar : CodeBar) (n : ℕ) → decoded_bar_of bar ≡ decoded_bar f.image f.probe n → (bar.first ≤ bar.last) × (span bar.first bar.last ≡ size_of f (Bar n))
bar_span f bar n e =
    let size = bar_size f.probe n in
    spanned bar.first bar.last (whole_bar f.probe f.image n / size * size) size
    (pow_pos (lowest_one (if is_io (bar_at f.probe n) then 2 else 4) (whole_bar f.probe f.probe n)))
    (ap (λ (x : DecodedBar). x.range.first) e) (ap (λ (x : DecodedBar). x.range.last) e)

pub rom_there : (there : Bool) (x y : DecodedRom) → Some x ≡ (if there then Some y else None) → (there ≡ true) × (x ≡ y)
rom_there true x y e = (refl, cc)
rom_there false x y e = cc

-- and so has a ROM
pub rom_span : (f : Function) (rom : CodeRom) → Some (decoded_rom_of rom) ≡ decoded_rom f.image f.probe → (rom.first ≤ rom.last) × (span rom.first rom.last ≡ size_of f Rom)
rom_span f rom e =
    let size = rom_size f.image f.probe in
    let same = (rom_there (has_rom f.image f.probe) (decoded_rom_of rom) _ e).1 in
    spanned rom.first rom.last (rom_at f.image f.image / size * size) size (pow_pos (lowest_one 0 (rom_at f.image f.probe)))
    (ap (λ (x : DecodedRom). x.range.first) same) (ap (λ (x : DecodedRom). x.range.last) same)
