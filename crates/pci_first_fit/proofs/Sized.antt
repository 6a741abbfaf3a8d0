-- The BARs and the ROM of a lawful record have sizes of 64 bits.
use Rattle.std.proofs.Common.{◌≡◌, ℕ, ◌^◌, ◌<◌, ◌≤◌, true, false, refl, get_or, Option, None, Some, arith, sym, ap, subst, ◌&&◌}
use Rattle.std.specs.Bool.{IsFalse, nat_le, if◌then◌else◌}
use Rattle.std.specs.Option.{IfSome, option_map}
use Rattle.std.specs.List.{All}
use Rattle.std.proofs.lemmas.Bool.{and_parts, leb-true, both_ways}
use Rattle.std.proofs.Math.Pow.{pow-lt}
use Rattle.std.proofs.lemmas.List.Elements.{Contains-get_or}
use Rattle.pci_spec.specs.Number.{lowest_one}
use Rattle.pci_spec.specs.Header.{bar_register}
use Rattle.pci_spec.specs.Bar.{BarKind, IoBar, Memory32, Memory64, Reserved, bar_at, bar_kind, is_io, whole_bar, is_lawful, first_bit}
use Rattle.pci_spec.specs.Rom.{rom_at, has_rom, breaks_rom_rule}
use Rattle.pci_spec.specs.System.{System, Function, Bar, Rom}
use Rattle.pci_spec.specs.Decoded.{DecodedBar, decoded_rom}
use Rattle.pci_spec.proofs.Ranges.{lawful_bar, lawful-lowest_one, first_bit-of_register, lawful_rom}
use Rattle.plan_spec.specs.Plan.{size_of}
use Rattle.pci_image.specs.declared.rom.Rom.{Rom as CodeRom}
use Rattle.pci_image.specs.Roms.{decoded_rom_of}
use Rattle.pci_function.specs.declared.record.Record.{Record}
use Rattle.pci_tree.proofs.Regions.{IsBarAt, bar_at_register}
use Rattle.pci_place.specs.Records.{IsRecordInSystem}
use Rattle.pci_place.specs.Sizes.{span}
use Rattle.pci_place.proofs.Parts.{bar_span, rom_of, rom_there, rom_span}
use Rattle.pci_first_fit.specs.Own.{IsSpanned, HasBarRegister}

lawful_low : (kind : BarKind) (mask k : ℕ) → is_lawful kind mask k ≡ true → k ≤ 63
lawful_low IoBar mask k h =
    let high = leb-true k 8 (and_parts (nat_le 2 k) (nat_le k 8) (and_parts (nat_le 2 k && nat_le k 8) _ h).0).1 in omega (arith, high)
lawful_low Memory32 mask k h =
    let high = leb-true k 31 (and_parts (nat_le 4 k) (nat_le k 31) (and_parts (nat_le 4 k && nat_le k 31) _ h).0).1 in omega (arith, high)
lawful_low Memory64 mask k h =
    leb-true k 63 (and_parts (nat_le 4 k) (nat_le k 63) (and_parts (nat_le 4 k && nat_le k 63) _ h).0).1
lawful_low Reserved mask k h = absurd (let no : ⊥ = both_ways false refl h in no)

pow_low : (k : ℕ) → k ≤ 63 → 2 ^ k < 2 ^ 64
pow_low k low = pow-lt {i = k} {j = 64} (omega (arith, low))

spanned : (first last size : ℕ) → first ≤ last → span first last ≡ size → size < 2 ^ 64 → IsSpanned first last
spanned first last size some is low = record { some = some; few = subst (λ n. n < 2 ^ 64) (sym is) low }

pub bars_sized : (s : System) (f : Function) (r : Record) → IsRecordInSystem s f r → All HasBarRegister r.bars.items
bars_sized s f r is k d within =
    let bar = get_or r.bars.items k d in
    let at : (n : ℕ) × IsBarAt f bar n = bar_at_register r f bar is.value (Contains-get_or r.bars.items k d within) in
    let n = at.0 in
    let register : bar.reg ≡ bar_register n = ap (λ (x : DecodedBar). x.register) at.1.is in
    let size = bar_span f bar n at.1.is in
    let rules = lawful_bar f.image f.probe n at.1.there (is.decodable.bars n at.1.within) in
    let kind = bar_kind (bar_at f.probe n) in
    let whole = whole_bar f.probe f.probe n in
    let low : lowest_one (first_bit kind) whole ≤ 63 = lawful_low kind whole (lowest_one (first_bit kind) whole) (lawful-lowest_one kind whole rules.sized).0 in
    let low' : lowest_one (if is_io (bar_at f.probe n) then 2 else 4) whole ≤ 63 = subst (λ from. lowest_one from whole ≤ 63) (first_bit-of_register (bar_at f.probe n)) low in
    record {
      register = omega (arith, register);
      aligned = omega (arith, register);
      span = spanned bar.first bar.last (size_of f (Bar n)) size.0 size.1 (pow_low _ low');
    }

rom_by : (f : Function) (o : Option CodeRom) → IsFalse (breaks_rom_rule f.image f.probe) → option_map decoded_rom_of o ≡ decoded_rom f.image f.probe → IfSome o (λ (x : CodeRom). IsSpanned x.first x.last)
rom_by f None none e = tt
rom_by f (Some rom) none e =
    let size = rom_span f rom e in
    let there = (rom_there (has_rom f.image f.probe) (decoded_rom_of rom) _ e).0 in
    let low = (lawful_rom f.image f.probe there none).1 in
    spanned rom.first rom.last (size_of f Rom) size.0 size.1 (pow_low (lowest_one 0 (rom_at f.image f.probe)) (omega (arith, low)))

pub rom_sized : (s : System) (f : Function) (r : Record) → IsRecordInSystem s f r → IfSome r.rom (λ (x : CodeRom). IsSpanned x.first x.last)
rom_sized s f r is = rom_by f r.rom is.decodable.rom (rom_of s f r is)
