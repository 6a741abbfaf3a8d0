-- Records of decoded functions are lawful.
use Rattle.std.proofs.Common.{◌≡◌, ℕ, ◌^◌, ◌<◌, ◌≤◌, List, get_or, refl, true, inl, inr, arith, sym, subst, Option, Some, None}
use Rattle.std.specs.Prelude.{IfSome, MatchOption}
use Rattle.std.specs.List.{Contains}
use Rattle.std.proofs.lemmas.Bool.{cases_Bool}
use Rattle.std.proofs.lemmas.List.Elements.{Contains-get_or}
use Rattle.pci_spec.specs.Number.{IsImage}
use Rattle.pci_spec.specs.Rom.{has_rom, rom_at}
use Rattle.pci_spec.specs.Window.{WindowKind, IoWindow, MemoryWindow, PrefetchWindow, has_window}
use Rattle.pci_spec.specs.System.{Function, Io, Memory, IsAddress, window_space}
use Rattle.pci_spec.specs.Decoded.{IsDecodable, record_of, bridge_of, decoded_bar, decoded_rom, DecodedBar, window_range, optional_window, aligned_range, rom_size}
use Rattle.pci_spec.specs.Decoded as decoded
use Rattle.pci_spec.proofs.Ranges.{width_of, decoded_bar-order, decoded_bar-fits, rom_range-order, rom_range-fits, window_range-order, window_range-fits, window_width}
use Rattle.pci_image.specs.declared.bar.Bar.{Bar}
use Rattle.pci_image.specs.declared.bar.BarKind.{BarKind}
use Rattle.pci_image.specs.declared.bar.BarKind.TheVariants as kinds
use Rattle.pci_image.specs.declared.rom.Rom.{Rom}
use Rattle.pci_image.specs.Bars.{decoded_kind_of}
use Rattle.pci_image.specs.Roms.{decoded_rom_of}
use Rattle.pci_function.specs.declared.record.Bridge.{Bridge}
use Rattle.pci_function.specs.declared.record.Record.{Record}
use Rattle.pci_function.specs.Values.{record_value, bridge_value}
use Rattle.pci_tree.specs.Passes.{range_in}
use Rattle.pci_tree.specs.Regions.{space_in, window_in, IsSpanIn, IsLawful}
use Rattle.pci_tree.proofs.Regions.{IsBarAt, bar_at_register}
use Rattle.pci_tree.proofs.RegionParts.{rom_of, same_rom, same_bridge_of}

address_within : (k : BarKind) (a : ℕ) → a < 2 ^ width_of (decoded_kind_of k) → IsAddress (space_in k) a
address_within kinds.Io a lt = lt
address_within kinds.Mem32 a lt = omega arith
address_within kinds.Mem64 a lt = lt

bar_span : (r : Record) (f : Function) (b : Bar) → IsImage f.image → IsDecodable f → record_value r ≡ record_of f → Contains r.bars.items b → IsSpanIn (space_in b.kind) b.first b.last
bar_span r f b image is e has =
    let at : (n : ℕ) × IsBarAt f b n = bar_at_register r f b e has in
    let n : ℕ = at.0 in
    let order : (decoded_bar f.image f.probe n).range.first ≤ (decoded_bar f.image f.probe n).range.last = decoded_bar-order f.image f.probe n in
    let fits : (decoded_bar f.image f.probe n).range.last < 2 ^ width_of (decoded_bar f.image f.probe n).kind = decoded_bar-fits f.image f.probe n image at.1.there (is.bars n at.1.within) in (
      subst (λ (d : DecodedBar). d.range.first ≤ d.range.last) (sym at.1.is) order,
      address_within b.kind b.last (subst (λ (d : DecodedBar). d.range.last < 2 ^ width_of d.kind) (sym at.1.is) fits),
    )

window_address : (kind : WindowKind) (a : ℕ) → a < 2 ^ window_width kind → IsAddress (window_space kind) a
window_address IoWindow a lt = lt
window_address MemoryWindow a lt = omega arith
window_address PrefetchWindow a lt = lt

span_of_window : (kind : WindowKind) (o : Option decoded.Range) → MatchOption o (Unit {0}) (λ r. r.first ≤ r.last) → MatchOption o (Unit {0}) (λ r. r.last < 2 ^ window_width kind)
    → IfSome o (λ w. IsSpanIn (window_space kind) w.first w.last)
span_of_window kind None order fits = tt {0}
span_of_window kind (Some r) order fits = (order, window_address kind r.last fits)

-- a window that may not be there has its range, or none
optional_span : (kind : WindowKind) (image probe : List ℕ) → IsImage image → IfSome (range_in (optional_window kind image probe)) (λ w. IsSpanIn (window_space kind) w.first w.last)
optional_span kind image probe is = elim (cases_Bool (has_window kind probe)) [
  | inl there ↦ rw there (span_of_window kind (window_range kind image) (window_range-order kind image) (window_range-fits kind image is))
  | inr absent ↦ rw absent (tt {0})
]

window_span : (kind : WindowKind) (f : Function) (b : Bridge) → IsImage f.image → bridge_value b ≡ bridge_of f.image f.probe
    → IfSome (window_in kind b.windows) (λ w. IsSpanIn (window_space kind) w.first w.last)
window_span IoWindow f b image e =
    subst (λ (x : decoded.Bridge). IfSome (range_in x.windows.io) (λ w. IsSpanIn Io w.first w.last)) (sym e) (optional_span IoWindow f.image f.probe image)
window_span MemoryWindow f b image e =
    subst (λ (x : decoded.Bridge). IfSome x.windows.memory.range (λ w. IsSpanIn Memory w.first w.last)) (sym e)
    (span_of_window MemoryWindow (window_range MemoryWindow f.image) (window_range-order MemoryWindow f.image) (window_range-fits MemoryWindow f.image image))
window_span PrefetchWindow f b image e =
    subst (λ (x : decoded.Bridge). IfSome (range_in x.windows.prefetch) (λ w. IsSpanIn Memory w.first w.last)) (sym e) (optional_span PrefetchWindow f.image f.probe image)

window_spans : (r : Record) (f : Function) (o : Option Bridge) → r.bridge ≡ o → IsImage f.image → record_value r ≡ record_of f
    → IfSome o (λ b. (kind : WindowKind) → IfSome (window_in kind b.windows) (λ w. IsSpanIn (window_space kind) w.first w.last))
window_spans r f None some image e = tt {0}
window_spans r f (Some b) some image e = λ kind. window_span kind f b image (same_bridge_of r f b e some)

rom_span : (r : Record) (f : Function) (o : Option Rom) → r.rom ≡ o → IsImage f.image → IsDecodable f → record_value r ≡ record_of f
    → IfSome o (λ x. IsSpanIn Memory x.first x.last)
unfolding rom_of
rom_span r f None some image is e = tt {0}
rom_span r f (Some x) some image is e =
    let same : (has_rom f.image f.probe ≡ true) × (decoded_rom_of x ≡ rom_of f) = same_rom r f x e some in
    let fits : (aligned_range (rom_at f.image f.image) (rom_size f.image f.probe)).last < 2 ^ 32 = rom_range-fits f.image f.probe image same.0 is.rom in
    let order : x.first ≤ x.last = subst (λ (d : decoded.DecodedRom). d.range.first ≤ d.range.last) (sym same.1) (rom_range-order f.image f.probe) in
    let last : x.last < 2 ^ 32 = subst (λ (d : decoded.DecodedRom). d.range.last < 2 ^ 32) (sym same.1) fits in
    (order, omega arith)

-- the ranges of a decoded function's record are lawful
pub lawful_record : (r : Record) (f : Function) → IsImage f.image → IsDecodable f → record_value r ≡ record_of f → IsLawful r
lawful_record r f image is e = record {
  bars = λ k d within. bar_span r f (get_or r.bars.items k d) image is e (Contains-get_or r.bars.items k d within);
  windows = window_spans r f r.bridge refl image e;
  rom = rom_span r f r.rom refl image is e;
}
