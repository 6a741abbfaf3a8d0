-- The regions of a record stand in the order of their registers.
use Rattle.std.proofs.Common.{◌≡◌, ℕ, ◌+◌, ◌*◌, ◌<◌, ◌≤◌, List, [], ◌∷◌, ◌++◌, map, refl, Bool, true, false, inl, inr, arith, sym, ◌∙◌, ap, subst, Option, Some, None, if◌then◌else◌}
use Rattle.std.specs.Option.{is_some}
use Rattle.std.specs.List.{Contains, AllPairs, filter, range_with_len}
use Rattle.std.proofs.lemmas.Bool.{cases_Bool}
use Rattle.std.proofs.lemmas.List.Elements.{Contains-append_cases}
use Rattle.pci_spec.specs.Slot.{Slot}
use Rattle.pci_spec.specs.Header.{layout, bar_count, bar_register, rom_register}
use Rattle.pci_spec.specs.Window.{WindowKind, IoWindow, MemoryWindow, PrefetchWindow, window_register}
use Rattle.pci_spec.specs.System.{Function, Space, Io, Memory, is_bridge}
use Rattle.pci_spec.specs.Bar.{has_bar}
use Rattle.pci_spec.specs.Decoded.{record_of, decoded_bar, decoded_bars, DecodedBar}
use Rattle.pci_spec.specs.Decoded as decoded
use Rattle.pci_spec.specs.JudgingLaws.{region_number}
use Rattle.pci_spec.proofs.Members.{IsMade, IsInPiece, in_nil, in_cons_cases, in_map_to, in_filter_to, pairs_nil, pairs_cons, pairs_append, pairs_map, pairs_filter, pairs_range, pairs_flat_map}
use Rattle.pci_image.specs.declared.bar.Bar.{Bar}
use Rattle.pci_image.specs.declared.rom.Rom.{Rom}
use Rattle.pci_image.specs.Bars.{decoded_bar_of}
use Rattle.pci_function.specs.declared.record.Bridge.{Bridge}
use Rattle.pci_function.specs.declared.record.Record.{Record}
use Rattle.pci_tree.specs.declared.region.Region.{Region}
use Rattle.pci_function.specs.Values.{record_value}
use Rattle.pci_base.specs.Space.{is_on}
use Rattle.pci_tree.specs.Regions.{is_bar_of, bar_region, bar_regions, window_region, window_regions, window_in, kinds_in, kind_regions, bridge_regions, rom_region, rom_regions, regions_of}
use Rattle.pci_tree.proofs.Lifting.{same_bridge, pairs_unmap}
use Rattle.pci_tree.proofs.Regions.{IsBarAt, bar_at_register}
use Rattle.pci_tree.proofs.RegionParts.{in_window, in_bridge, in_rom, same_rom, rom_of}

abbrev BelowReg : Region → Region → Type 0
BelowReg p q = p.reg < q.reg

pairs_one : {X : Type 0} (R : X → X → Type 0) (x : X) → AllPairs R (x ∷ [])
pairs_one R x = pairs_cons R x [] (λ y has. absurd (in_nil y has)) (pairs_nil R)

-- ---- where the registers of parts are

-- a BAR's region is one of the record's, and is named by a BAR register
pub record IsAtBar (r : Record) (f : Function) (q : Region) : Type 0 where
  pub n : ℕ
  pub within : n < bar_count (layout f.image)
  pub at : q.reg ≡ 16 + 4 * n
  pub slot : q.slot ≡ r.slot

at_bar : (r : Record) (f : Function) (space : Space) (q : Region) → record_value r ≡ record_of f → Contains (bar_regions r.slot space r.bars.items) q → IsAtBar r f q
at_bar r f space q e has =
    let made : IsMade (bar_region r.slot) (filter (is_bar_of space) r.bars.items) q = in_map_to (bar_region r.slot) (filter (is_bar_of space) r.bars.items) q has in
    let at : (n : ℕ) × IsBarAt f made.from n = bar_at_register r f made.from e (in_filter_to (is_bar_of space) r.bars.items made.from made.has).0 in
    record {
      n = at.0;
      within = at.1.within;
      at = sym (ap (λ (z : Region). z.reg) made.is) ∙ ap (λ (d : DecodedBar). d.register) at.1.is;
      slot = sym (ap (λ (z : Region). z.slot) made.is);
    }

-- a window's region is of a bridge, and is named by a window register
pub record IsAtWindow (r : Record) (f : Function) (q : Region) : Type 0 where
  pub bridge : is_bridge f ≡ true
  pub low : 28 ≤ q.reg
  pub high : q.reg ≤ 36
  pub slot : q.slot ≡ r.slot

window_low : (kind : WindowKind) → (28 ≤ window_register kind) × (window_register kind ≤ 36)
window_low IoWindow = (omega arith, omega arith)
window_low MemoryWindow = (omega arith, omega arith)
window_low PrefetchWindow = (omega arith, omega arith)

at_window : (r : Record) (f : Function) (space : Space) (q : Region) → record_value r ≡ record_of f → Contains (bridge_regions r.slot space r.bridge) q → IsAtWindow r f q
at_window r f space q e has =
    let found : (b : Bridge) × (r.bridge ≡ Some b) × IsInPiece (kind_regions r.slot b.windows) (kinds_in space) q = in_bridge r.slot space r.bridge q has in
    let kind : WindowKind = found.2.of in
    let w : (w : decoded.Range) × (window_in kind found.0.windows ≡ Some w) × (window_region r.slot (window_register kind) w ≡ q) =
    in_window r.slot (window_register kind) (window_in kind found.0.windows) q found.2.piece in
    let reg : window_register kind ≡ q.reg = ap (λ (z : Region). z.reg) w.2 in
    let ends : (28 ≤ window_register kind) × (window_register kind ≤ 36) = window_low kind in
    record {
      bridge = sym (same_bridge r f e) ∙ ap is_some found.1;
      low = omega arith;
      high = omega arith;
      slot = sym (ap (λ (z : Region). z.slot) w.2);
    }

pub record IsAtRom (r : Record) (f : Function) (q : Region) : Type 0 where
  pub at : q.reg ≡ rom_register (layout f.image)
  pub slot : q.slot ≡ r.slot

at_rom : (r : Record) (f : Function) (space : Space) (q : Region) → record_value r ≡ record_of f → Contains (rom_regions r.slot space r.rom) q → IsAtRom r f q
unfolding rom_of
at_rom r f space q e has =
    let found : (x : Rom) × (r.rom ≡ Some x) × (x.on ≡ true) × (space ≡ Memory) × (rom_region r.slot x ≡ q) = in_rom r.slot space r.rom q has in
    record {
      at = sym (ap (λ (z : Region). z.reg) found.4) ∙ ap (λ (d : decoded.DecodedRom). d.register) (same_rom r f found.0 e found.1).1;
      slot = sym (ap (λ (z : Region). z.slot) found.4);
    }

bridge_registers : (f : Function) → is_bridge f ≡ true → (bar_count (layout f.image) ≡ 2) × (rom_register (layout f.image) ≡ 56)
bridge_registers f is = (rw is refl, rw is refl)

device_registers : (f : Function) → is_bridge f ≡ false → (bar_count (layout f.image) ≡ 6) × (rom_register (layout f.image) ≡ 48)
device_registers f off = (rw off refl, rw off refl)

-- ---- the parts in order

bars_rise : (r : Record) (f : Function) (space : Space) → record_value r ≡ record_of f → AllPairs BelowReg (bar_regions r.slot space r.bars.items)
bars_rise r f space e =
    let bars : map decoded_bar_of r.bars.items ≡ decoded_bars f.image f.probe = ap (λ (x : decoded.Record). x.bars) e in
    let count : ℕ = bar_count (layout f.image) in
    let decoded_rise : AllPairs (λ (x y : DecodedBar). x.register < y.register) (decoded_bars f.image f.probe) =
    pairs_map (λ (x y : DecodedBar). x.register < y.register) (decoded_bar f.image f.probe) (filter (has_bar f.probe) (range_with_len 0 count))
    (pairs_filter (λ m n. bar_register m < bar_register n) (has_bar f.probe) (range_with_len 0 count)
    (λ i j d lt within. (let up = pairs_range 0 count i j d lt within in omega (arith, up)))) in
    let items : AllPairs (λ (x y : Bar). x.reg < y.reg) r.bars.items =
    pairs_unmap (λ (x y : DecodedBar). x.register < y.register) decoded_bar_of r.bars.items (subst (AllPairs (λ (x y : DecodedBar). x.register < y.register)) (sym bars) decoded_rise) in
    pairs_map BelowReg (bar_region r.slot) (filter (is_bar_of space) r.bars.items) (pairs_filter (λ (x y : Bar). x.reg < y.reg) (is_bar_of space) r.bars.items items)

kinds_rise : (space : Space) → AllPairs (λ k j. window_register k < window_register j) (kinds_in space)
kinds_rise Io = pairs_one (λ k j. window_register k < window_register j) IoWindow
kinds_rise Memory = pairs_cons (λ k j. window_register k < window_register j) MemoryWindow (PrefetchWindow ∷ [])
    (λ y has. elim (in_cons_cases PrefetchWindow [] y has) [
      | inl here ↦ (let e : 36 ≡ window_register y = ap window_register here in omega arith)
      | inr later ↦ absurd (in_nil y later)
    ])
    (pairs_one (λ k j. window_register k < window_register j) PrefetchWindow)

one_window_rises : (slot : Slot) (reg : ℕ) (o : Option decoded.Range) → AllPairs BelowReg (window_regions slot reg o)
one_window_rises slot reg None = pairs_nil BelowReg
one_window_rises slot reg (Some w) = pairs_one BelowReg (window_region slot reg w)

windows_rise : (slot : Slot) (space : Space) (o : Option Bridge) → AllPairs BelowReg (bridge_regions slot space o)
windows_rise slot space None = pairs_nil BelowReg
windows_rise slot space (Some b) =
    pairs_flat_map (λ k j. window_register k < window_register j) BelowReg (kind_regions slot b.windows) (kinds_in space) (kinds_rise space)
    (λ k has. one_window_rises slot (window_register k) (window_in k b.windows))
    (λ k j p q hk hj lt hp hq. (
    let v : (w : decoded.Range) × (window_in k b.windows ≡ Some w) × (window_region slot (window_register k) w ≡ p) = in_window slot (window_register k) (window_in k b.windows) p hp in
    let w : (w : decoded.Range) × (window_in j b.windows ≡ Some w) × (window_region slot (window_register j) w ≡ q) = in_window slot (window_register j) (window_in j b.windows) q hq in
    let ep : window_register k ≡ p.reg = ap (λ (z : Region). z.reg) v.2 in
    let eq : window_register j ≡ q.reg = ap (λ (z : Region). z.reg) w.2 in
    omega arith))

rom_rises : (slot : Slot) (space : Space) (o : Option Rom) → AllPairs BelowReg (rom_regions slot space o)
rom_rises slot space None = pairs_nil BelowReg
rom_rises slot Io (Some x) = pairs_nil BelowReg
rom_rises slot Memory (Some x) = elim (cases_Bool x.on) [
  | inl on ↦ subst (λ b. AllPairs BelowReg (if b then rom_region slot x ∷ [] else [])) (sym on) (pairs_one BelowReg (rom_region slot x))
  | inr off ↦ subst (λ b. AllPairs BelowReg (if b then rom_region slot x ∷ [] else [])) (sym off) (pairs_nil BelowReg)
]

bar_below_window : (r : Record) (f : Function) (p q : Region) → IsAtBar r f p → IsAtWindow r f q → p.reg < q.reg
bar_below_window r f p q bar window =
    let regs : (bar_count (layout f.image) ≡ 2) × (rom_register (layout f.image) ≡ 56) = bridge_registers f window.bridge in
    let n : bar.n < bar_count (layout f.image) = bar.within in
    let at : p.reg ≡ 16 + 4 * bar.n = bar.at in
    let low : 28 ≤ q.reg = window.low in
    omega arith

bar_below_rom : (r : Record) (f : Function) (p q : Region) → IsAtBar r f p → IsAtRom r f q → p.reg < q.reg
bar_below_rom r f p q bar rom =
    let n : bar.n < bar_count (layout f.image) = bar.within in
    let at : p.reg ≡ 16 + 4 * bar.n = bar.at in
    let there : q.reg ≡ rom_register (layout f.image) = rom.at in
    elim (cases_Bool (is_bridge f)) [
      | inl is ↦ (let regs : (bar_count (layout f.image) ≡ 2) × (rom_register (layout f.image) ≡ 56) = bridge_registers f is in omega arith)
      | inr off ↦ (let regs : (bar_count (layout f.image) ≡ 6) × (rom_register (layout f.image) ≡ 48) = device_registers f off in omega arith)
    ]

window_below_rom : (r : Record) (f : Function) (p q : Region) → IsAtWindow r f p → IsAtRom r f q → p.reg < q.reg
window_below_rom r f p q window rom =
    let regs : (bar_count (layout f.image) ≡ 2) × (rom_register (layout f.image) ≡ 56) = bridge_registers f window.bridge in
    let high : p.reg ≤ 36 = window.high in
    let there : q.reg ≡ rom_register (layout f.image) = rom.at in
    omega arith

if_pairs : (b : Bool) (qs : List Region) → AllPairs BelowReg qs → AllPairs BelowReg (if b then qs else [])
if_pairs true qs h = h
if_pairs false qs h = pairs_nil BelowReg

-- the regions of a record rise by register
pub regions_rise : (r : Record) (f : Function) (space : Space) → record_value r ≡ record_of f → AllPairs BelowReg (regions_of r space)
regions_rise r f space e =
    if_pairs (is_on r.command space) (bar_regions r.slot space r.bars.items ++ bridge_regions r.slot space r.bridge ++ rom_regions r.slot space r.rom)
    (pairs_append BelowReg (bar_regions r.slot space r.bars.items ++ bridge_regions r.slot space r.bridge) (rom_regions r.slot space r.rom)
    (pairs_append BelowReg (bar_regions r.slot space r.bars.items) (bridge_regions r.slot space r.bridge) (bars_rise r f space e) (windows_rise r.slot space r.bridge)
    (λ p q hp hq. bar_below_window r f p q (at_bar r f space p e hp) (at_window r f space q e hq)))
    (rom_rises r.slot space r.rom)
    (λ p q hp hq. elim (Contains-append_cases (bar_regions r.slot space r.bars.items) (bridge_regions r.slot space r.bridge) p hp) [
      | inl bar ↦ bar_below_rom r f p q (at_bar r f space p e bar) (at_rom r f space q e hq)
      | inr window ↦ window_below_rom r f p q (at_window r f space p e window) (at_rom r f space q e hq)
    ]))

-- a region of a record has its slot, and a register of its header
pub record IsOfRecord (r : Record) (q : Region) : Type 0 where
  pub slot : q.slot ≡ r.slot
  pub low : q.reg < 64

bar_of_record : (r : Record) (f : Function) (q : Region) → IsAtBar r f q → IsOfRecord r q
bar_of_record r f q bar = record {
  slot = bar.slot;
  low = (
      let n : bar.n < bar_count (layout f.image) = bar.within in
      let at : q.reg ≡ 16 + 4 * bar.n = bar.at in
      elim (cases_Bool (is_bridge f)) [
        | inl is ↦ (let regs : (bar_count (layout f.image) ≡ 2) × (rom_register (layout f.image) ≡ 56) = bridge_registers f is in omega arith)
        | inr off ↦ (let regs : (bar_count (layout f.image) ≡ 6) × (rom_register (layout f.image) ≡ 48) = device_registers f off in omega arith)
      ]);
}

rom_of_record : (r : Record) (f : Function) (q : Region) → IsAtRom r f q → IsOfRecord r q
rom_of_record r f q rom = record {
  slot = rom.slot;
  low = (
      let there : q.reg ≡ rom_register (layout f.image) = rom.at in
      elim (cases_Bool (is_bridge f)) [
        | inl is ↦ (let regs : (bar_count (layout f.image) ≡ 2) × (rom_register (layout f.image) ≡ 56) = bridge_registers f is in omega arith)
        | inr off ↦ (let regs : (bar_count (layout f.image) ≡ 6) × (rom_register (layout f.image) ≡ 48) = device_registers f off in omega arith)
      ]);
}

in_either : (b : Bool) (qs : List Region) (q : Region) → Contains (if b then qs else []) q → Contains qs q
in_either true qs q has = has
in_either false qs q has = absurd (in_nil q has)

pub region_of_record : (r : Record) (f : Function) (space : Space) (q : Region) → record_value r ≡ record_of f → Contains (regions_of r space) q → IsOfRecord r q
region_of_record r f space q e has =
    let kept : Contains (bar_regions r.slot space r.bars.items ++ bridge_regions r.slot space r.bridge ++ rom_regions r.slot space r.rom) q =
    in_either (is_on r.command space) (bar_regions r.slot space r.bars.items ++ bridge_regions r.slot space r.bridge ++ rom_regions r.slot space r.rom) q has in
    elim (Contains-append_cases (bar_regions r.slot space r.bars.items ++ bridge_regions r.slot space r.bridge) (rom_regions r.slot space r.rom) q kept) [
      | inl first ↦ elim (Contains-append_cases (bar_regions r.slot space r.bars.items) (bridge_regions r.slot space r.bridge) q first) [
        | inl bar ↦ bar_of_record r f q (at_bar r f space q e bar)
        | inr window ↦ (let at : IsAtWindow r f q = at_window r f space q e window in let high : q.reg ≤ 36 = at.high in record { slot = at.slot; low = omega arith })
      ]
      | inr rom ↦ rom_of_record r f q (at_rom r f space q e rom)
    ]

pub number_same : (s t : Slot) (r q : ℕ) → s ≡ t → r ≡ q → region_number s r ≡ region_number t q
number_same s t r q slot register = ap (λ (x : Slot). region_number x r) slot ∙ ap (λ n. region_number t n) register
