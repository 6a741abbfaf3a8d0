-- What a record has to place stands by rising registers.
use Rattle.std.proofs.Common.{◌≡◌, ℕ, ◌+◌, ◌*◌, ◌<◌, ◌≤◌, inl, inr, List, [], ◌∷◌, ◌++◌, map, Bool, true, false, cond, ◌&&◌, not, arith, sym, ◌∙◌, ap, subst, Option, Some, None}
use Rattle.std.specs.Bool.{◌==◌}
use Rattle.std.specs.List.{Contains, AllPairs, filter, range_with_len}
use Rattle.std.proofs.lemmas.Bool.{cases_Bool, and_parts, eqb-true}
use Rattle.std.proofs.lemmas.List.Elements.{Contains-append_cases}
use Rattle.pci_spec.specs.Slot.{slot_number}
use Rattle.pci_spec.specs.Header.{layout, bar_count, bar_register, rom_register}
use Rattle.pci_spec.specs.Window.{WindowKind, IoWindow, MemoryWindow, PrefetchWindow, window_register}
use Rattle.pci_spec.specs.System.{System, Function, Part, Bar, Window, is_bridge, register_of}
use Rattle.pci_spec.proofs.Members.{in_nil, in_cons_cases, in_filter_to, in_map_to, in_range_to, IsMade, pairs_nil, pairs_cons, pairs_append, pairs_map, pairs_filter, pairs_range}
use Rattle.plan_spec.specs.Plan.{same_class}
use Rattle.settle_spec.specs.Parts.{FunctionPart, is_part, header_bars}
use Rattle.settle_spec.specs.Stands.{rank}
use Rattle.settle_spec.specs.Items.{PlacingItem as ItemValue, own_item, is_own, has_of, items_of}
use Rattle.settle_spec.specs.PlacingLaws.{HasLowerRank}
use Rattle.pci_image.specs.declared.rom.Rom.{Rom as CodeRom}
use Rattle.pci_function.specs.declared.record.Record.{Record}
use Rattle.pci_first_fit.specs.declared.extent.Extent.{Extent}
use Rattle.pci_first_fit.specs.declared.item.Part.TheVariants as parts
use Rattle.pci_first_fit.specs.Kept.{kept_of}
use Rattle.pci_first_fit.specs.Own.{asked_bar_items, rom_item, asked_rom_items, asked_window_items, Situation, asked_record_items, asked_item_value, IsWindowOf, Asking, IsAskedFor, AreByRank}
use Rattle.pci_first_fit.proofs.OwnItems.{bars_are, values_are, items_are}

-- the rank of register 0 of a slot
abbrev pub first_rank : Function → ℕ
first_rank f = slot_number f.slot * 256

-- ---- registers: BARs come first, then windows, then the ROM

bars_few : (kind : ℕ) → bar_count kind ≤ 6
bars_few kind = elim (kind == 1) as (λ b. cond b 2 6 ≤ 6) [ true ↦ omega arith | false ↦ omega arith ]

rom_low : (kind : ℕ) → rom_register kind ≤ 0x38
rom_low kind = elim (kind == 1) as (λ b. cond b 0x38 0x30 ≤ 0x38) [ true ↦ omega arith | false ↦ omega arith ]

bar_below_rom : (kind n : ℕ) → n < bar_count kind → bar_register n < rom_register kind
bar_below_rom kind n less = elim (cases_Bool (kind == 1)) [
  | inl bridge ↦ (let a : bar_count kind ≡ 2 = ap (λ b. cond b 2 6) bridge in let r : rom_register kind ≡ 0x38 = ap (λ b. cond b 0x38 0x30) bridge in omega (arith, less, a, r))
  | inr device ↦ (let a : bar_count kind ≡ 6 = ap (λ b. cond b 2 6) device in let r : rom_register kind ≡ 0x30 = ap (λ b. cond b 0x38 0x30) device in omega (arith, less, a, r))
]

window_between : (c : WindowKind) → (0x1c ≤ window_register c) × (window_register c ≤ 0x24)
window_between IoWindow = (omega arith, omega arith)
window_between MemoryWindow = (omega arith, omega arith)
window_between PrefetchWindow = (omega arith, omega arith)

single_rank : (i : ItemValue) → AllPairs HasLowerRank (i ∷ [])
single_rank i = pairs_cons HasLowerRank i [] (λ j listed. absurd (in_nil j listed)) (pairs_nil HasLowerRank)

module _ (a : Asking) (s : System) (f : Function) (o : Situation) (r : Record) (asked : IsAskedFor a s f o r) where
  abbrev kind : ℕ
  kind = layout f.image

  abbrev region : Part → FunctionPart
  region p = record { function = f; part = p }

  -- ---- BARs

  abbrev registers : Part → Part → Type 0
  registers p w = register_of f p < register_of f w

  abbrev bars : List Part
  bars = filter (is_part a.request s f) (header_bars f)

  abbrev is_mine : Part → Bool
  is_mine p = is_own a.request s o.class (region p) && not (kept_of o.kept p)

  abbrev value_of : Part → ItemValue
  value_of p = own_item o.class (region p)

  abbrev bar_values : List ItemValue
  bar_values = map (asked_item_value s o.class) (asked_bar_items o.place o.probe o.class o.over o.terms o.kept r.bars.items)

  bars_here : bar_values ≡ map value_of (filter is_mine bars)
  bars_here = bars_are a s f o r asked

  header_rise : AllPairs registers (header_bars f)
  header_rise = pairs_map registers Bar (range_with_len 0 (bar_count kind)) (λ i j d up inside. let less = pairs_range 0 (bar_count kind) i j d up inside in omega (arith, less))

  bars_rise : AllPairs HasLowerRank bar_values
  bars_rise =
      subst (AllPairs HasLowerRank) (sym bars_here) (pairs_map HasLowerRank value_of (filter is_mine bars)
      (λ i j d up inside. let less = pairs_filter registers is_mine bars (pairs_filter registers (is_part a.request s f) (header_bars f) header_rise) i j d up inside in omega (arith, less)))

  bar_at : (i : ItemValue) → Contains bar_values i → (n : ℕ) × (n < bar_count kind) × (rank i.region ≡ first_rank f + bar_register n)
  bar_at i listed =
      let made : IsMade value_of (filter is_mine bars) i = in_map_to value_of (filter is_mine bars) i (subst (λ xs. Contains xs i) bars_here listed) in
      let part = in_filter_to (is_part a.request s f) (header_bars f) made.from (in_filter_to is_mine bars made.from made.has).0 in
      let at : IsMade Bar (range_with_len 0 (bar_count kind)) made.from = in_map_to Bar (range_with_len 0 (bar_count kind)) made.from part.0 in
      let range = in_range_to 0 (bar_count kind) at.from at.has in
      let low = range.1 in
      (at.from, omega (arith, low), ap (λ (j : ItemValue). rank j.region) (sym made.is) ∙ ap (λ p. first_rank f + register_of f p) (sym at.is))

  -- ---- the window

  abbrev window_values : List ItemValue
  window_values = map (asked_item_value s o.class) (asked_window_items o.place o.class o.kept o.window)

  window_if : (keep : Bool) (e : Extent) (i : ItemValue) → Contains (map (asked_item_value s o.class) (cond keep [] (record { function = o.place; part = parts.Window; extent = e } ∷ []))) i
      → asked_item_value s o.class record { function = o.place; part = parts.Window; extent = e } ≡ i
  window_if true e i listed = absurd (in_nil i listed)
  window_if false e i listed = elim (in_cons_cases (asked_item_value s o.class record { function = o.place; part = parts.Window; extent = e }) [] i listed) [
    | inl here ↦ here
    | inr none ↦ absurd (in_nil i none)
  ]

  window_at : (w : Option Extent) → IsWindowOf (is_bridge f && has_of a.request s o.class f) (a.extent f) w → (i : ItemValue) → Contains (map (asked_item_value s o.class) (asked_window_items o.place o.class o.kept w)) i
      → (kind ≡ 1) × (rank i.region ≡ first_rank f + window_register o.class)
  window_at None off i listed = absurd (in_nil i listed)
  window_at (Some e) (there, same) i listed = (
    eqb-true kind 1 (and_parts (is_bridge f) (has_of a.request s o.class f) there).0,
    ap (λ (j : ItemValue). rank j.region) (sym (window_if (kept_of o.kept (Window o.class)) e i listed)) ∙ ap (λ (g : Function). slot_number g.slot * 256 + window_register o.class) asked.here,
  )

  window_rises_if : (keep : Bool) (e : Extent) → AllPairs HasLowerRank (map (asked_item_value s o.class) (cond keep [] (record { function = o.place; part = parts.Window; extent = e } ∷ [])))
  window_rises_if true e = pairs_nil HasLowerRank
  window_rises_if false e = single_rank (asked_item_value s o.class record { function = o.place; part = parts.Window; extent = e })

  window_rises : (w : Option Extent) → AllPairs HasLowerRank (map (asked_item_value s o.class) (asked_window_items o.place o.class o.kept w))
  window_rises None = pairs_nil HasLowerRank
  window_rises (Some e) = window_rises_if (kept_of o.kept (Window o.class)) e

  -- ---- the ROM

  abbrev rom_values : List ItemValue
  rom_values = map (asked_item_value s o.class) (asked_rom_items o.place o.class o.kept r.rom)

  rom_if : (b : Bool) (rom : CodeRom) (i : ItemValue) → Contains (map (asked_item_value s o.class) (cond b (rom_item o.place rom ∷ []) [])) i → rank i.region ≡ first_rank f + rom_register kind
  rom_if false rom i listed = absurd (in_nil i listed)
  rom_if true rom i listed = elim (in_cons_cases (asked_item_value s o.class (rom_item o.place rom)) [] i listed) [
    | inl here ↦ ap (λ (j : ItemValue). rank j.region) (sym here) ∙ ap (λ (g : Function). slot_number g.slot * 256 + rom_register (layout g.image)) asked.here
    | inr none ↦ absurd (in_nil i none)
  ]

  rom_at : (w : Option CodeRom) (i : ItemValue) → Contains (map (asked_item_value s o.class) (asked_rom_items o.place o.class o.kept w)) i → rank i.region ≡ first_rank f + rom_register kind
  rom_at None i listed = absurd (in_nil i listed)
  rom_at (Some rom) i listed = rom_if (rom.on && same_class o.class MemoryWindow && not o.kept.rom) rom i listed

  rom_rises_if : (b : Bool) (rom : CodeRom) → AllPairs HasLowerRank (map (asked_item_value s o.class) (cond b (rom_item o.place rom ∷ []) []))
  rom_rises_if true rom = single_rank (asked_item_value s o.class (rom_item o.place rom))
  rom_rises_if false rom = pairs_nil HasLowerRank

  rom_rises : (w : Option CodeRom) → AllPairs HasLowerRank (map (asked_item_value s o.class) (asked_rom_items o.place o.class o.kept w))
  rom_rises None = pairs_nil HasLowerRank
  rom_rises (Some rom) = rom_rises_if (rom.on && same_class o.class MemoryWindow && not o.kept.rom) rom

  -- ---- all of them

  below_rom : (i j : ItemValue) → Contains window_values i → Contains rom_values j → HasLowerRank i j
  below_rom i j at_window at_rom =
      let bridge = window_at o.window asked.new i at_window in
      let a = bridge.1 in
      let b = rom_at r.rom j at_rom in
      let e : rom_register kind ≡ 0x38 = ap rom_register bridge.0 in
      let high = (window_between o.class).1 in
      omega (arith, a, b, e, high)

  below_rest : (i j : ItemValue) → Contains bar_values i → Contains (window_values ++ rom_values) j → HasLowerRank i j
  below_rest i j at_bar at_rest =
      let bar = bar_at i at_bar in
      let less = bar.1 in
      let a = bar.2 in
      elim (Contains-append_cases window_values rom_values j at_rest) [
        | inl at_window ↦
            let bridge = window_at o.window asked.new j at_window in
            let b = bridge.1 in
            let e : bar_count kind ≡ 2 = ap bar_count bridge.0 in
            let low = (window_between o.class).0 in
            omega (arith, less, a, b, e, low)
        | inr at_rom ↦ (let b = rom_at r.rom j at_rom in let up = bar_below_rom kind bar.0 less in omega (arith, a, b, up))
      ]

  items_rise : AllPairs HasLowerRank (map (asked_item_value s o.class) (asked_record_items o r))
  items_rise =
      subst (AllPairs HasLowerRank) (sym (values_are a s f o r asked))
      (pairs_append HasLowerRank bar_values (window_values ++ rom_values) bars_rise
      (pairs_append HasLowerRank window_values rom_values (window_rises o.window) (rom_rises r.rom) below_rom) below_rest)

  -- they are of the registers of a slot
  pub items_in_slot : (i : ItemValue) → Contains (map (asked_item_value s o.class) (asked_record_items o r)) i → (first_rank f ≤ rank i.region) × (rank i.region < first_rank f + 256)
  items_in_slot i listed =
      let few = bars_few kind in
      let low = rom_low kind in
      let high = (window_between o.class).1 in
      elim (Contains-append_cases bar_values (window_values ++ rom_values) i (subst (λ xs. Contains xs i) (values_are a s f o r asked) listed)) [
        | inl at_bar ↦ (let bar = bar_at i at_bar in let less = bar.1 in let a = bar.2 in (omega (arith, a), omega (arith, a, less, few)))
        | inr at_rest ↦ elim (Contains-append_cases window_values rom_values i at_rest) [
          | inl at_window ↦ (let a = (window_at o.window asked.new i at_window).1 in (omega (arith, a), omega (arith, a, high)))
          | inr at_rom ↦ (let a = rom_at r.rom i at_rom in (omega (arith, a), omega (arith, a, low)))
        ]
      ]

  pub items_by_rank : AreByRank (map (asked_item_value s o.class) (asked_record_items o r)) (items_of a.request s o.class a.keeps a.extent f)
  items_by_rank = record { same = items_are a s f o r asked; rising = items_rise }
