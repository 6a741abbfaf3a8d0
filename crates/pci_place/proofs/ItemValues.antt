-- The items of a record are those of its function.
use Rattle.std.proofs.Common.{◌≡◌, ℕ, ◌+◌, ◌/◌, ◌-◌, ◌<◌, ◌≤◌, List, [], ◌∷◌, ◌++◌, map, length, take, get_or, refl, Bool, true, false, cond, ◌&&◌, inl, inr, arith, sym, ◌∙◌, ap, subst, Option, Some, None}
use Rattle.std.specs.Bool.{nat_lt}
use Rattle.std.specs.Option.{option_map, is_some}
use Rattle.std.specs.List.{Contains, All, filter, flat_map, range_with_len, slice_get}
use Rattle.std.proofs.lemmas.Bool.{cases_lt, lt-ltb, le-ltb}
use Rattle.std.proofs.lemmas.List.{map-append, append-nil, take_more, take_all}
use Rattle.std.proofs.lemmas.List.Concat.{flat_map-append}
use Rattle.std.proofs.lemmas.List.Elements.{All-contains, All-nil, Contains-get_or, Contains-append_cases}
use Rattle.std.proofs.lemmas.Option.{slice_get_within, slice_get-get_or, get_or_from_slice_get}
use Rattle.pci_spec.specs.Slot.{Slot}
use Rattle.pci_spec.specs.Header.{layout, bar_count, bar_register}
use Rattle.pci_spec.specs.Rom.{has_rom}
use Rattle.pci_spec.specs.Window.{WindowKind, MemoryWindow}
use Rattle.pci_spec.specs.System.{System, Function, IsFunction, IsSystem, Part, Bar, Rom, Window, is_bridge, is_implemented}
use Rattle.pci_spec.specs.Bus.{secondary, IsNested}
use Rattle.pci_spec.specs.Decoded.{HasRecords, DecodedBar, decoded_bar, decoded_rom}
use Rattle.pci_spec.specs.Decoded as decoded
use Rattle.plan_spec.specs.Plan.{same_class, class_of, window_size, limited, need_of, has_behind}
use Rattle.plan_spec.specs.Plan as plan
use Rattle.plan_spec.specs.Place.{Item, part_item, window_item, items_among, own_items}
use Rattle.plan_spec.specs.Planning.Sorted.{group_of}
use Rattle.plan_spec.specs.Planning.Table.{need_behind}
use Rattle.pci_spec.proofs.Members.{IsMade, in_nil, in_cons_cases, in_map_to, in_filter_to}
use Rattle.pci_spec.proofs.Regions.{bar_count-le}
use Rattle.plan_spec.proofs.Planning.Behind.{behind_by_test}
use Rattle.plan_spec.proofs.Planning.OwnItems.{bar_parts}
use Rattle.pci_image.specs.declared.bar.Bar.{Bar as CodeBar}
use Rattle.pci_image.specs.declared.rom.Rom.{Rom as CodeRom}
use Rattle.pci_image.specs.Bars.{decoded_bar_of}
use Rattle.pci_image.specs.Roms.{decoded_rom_of}
use Rattle.pci_function.specs.declared.record.Bridge.{Bridge}
use Rattle.pci_function.specs.declared.record.Record.{Record}
use Rattle.pci_function.specs.Values.{record_value}
use Rattle.pci_tree.specs.Regions.{IsLawful}
use Rattle.pci_tree.proofs.Lifting.{same_bridge, same_slot_of}
use Rattle.pci_tree.proofs.Regions.{IsBarAt, bar_at_register}
use Rattle.pci_tree.proofs.RegionParts.{same_bridge_of}
use Rattle.pci_place.specs.declared.above.Above.{Above}
use Rattle.pci_place.specs.declared.item.Item.{Item as CodeItem}
use Rattle.pci_place.specs.declared.item.Owner.{Owner}
use Rattle.pci_place.specs.declared.item.Part.{Part as CodePart}
use Rattle.pci_place.specs.declared.item.Part.TheVariants as parts
use Rattle.pci_place.specs.declared.need.Needs.{Needs}
use Rattle.pci_place.specs.declared.pools.Pools.{Pools}
use Rattle.pci_place.specs.Pools.{pools_value}
use Rattle.pci_place.specs.Above.{IsAbove, AreAboves}
use Rattle.pci_place.specs.Classes.{bar_class}
use Rattle.pci_place.specs.Needs.{AreNeeds}
use Rattle.pci_place.specs.Records.{IsRecordInSystem}
use Rattle.pci_place.specs.Sizes.{span}
use Rattle.pci_place.specs.Items.{IsBar, owned, bar_item, bar_items, window_items, rom_items, record_items, no_function, function_in, item_value, IsItemPartOf, IsItemIn, AreItems}
use Rattle.pci_place.proofs.Mapped.{filter-map, kept_same}
use Rattle.pci_place.proofs.Parts.{bars_in, bars_of, rom_of, bar_span, rom_there, rom_span}
use Rattle.pci_place.proofs.ClassOf.{class_is}
use Rattle.pci_place.proofs.Owned.{map_twice, no_rom}
use Rattle.pci_place.proofs.Records.{FunctionAt, same_count, function_at}

item_same : (f g : Function) (p q : Part) (m n : ℕ) → f ≡ g → p ≡ q → m ≡ n → ◌≡◌ {A = Item} record { function = f; part = p; size = m } record { function = g; part = q; size = n }
item_same f g p q m n a b d = cc

map_cond : {X Y : Type 0} (f : X → Y) (b : Bool) (x : X) → map f (cond b (x ∷ []) []) ≡ cond b (f x ∷ []) []
map_cond f true x = refl
map_cond f false x = refl

some_need : (n : ℕ) → nat_lt 0 (limited n) ≡ nat_lt 0 n
some_need n = elim (cases_lt 0 n) [
  | inl some ↦ lt-ltb 0 (limited n) (omega (arith, some)) ∙ sym (lt-ltb 0 n some)
  | inr none ↦ le-ltb 0 (limited n) (omega (arith, none)) ∙ sym (le-ltb 0 n none)
]

in_one : {X : Type 0} (b : Bool) (x y : X) → Contains (cond b (x ∷ []) []) y → x ≡ y
in_one true x y has = elim (in_cons_cases x [] y has) [ inl is ↦ is | inr none ↦ absurd (in_nil y none) ]
in_one false x y has = absurd (in_nil y has)

register_place : (register n : ℕ) → register ≡ bar_register n → (register - 0x10) / 4 ≡ n
register_place register n at = omega (arith, at)

module _ (s : System) (f : Function) (r : Record) (is : IsRecordInSystem s f r) (o : Owner) (here : function_in s o.function ≡ f) (c : WindowKind) (pools : Pools) where
  abbrev is_of : Part → Bool
  is_of part = same_class c (class_of s (pools_value pools) f part)

  -- ---- BARs

  module _ (above : Above) (at : IsAbove s f.slot.bus above) where
    bar_is : (bar : CodeBar) (n : ℕ) → decoded_bar_of bar ≡ decoded_bar f.image f.probe n → item_value s c (bar_item o bar) ≡ part_item f (Bar n)
    bar_is bar n e =
        item_same (function_in s o.function) f (Bar ((bar.reg - 0x10) / 4)) (Bar n) (span bar.first bar.last) _
        here (ap Bar (register_place bar.reg n (ap (λ (x : DecodedBar). x.register) e))) (bar_span f bar n e).1

    bars_are : map (item_value s c) (bar_items o c above pools r.bars.items) ≡ items_among s (pools_value pools) c f (bar_parts f)
    bars_are =
        let test : CodeBar → Bool = λ bar. same_class c (bar_class bar above pools) in
        let parts : items_among s (pools_value pools) c f (bar_parts f) ≡ map (λ n. part_item f (Bar n)) (filter (λ n. is_of (Bar n)) (bars_in f)) =
        ap (λ ps. map (part_item f) (filter is_of ps)) (filter-map (is_implemented f) Bar (range_with_len 0 (bar_count (layout f.image))))
        ∙ ap (map (part_item f)) (filter-map is_of Bar (bars_in f))
        ∙ map_twice (part_item f) Bar (filter (λ n. is_of (Bar n)) (bars_in f)) in
        map_twice (item_value s c) (bar_item o) (filter test r.bars.items)
        ∙ kept_same decoded_bar_of (decoded_bar f.image f.probe) test (λ n. is_of (Bar n)) (λ bar n e. ap (same_class c) (class_is s f above pools bar n e at))
        (λ bar. item_value s c (bar_item o bar)) (λ n. part_item f (Bar n)) bar_is r.bars.items (bars_in f) (bars_of s f r is)
        ∙ sym parts

  -- ---- the ROM

  rom_is : (rom : CodeRom) → Some (decoded_rom_of rom) ≡ decoded_rom f.image f.probe → item_value s c (owned o parts.Rom (span rom.first rom.last)) ≡ part_item f Rom
  rom_is rom e = item_same (function_in s o.function) f Rom Rom (span rom.first rom.last) _ here refl (rom_span f rom e).1

  rom_among : (b : Bool) → map (part_item f) (filter is_of (cond b (Rom ∷ []) [])) ≡ cond b (cond (is_of Rom) (part_item f Rom ∷ []) []) []
  rom_among true = map_cond (part_item f) (is_of Rom) Rom
  rom_among false = refl

  roms_are : (rom : Option CodeRom) → option_map decoded_rom_of rom ≡ decoded_rom f.image f.probe → map (item_value s c) (rom_items o c rom) ≡ items_among s (pools_value pools) c f (Rom ∷ [])
  roms_are None e =
      sym (rom_among (has_rom f.image f.probe) ∙ ap (λ b. cond b (cond (is_of Rom) (part_item f Rom ∷ []) []) []) (no_rom (has_rom f.image f.probe) _ e))
  roms_are (Some rom) e =
      map_cond (item_value s c) (same_class c MemoryWindow) (owned o parts.Rom (span rom.first rom.last))
      ∙ ap (λ i. cond (same_class c MemoryWindow) (i ∷ []) []) (rom_is rom e)
      ∙ sym (rom_among (has_rom f.image f.probe) ∙ ap (λ b. cond b (cond (is_of Rom) (part_item f Rom ∷ []) []) []) (rom_there (has_rom f.image f.probe) (decoded_rom_of rom) _ e).0)

  -- ---- the window

  module _ (roots : List ℕ) (system : IsSystem s) (nested : IsNested roots s) (needs : Needs) (are : AreNeeds roots s (pools_value pools) c needs) where
    abbrev value_window : Bool → List Item
    value_window b = cond b (window_item s (pools_value pools) c f ∷ []) []

    low_bus : secondary f < 256
    low_bus = (All-contains IsFunction s f system.each is.listed).image.bytes 0x19

    need_there : (b : Bridge) → b.secondary ≡ secondary f → get_or needs.of_bus b.secondary 0 ≡ need_of s (pools_value pools) c (secondary f)
    need_there b same = ap (λ n. get_or needs.of_bus n 0) same ∙ are.need (secondary f) low_bus

    window_by : (bridge : Option Bridge) → r.bridge ≡ bridge → map (item_value s c) (window_items o c needs.of_bus bridge) ≡ value_window (is_bridge f && has_behind s (pools_value pools) c f)
    window_by None e =
        let off : is_bridge f ≡ false = sym (same_bridge r f is.value) ∙ ap is_some e in
        sym (ap (λ b. value_window (b && has_behind s (pools_value pools) c f)) off)
    window_by (Some b) e =
        let bridge : is_bridge f ≡ true = sym (same_bridge r f is.value) ∙ ap is_some e in
        let same : b.secondary ≡ secondary f = ap (λ (x : decoded.Bridge). x.secondary) (same_bridge_of r f b is.value e) in
        let need = need_there b same in
        let test : nat_lt 0 (get_or needs.of_bus b.secondary 0) ≡ (is_bridge f && has_behind s (pools_value pools) c f) =
        ap (λ n. nat_lt 0 n) need
        ∙ some_need (need_behind s (pools_value pools) c f)
        ∙ sym (behind_by_test roots s (pools_value pools) c system nested f is.listed bridge)
        ∙ sym (ap (λ t. t && has_behind s (pools_value pools) c f) bridge) in
        map_cond (item_value s c) (nat_lt 0 (get_or needs.of_bus b.secondary 0)) (owned o (parts.Window b.secondary) (window_size c (get_or needs.of_bus b.secondary 0)))
        ∙ ap (λ i. cond (nat_lt 0 (get_or needs.of_bus b.secondary 0)) (i ∷ []) [])
        (item_same (function_in s o.function) f (Window c) (Window c) (window_size c (get_or needs.of_bus b.secondary 0)) _ here refl (ap (window_size c) need))
        ∙ ap value_window test

    -- ---- all of them

    pub record_is : (above : Above) → IsAbove s f.slot.bus above → map (item_value s c) (record_items o c above pools needs.of_bus r) ≡ own_items s (pools_value pools) c f
    record_is above at =
        let bars = bar_items o c above pools r.bars.items in
        let windows = window_items o c needs.of_bus r.bridge in
        let roms = rom_items o c r.rom in
        map-append (item_value s c) bars (windows ++ roms)
        ∙ ap (λ xs. xs ++ map (item_value s c) (windows ++ roms)) (bars_are above at)
        ∙ ap (λ xs. items_among s (pools_value pools) c f (bar_parts f) ++ xs) (map-append (item_value s c) windows roms)
        ∙ ap (λ xs. items_among s (pools_value pools) c f (bar_parts f) ++ (xs ++ map (item_value s c) roms)) (window_by r.bridge refl)
        ∙ ap (λ xs. items_among s (pools_value pools) c f (bar_parts f) ++ (value_window (is_bridge f && has_behind s (pools_value pools) c f) ++ xs)) (roms_are r.rom (rom_of s f r is))

  -- ---- each of them

  module _ (roots : List ℕ) (inside : o.function < length s) (grouped : o.group ≡ group_of roots f.slot.bus) where
    owned_in : (part : CodePart) (size : ℕ) → IsItemPartOf f part → IsItemIn roots s (owned o part size)
    owned_in part size of = record {
      within = inside;
      group = grouped ∙ ap (λ (g : Function). group_of roots g.slot.bus) (sym here);
      part = subst (λ g. IsItemPartOf g part) (sym here) of;
    }

    bar_in : (above : Above) (i : CodeItem) → Contains (bar_items o c above pools r.bars.items) i → IsItemIn roots s i
    bar_in above i has =
        let test : CodeBar → Bool = λ bar. same_class c (bar_class bar above pools) in
        let made : IsMade (bar_item o) (filter test r.bars.items) i = in_map_to (bar_item o) (filter test r.bars.items) i has in
        let bar = made.from in
        let at : (n : ℕ) × IsBarAt f bar n = bar_at_register r f bar is.value (in_filter_to test r.bars.items bar made.has).0 in
        let place = register_place bar.reg at.0 (ap (λ (x : DecodedBar). x.register) at.1.is) in
        let within = at.1.within in
        let few = bar_count-le (layout f.image) in
        subst (IsItemIn roots s) made.is (owned_in (parts.Bar ((bar.reg - 0x10) / 4)) (span bar.first bar.last) (omega (arith, place, within, few)))

    window_in : (needs : List ℕ) (bridge : Option Bridge) → r.bridge ≡ bridge → (i : CodeItem) → Contains (window_items o c needs bridge) i → IsItemIn roots s i
    window_in needs None e i has = absurd (in_nil i has)
    window_in needs (Some b) e i has =
        subst (IsItemIn roots s) (in_one (nat_lt 0 (get_or needs b.secondary 0)) (owned o (parts.Window b.secondary) (window_size c (get_or needs b.secondary 0))) i has)
        (owned_in (parts.Window b.secondary) (window_size c (get_or needs b.secondary 0))
        (sym (same_bridge r f is.value) ∙ ap is_some e, sym (ap (λ (x : decoded.Bridge). x.secondary) (same_bridge_of r f b is.value e))))

    rom_in_items : (rom : Option CodeRom) (i : CodeItem) → Contains (rom_items o c rom) i → IsItemIn roots s i
    rom_in_items None i has = absurd (in_nil i has)
    rom_in_items (Some rom) i has =
        subst (IsItemIn roots s) (in_one (same_class c MemoryWindow) (owned o parts.Rom (span rom.first rom.last)) i has) (owned_in parts.Rom (span rom.first rom.last) tt)

    pub each_is : (above : Above) (needs : List ℕ) (i : CodeItem) → Contains (record_items o c above pools needs r) i → IsItemIn roots s i
    each_is above needs i has =
        elim (Contains-append_cases (bar_items o c above pools r.bars.items) (window_items o c needs r.bridge ++ rom_items o c r.rom) i has) [
          | inl bar ↦ bar_in above i bar
          | inr more ↦ elim (Contains-append_cases (window_items o c needs r.bridge) (rom_items o c r.rom) i more) [
            | inl window ↦ window_in needs r.bridge refl i window
            | inr rom ↦ rom_in_items r.rom i rom
          ]
        ]

-- ---- the items of all records so far

-- a BAR of a lawful record has a register and some address
pub bars_fine : (s : System) (f : Function) (r : Record) → IsRecordInSystem s f r → IsLawful r → All IsBar r.bars.items
bars_fine s f r is lawful k d l =
    let bar = get_or r.bars.items k d in
    let at : (n : ℕ) × IsBarAt f bar n = bar_at_register r f bar is.value (Contains-get_or r.bars.items k d l) in
    let register : bar.reg ≡ bar_register at.0 = ap (λ (x : DecodedBar). x.register) at.1.is in
    (omega (arith, register), (lawful.bars k d l).0)

pub items_more : (s : System) (pools : plan.Pools) (c : WindowKind) (k : ℕ) (f : Function) (old new : List CodeItem) → slice_get s k ≡ Some f
    → map (item_value s c) old ≡ flat_map (own_items s pools c) (take k s) → map (item_value s c) new ≡ own_items s pools c f
    → map (item_value s c) (old ++ new) ≡ flat_map (own_items s pools c) (take (k + 1) s)
items_more s pools c k f old new at before here =
    let within = slice_get_within s k f at in
    map-append (item_value s c) old new
    ∙ ap (λ xs. xs ++ map (item_value s c) new) before
    ∙ ap (λ xs. flat_map (own_items s pools c) (take k s) ++ xs) (here ∙ sym (append-nil (own_items s pools c f)))
    ∙ sym (flat_map-append (own_items s pools c) (take k s) (f ∷ []))
    ∙ ap (flat_map (own_items s pools c)) (sym (take_more s k f within ∙ ap (λ g. take k s ++ g ∷ []) (get_or_from_slice_get s k f f at)))

pub each_more : (P : CodeItem → Type 0) (old new : List CodeItem) → All P old → ((i : CodeItem) → Contains new i → P i) → All P (old ++ new)
each_more P old new before here k d l =
    let i = get_or (old ++ new) k d in
    elim (Contains-append_cases old new i (Contains-get_or (old ++ new) k d l)) [
      | inl first ↦ All-contains P old i before first
      | inr later ↦ here i later
    ]

-- the items of the first k functions
pub record AreItemsTo (roots : List ℕ) (s : System) (pools : plan.Pools) (c : WindowKind) (k : ℕ) (items : List CodeItem) : Type 0 where
  pub all : map (item_value s c) items ≡ flat_map (own_items s pools c) (take k s)
  pub each : All (IsItemIn roots s) items

module _ (roots : List ℕ) (s : System) (records : List Record) (has : HasRecords s (map record_value records)) (pools : Pools) (c : WindowKind) where
  pub items_none : AreItemsTo roots s (pools_value pools) c 0 []
  items_none = record { all = refl; each = All-nil (IsItemIn roots s) }

  pub items_all : (k : ℕ) (items : List CodeItem) → length records ≤ k → AreItemsTo roots s (pools_value pools) c k items → AreItems roots s (pools_value pools) c items
  items_all k items end are = record {
    all = are.all ∙ ap (flat_map (own_items s (pools_value pools) c)) (take_all k s (let e = same_count s records has in omega (arith, e, end)));
    each = are.each;
  }

  module _ (k : ℕ) (r : Record) (inside : k < length records) (is_at : r ≡ get_or records k r) where
    found : FunctionAt s r k
    found = function_at s records has k r (slice_get-get_or records k r inside ∙ ap Some (sym is_at))

    pub bars_at : All IsLawful records → All IsBar r.bars.items
    bars_at lawful = bars_fine s found.f r found.is (subst IsLawful (sym is_at) (lawful k r inside))

    pub items_step : IsSystem s → IsNested roots s → (aboves : List Above) → AreAboves s aboves → (needs : Needs) → AreNeeds roots s (pools_value pools) c needs
        → (bus group : ℕ) → bus ≡ r.slot.bus → group ≡ group_of roots bus → (d : Above) (old next : List CodeItem)
        → next ≡ old ++ record_items record { function = k; group = group } c (get_or aboves bus d) pools needs.of_bus r
        → AreItemsTo roots s (pools_value pools) c k old → AreItemsTo roots s (pools_value pools) c (k + 1) next
    items_step system nested aboves are_above needs are bus group on grouped d old next e before =
        let f = found.f in
        let o : Owner = record { function = k; group = group } in
        let here : function_in s k ≡ f = get_or_from_slice_get s k f no_function found.at in
        let same_bus : bus ≡ f.slot.bus = on ∙ ap (λ (x : Slot). x.bus) (same_slot_of r f found.is.value) in
        let above : IsAbove s f.slot.bus (get_or aboves bus d) = subst (λ n. IsAbove s f.slot.bus (get_or aboves n d)) (sym same_bus) (are_above f d found.is.listed) in
        let new = record_items o c (get_or aboves bus d) pools needs.of_bus r in
        subst (AreItemsTo roots s (pools_value pools) c (k + 1)) (sym e) record {
          all = items_more s (pools_value pools) c k f old new found.at before.all (record_is s f r found.is o here c pools roots system nested needs are (get_or aboves bus d) above);
          each = each_more (IsItemIn roots s) old new before.each
              (each_is s f r found.is o here c pools roots (slice_get_within s k f found.at) (grouped ∙ ap (group_of roots) same_bus) (get_or aboves bus d) needs.of_bus);
        }
