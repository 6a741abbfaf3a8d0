-- What a record has that can stand is what its function has.
use Rattle.std.proofs.Common.{◌≡◌, ℕ, ◌-◌, ◌/◌, inl, inr, List, [], ◌∷◌, ◌++◌, map, refl, Bool, true, false, cond, not, ◌&&◌, ◌||◌, sym, ◌∙◌, ap, Option, Some, None, arith}
use Rattle.std.specs.Option.{option_map, is_some}
use Rattle.std.specs.List.{filter, list_any, range_with_len}
use Rattle.std.proofs.lemmas.Bool.{cases_Bool, eqb-true}
use Rattle.std.proofs.lemmas.List.{map-append}
use Rattle.std.proofs.lemmas.List.Elements.{filter-append}
use Rattle.pci_spec.specs.Slot.{same_slot}
use Rattle.pci_spec.specs.Header.{layout, bar_count, bar_register, command}
use Rattle.pci_spec.specs.Bar.{bar_at, has_bar, is_io}
use Rattle.pci_spec.specs.Rom.{has_rom, rom_is_on}
use Rattle.pci_spec.specs.Window.{WindowKind, IoWindow, MemoryWindow, PrefetchWindow, has_window, is_closed}
use Rattle.pci_spec.specs.System.{System, Function, Part, Space, Io, Memory, Bar, Rom, Window, is_bridge, is_space_on, is_enabled, window_space, space_of}
use Rattle.pci_spec.specs.Decoded.{Range, DecodedBar, DecodedRom, decoded_bar, decoded_rom, window_range, optional_window}
use Rattle.pci_spec.specs.Decoded as decoded
use Rattle.pci_spec.proofs.Records.{memory_window_there}
use Rattle.plan_spec.specs.Plan.{is_open}
use Rattle.plan_spec.specs.Planning.Layout.{range_of}
use Rattle.settle_spec.specs.Lists.{Request}
use Rattle.settle_spec.specs.Parts.{FunctionPart, is_empty, is_left, is_part, header_bars, parts_of, function_parts}
use Rattle.settle_laws.specs.Order.{level}
use Rattle.pci_base.specs.Space as code
use Rattle.pci_base.specs.Ranges.{range_of_decoded}
use Rattle.pci_base.specs.WindowKinds.{kind_value}
use Rattle.pci_base.specs.declared.space.Space.{Space as CodeSpace}
use Rattle.pci_base.specs.declared.space.Space.TheVariants as spaces
use Rattle.pci_base.specs.declared.window_kind.WindowKind.{WindowKind as CodeKind}
use Rattle.pci_base.specs.declared.window_kind.WindowKind.TheVariants as kinds
use Rattle.pci_image.specs.declared.bar.Bar.{Bar as CodeBar}
use Rattle.pci_image.specs.declared.bar.BarKind.{BarKind}
use Rattle.pci_image.specs.declared.bar.BarKind.TheVariants as bar_kinds
use Rattle.pci_image.specs.declared.rom.Rom.{Rom as CodeRom}
use Rattle.pci_image.specs.Bars.{decoded_bar_of}
use Rattle.pci_image.specs.Roms.{decoded_rom_of}
use Rattle.pci_function.specs.declared.record.Bridge.{Bridge}
use Rattle.pci_function.specs.declared.record.Record.{Record}
use Rattle.pci_tree.specs.Passes.{range_in}
use Rattle.pci_tree.proofs.Lifting.{same_bridge}
use Rattle.pci_tree.proofs.RegionParts.{same_bridge_of}
use Rattle.pci_place.specs.Classes.{is_io_kind}
use Rattle.pci_place.specs.Items.{function_in}
use Rattle.pci_place.specs.Records.{IsRecordInSystem}
use Rattle.pci_image.specs.Windows.{window_of}
use Rattle.pci_place.proofs.Mapped.{filter-map, kept_same}
use Rattle.pci_place.proofs.Parts.{bars_in, bars_of, rom_of, rom_there}
use Rattle.pci_place.proofs.ClassOf.{kind_io}
use Rattle.pci_place.proofs.Owned.{map_twice, no_rom, lacking_above}
use Rattle.pci_first_fit.specs.declared.over.Over.{Over}
use Rattle.pci_first_fit.specs.declared.own.Terms.{Terms}
use Rattle.pci_first_fit.specs.Slots.{demand_of}
use Rattle.pci_first_fit.specs.Own.{AreTerms, is_left_bar, bar_class_of}
use Rattle.pci_first_fit.specs.Over.{IsOverBus}
use Rattle.pci_first_fit.proofs.OwnItems.{class_by}
use Rattle.pci_kept.specs.declared.region.Owner.{Owner}
use Rattle.pci_first_fit.specs.declared.kept.Part.{Part as CodePart}
use Rattle.pci_first_fit.specs.declared.kept.Part.TheVariants as parts
use Rattle.pci_first_fit.specs.Kept.{spec_part}
use Rattle.pci_kept.specs.Regions.{owned_region, kind_of, bar_space, owned_bar_region, owned_bar_regions, owned_window_regions, owned_bridge_regions, owned_rom_region, owned_rom_regions, record_regions}
use Rattle.pci_kept.specs.Known.{Known, known, known_of}

filter_twice : {X : Type 0} (has kept : X → Bool) (xs : List X) → filter (λ x. has x && kept x) xs ≡ filter kept (filter has xs)
filter_twice has kept [] = refl
filter_twice has kept (x ∷ xs) =
    elim (has x) as (λ b. cond (b && kept x) (x ∷ filter (λ y. has y && kept y) xs) (filter (λ y. has y && kept y) xs) ≡ filter kept (cond b (x ∷ filter has xs) (filter has xs))) [
      | true ↦ ap (λ ys. cond (kept x) (x ∷ ys) ys) (filter_twice has kept xs)
      | false ↦ filter_twice has kept xs
    ]

known_same : (f g : Function) (p o : Part) (b c l m : ℕ) (x y on off : Bool) (a z : Space) (v w : WindowKind) (r t : Range) → f ≡ g → p ≡ o → b ≡ c → l ≡ m → x ≡ y → on ≡ off → a ≡ z → v ≡ w → r ≡ t
    → ◌≡◌ {A = Known} record { region = record { function = f; part = p }; bus = b; level = l; fixed = x; on = on; space = a; class = v; range = r }
    record { region = record { function = g; part = o }; bus = c; level = m; fixed = y; on = off; space = z; class = w; range = t }
known_same f g p o b c l m x y on off a z v w r t e1 e2 e3 e4 e5 e6 e7 e8 e9 = cc

register_place : (register n : ℕ) → register ≡ bar_register n → (register - 0x10) / 4 ≡ n
register_place register n at = omega (arith, at)

not_and : (a b : Bool) → not (not a && b) ≡ (a || not b)
not_and true b = refl
not_and false b = refl

bar_space_is : (kind : BarKind) → code.space_of (bar_space kind) ≡ cond (is_io_kind kind) Io Memory
bar_space_is bar_kinds.Io = refl
bar_space_is bar_kinds.Mem32 = refl
bar_space_is bar_kinds.Mem64 = refl

pub on_is : (n : ℕ) (f : Function) (space : Space) → n ≡ command f.image → code.is_on n space ≡ is_space_on f space
on_is n f Io same = ap (λ m. code.is_on m Io) same
on_is n f Memory same = ap (λ m. code.is_on m Memory) same

kind_there : (c : WindowKind) → kind_value (kind_of c) ≡ c
kind_there IoWindow = refl
kind_there MemoryWindow = refl
kind_there PrefetchWindow = refl

with_true : (b : Bool) → (b && true) ≡ b
with_true true = refl
with_true false = refl

three : {X Y Z : Type 0} (v : X → Z) (w : Y → Z) (a b c : List X) (x y z : List Y) → map v a ≡ map w x → map v b ≡ map w y → map v c ≡ map w z → map v (a ++ (b ++ c)) ≡ map w (x ++ (y ++ z))
three v w a b c x y z first second third =
    map-append v a (b ++ c)
    ∙ ap (λ l. map v a ++ l) (map-append v b c)
    ∙ ap (λ l. l ++ (map v b ++ map v c)) first
    ∙ ap (λ l. map w x ++ (l ++ map v c)) second
    ∙ ap (λ l. map w x ++ (map w y ++ l)) third
    ∙ ap (λ l. map w x ++ l) (sym (map-append w y z))
    ∙ sym (map-append w x (y ++ z))

four : {X : Type 0} (a b c d : Bool) (x y z w : X)
    → cond a (x ∷ cond b (y ∷ cond c (z ∷ cond d (w ∷ []) []) (cond d (w ∷ []) [])) (cond c (z ∷ cond d (w ∷ []) []) (cond d (w ∷ []) [])))
    (cond b (y ∷ cond c (z ∷ cond d (w ∷ []) []) (cond d (w ∷ []) [])) (cond c (z ∷ cond d (w ∷ []) []) (cond d (w ∷ []) [])))
    ≡ (cond a (x ∷ []) [] ++ (cond b (y ∷ []) [] ++ cond c (z ∷ []) [])) ++ cond d (w ∷ []) []
four true true true d x y z w = refl
four true true false d x y z w = refl
four true false true d x y z w = refl
four true false false d x y z w = refl
four false true true d x y z w = refl
four false true false d x y z w = refl
four false false true d x y z w = refl
four false false false d x y z w = refl

-- ---- windows by their ranges

range_there : (f : Function) (c : WindowKind) → is_bridge f ≡ true → has_window c f.probe ≡ true → window_range c f.image ≡ cond (is_open f c) (Some (range_of f (Window c))) None
range_there f c bridge there = elim (is_closed c f.image) as (λ b. cond b None (Some (range_of f (Window c))) ≡ cond (is_bridge f && has_window c f.probe && not b) (Some (range_of f (Window c))) None) [
  | true ↦ sym (ap (λ b. cond (b && has_window c f.probe && false) (Some (range_of f (Window c))) None) bridge ∙ ap (λ b. cond (b && false) (Some (range_of f (Window c))) None) there)
  | false ↦ sym (ap (λ b. cond (b && has_window c f.probe && true) (Some (range_of f (Window c))) None) bridge ∙ ap (λ b. cond (b && true) (Some (range_of f (Window c))) None) there)
]

optional_there : (f : Function) (c : WindowKind) → is_bridge f ≡ true → range_in (optional_window c f.image f.probe) ≡ cond (is_open f c) (Some (range_of f (Window c))) None
optional_there f c bridge = elim (cases_Bool (has_window c f.probe)) [
  | inl there ↦ ap (λ b. range_in (cond b (Some (decoded.decoded_window c f.image f.probe)) None)) there ∙ range_there f c bridge there
  | inr absent ↦
      ap (λ b. range_in (cond b (Some (decoded.decoded_window c f.image f.probe)) None)) absent
      ∙ sym (ap (λ b. cond (b && has_window c f.probe && not (is_closed c f.image)) (Some (range_of f (Window c))) None) bridge
      ∙ ap (λ b. cond (b && not (is_closed c f.image)) (Some (range_of f (Window c))) None) absent)
]

-- the range of a window in a record, where it is open
pub window_is : (s : System) (f : Function) (r : Record) (b : Bridge) → IsRecordInSystem s f r → r.bridge ≡ Some b → (c : WindowKind) → range_in (window_of b.windows c) ≡ cond (is_open f c) (Some (range_of f (Window c))) None
window_is s f r b is e IoWindow =
    let bridge : is_bridge f ≡ true = sym (same_bridge r f is.value) ∙ ap is_some e in
    ap (λ (x : decoded.Bridge). range_in x.windows.io) (same_bridge_of r f b is.value e) ∙ optional_there f IoWindow bridge
window_is s f r b is e MemoryWindow =
    let bridge : is_bridge f ≡ true = sym (same_bridge r f is.value) ∙ ap is_some e in
    ap (λ (x : decoded.Bridge). x.windows.memory.range) (same_bridge_of r f b is.value e)
    ∙ range_there f MemoryWindow bridge (memory_window_there f.image f.probe (is.decodable.windows MemoryWindow (eqb-true (layout f.image) 1 bridge)))
window_is s f r b is e PrefetchWindow =
    let bridge : is_bridge f ≡ true = sym (same_bridge r f is.value) ∙ ap is_some e in
    ap (λ (x : decoded.Bridge). range_in x.windows.prefetch) (same_bridge_of r f b is.value e) ∙ optional_there f PrefetchWindow bridge

-- what the parts of a function share
pub record IsOwner (q : Request) (s : System) (f : Function) (o : Owner) (r : Record) : Type 0 where
  pub is : IsRecordInSystem s f r
  pub here : function_in s o.function ≡ f
  pub bus : o.bus ≡ f.slot.bus
  pub level : o.level ≡ level q f.slot.bus
  pub fixed : o.fixed ≡ list_any (same_slot f.slot) q.fixed
  pub command : o.command ≡ command f.image

module _ (q : Request) (s : System) (f : Function) (o : Owner) (over : Over) (t : Terms) (r : Record) (owner : IsOwner q s f o r) (over_is : IsOverBus q s f.slot.bus over) (terms : AreTerms (demand_of q) t) where
  abbrev region : Part → FunctionPart
  region p = record { function = f; part = p }

  abbrev value : Part → Known
  value p = known_of q s (region p)

  -- a part of the code is one of the function where it has its space, and so on
  owned_is : (part : CodePart) (p : Part) (space : CodeSpace) (z : Space) (class : CodeKind) (w : Range) → spec_part part ≡ p → code.space_of space ≡ z → space_of f p ≡ z → is_enabled f p ≡ is_space_on f z
      → kind_value class ≡ (known_of q s (region p)).class → w ≡ range_of f p → known s (owned_region o part space class (range_of_decoded w)) ≡ value p
  owned_is part p space z class w is_part_value in_space of_space enabled class_is range =
      known_same (function_in s o.function) f (spec_part part) p o.bus f.slot.bus o.level (value p).level o.fixed (value p).fixed
      (code.is_on o.command (code.space_of space)) (is_enabled f p) (code.space_of space) (space_of f p) (kind_value class) (value p).class w (range_of f p)
      owner.here is_part_value owner.bus owner.level owner.fixed
      (ap (code.is_on o.command) in_space ∙ on_is o.command f z owner.command ∙ sym enabled)
      (in_space ∙ sym of_space) class_is range

  -- ---- BARs

  left_is : (bar : CodeBar) (n : ℕ) → decoded_bar_of bar ≡ decoded_bar f.image f.probe n → not (is_left_bar bar over.above t.has_io) ≡ not (is_left q s f (Bar n))
  left_is bar n e =
      ap not (ap (λ b. b && not (t.has_io && over.above.io)) (kind_io f bar n e)
      ∙ ap (λ b. is_io (bar_at f.probe n) && not (b && over.above.io)) terms.io
      ∙ ap (λ b. is_io (bar_at f.probe n) && b) (not_and (is_empty q.lists.io) over.above.io)
      ∙ ap (λ b. is_io (bar_at f.probe n) && (is_empty q.lists.io || b)) (lacking_above s f r owner.is over.above over_is.above))

  bar_value : (bar : CodeBar) (n : ℕ) → decoded_bar_of bar ≡ decoded_bar f.image f.probe n → known s (owned_bar_region o over t bar) ≡ value (Bar n)
  bar_value bar n e =
      owned_is (parts.Bar ((bar.reg - 0x10) / 4)) (Bar n) (bar_space bar.kind) (space_of f (Bar n)) (kind_of (bar_class_of bar over t.prefetch_last)) (record { first = bar.first; last = bar.last })
      (ap Bar (register_place bar.reg n (ap (λ (x : DecodedBar). x.register) e)))
      (bar_space_is bar.kind ∙ ap (λ b. cond b Io Memory) (kind_io f bar n e))
      refl refl
      (kind_there (bar_class_of bar over t.prefetch_last) ∙ class_by q s f r over t owner.is terms over_is bar n e)
      (ap (λ (x : DecodedBar). x.range) e)

  bars_are : map (known s) (owned_bar_regions o over t r.bars.items) ≡ map value (filter (is_part q s f) (header_bars f))
  bars_are =
      let all = range_with_len 0 (bar_count (layout f.image)) in
      map_twice (known s) (owned_bar_region o over t) (filter (λ bar. not (is_left_bar bar over.above t.has_io)) r.bars.items)
      ∙ kept_same decoded_bar_of (decoded_bar f.image f.probe) (λ bar. not (is_left_bar bar over.above t.has_io)) (λ n. not (is_left q s f (Bar n))) left_is (λ bar. known s (owned_bar_region o over t bar)) (λ n. value (Bar n)) bar_value
      r.bars.items (bars_in f) (bars_of s f r owner.is)
      ∙ ap (map (λ n. value (Bar n))) (sym (filter_twice (has_bar f.probe) (λ n. not (is_left q s f (Bar n))) all))
      ∙ sym (map_twice value Bar (filter (λ n. is_part q s f (Bar n)) all))
      ∙ ap (map value) (sym (filter-map (is_part q s f) Bar all))

  -- ---- windows

  abbrev one : Bool → Part → List Part
  one b p = cond b (p ∷ []) []

  window_if : (c : WindowKind) (kind : CodeKind) (space : CodeSpace) (w : Option Range) → kind_value kind ≡ c → code.space_of space ≡ window_space c
      → w ≡ cond (is_open f c) (Some (range_of f (Window c))) None → map (known s) (owned_window_regions o kind space w) ≡ map value (one (is_open f c) (Window c))
  window_if c kind space w named in_space is = elim (cases_Bool (is_open f c)) [
    | inl opens ↦
        ap (λ x. map (known s) (owned_window_regions o kind space x)) (is ∙ ap (λ b. cond b (Some (range_of f (Window c))) None) opens)
        ∙ ap (λ k. k ∷ []) (owned_is (parts.Window kind) (Window c) space (window_space c) kind (range_of f (Window c)) (ap Window named) in_space refl refl named refl)
        ∙ sym (ap (λ b. map value (one b (Window c))) opens)
    | inr closed ↦
        ap (λ x. map (known s) (owned_window_regions o kind space x)) (is ∙ ap (λ b. cond b (Some (range_of f (Window c))) None) closed)
        ∙ sym (ap (λ b. map value (one b (Window c))) closed)
  ]

  abbrev windows : List Part
  windows = one (is_open f IoWindow) (Window IoWindow) ++ (one (is_open f MemoryWindow) (Window MemoryWindow) ++ one (is_open f PrefetchWindow) (Window PrefetchWindow))

  windows_by : (bridge : Option Bridge) → r.bridge ≡ bridge → map (known s) (owned_bridge_regions o bridge) ≡ map value windows
  windows_by None e =
      let off : is_bridge f ≡ false = sym (same_bridge r f owner.is.value) ∙ ap is_some e in
      sym (ap (λ b. map value (one (b && has_window IoWindow f.probe && not (is_closed IoWindow f.image)) (Window IoWindow)
      ++ (one (b && has_window MemoryWindow f.probe && not (is_closed MemoryWindow f.image)) (Window MemoryWindow)
      ++ one (b && has_window PrefetchWindow f.probe && not (is_closed PrefetchWindow f.image)) (Window PrefetchWindow)))) off)
  windows_by (Some b) e =
      let first = window_if IoWindow kinds.Io spaces.Io (range_in b.windows.io) refl refl (window_is s f r b owner.is e IoWindow) in
      let second = window_if MemoryWindow kinds.Memory spaces.Mem b.windows.mem.range refl refl (window_is s f r b owner.is e MemoryWindow) in
      let third = window_if PrefetchWindow kinds.Prefetchable spaces.Mem (range_in b.windows.pref) refl refl (window_is s f r b owner.is e PrefetchWindow) in
      three (known s) value
      (owned_window_regions o kinds.Io spaces.Io (range_in b.windows.io)) (owned_window_regions o kinds.Memory spaces.Mem b.windows.mem.range) (owned_window_regions o kinds.Prefetchable spaces.Mem (range_in b.windows.pref))
      (one (is_open f IoWindow) (Window IoWindow)) (one (is_open f MemoryWindow) (Window MemoryWindow)) (one (is_open f PrefetchWindow) (Window PrefetchWindow)) first second third

  -- ---- the ROM

  roms_are : (rom : Option CodeRom) → option_map decoded_rom_of rom ≡ decoded_rom f.image f.probe
      → map (known s) (owned_rom_regions o rom) ≡ map value (one (has_rom f.image f.probe && rom_is_on f.image) Rom)
  roms_are None e = sym (ap (λ b. map value (one (b && rom_is_on f.image) Rom)) (no_rom (has_rom f.image f.probe) _ e))
  roms_are (Some rom) e =
      let there = rom_there (has_rom f.image f.probe) (decoded_rom_of rom) _ e in
      let on : rom.on ≡ rom_is_on f.image = ap (λ (x : DecodedRom). x.on) there.1 in
      elim (cases_Bool (rom_is_on f.image)) [
        | inl is_on ↦
            ap (λ b. map (known s) (cond b (owned_rom_region o rom ∷ []) [])) (on ∙ is_on)
            ∙ ap (λ k. k ∷ []) (owned_is parts.Rom Rom spaces.Mem Memory kinds.Memory (record { first = rom.first; last = rom.last }) refl refl refl
            (ap (λ b. is_space_on f Memory && b) is_on ∙ with_true (is_space_on f Memory)) refl (ap (λ (x : DecodedRom). x.range) there.1))
            ∙ sym (ap (λ b. map value (one (b && rom_is_on f.image) Rom)) there.0 ∙ ap (λ b. map value (one b Rom)) is_on)
        | inr off ↦
            ap (λ b. map (known s) (cond b (owned_rom_region o rom ∷ []) [])) (on ∙ off)
            ∙ sym (ap (λ b. map value (one (b && rom_is_on f.image) Rom)) there.0 ∙ ap (λ b. map value (one b Rom)) off)
      ]

  -- ---- all of them

  others_are : filter (is_part q s f) (Window IoWindow ∷ Window MemoryWindow ∷ Window PrefetchWindow ∷ Rom ∷ []) ≡ windows ++ one (is_part q s f Rom) Rom
  others_are = four (is_open f IoWindow) (is_open f MemoryWindow) (is_open f PrefetchWindow) (is_part q s f Rom) (Window IoWindow) (Window MemoryWindow) (Window PrefetchWindow) Rom

  pub record_parts : map (known s) (record_regions o over t r) ≡ map (known_of q s) (function_parts q s f)
  record_parts =
      let bars = filter (is_part q s f) (header_bars f) in
      let rom = one (is_part q s f Rom) Rom in
      map-append (known s) (owned_bar_regions o over t r.bars.items) (owned_bridge_regions o r.bridge ++ owned_rom_regions o r.rom)
      ∙ ap (λ xs. map (known s) (owned_bar_regions o over t r.bars.items) ++ xs) (map-append (known s) (owned_bridge_regions o r.bridge) (owned_rom_regions o r.rom))
      ∙ ap (λ xs. xs ++ (map (known s) (owned_bridge_regions o r.bridge) ++ map (known s) (owned_rom_regions o r.rom))) bars_are
      ∙ ap (λ xs. map value bars ++ (xs ++ map (known s) (owned_rom_regions o r.rom))) (windows_by r.bridge refl)
      ∙ ap (λ xs. map value bars ++ (map value windows ++ xs)) (roms_are r.rom (rom_of s f r owner.is))
      ∙ ap (λ xs. map value bars ++ xs) (sym (map-append value windows rom) ∙ ap (map value) (sym others_are))
      ∙ sym (map-append value bars (filter (is_part q s f) (Window IoWindow ∷ Window MemoryWindow ∷ Window PrefetchWindow ∷ Rom ∷ [])))
      ∙ ap (map value) (sym (filter-append (is_part q s f) (header_bars f) (Window IoWindow ∷ Window MemoryWindow ∷ Window PrefetchWindow ∷ Rom ∷ [])))
      ∙ sym (map_twice (known_of q s) region (parts_of q s f))
