-- What a record has to place is what its function has, but what keeps its place.
use Rattle.std.proofs.Common.{drop, length, max, get_or, ◌≡◌, ℕ, ◌+◌, ◌/◌, ◌-◌, ◌<◌, ◌≤◌, List, [], ◌∷◌, ◌++◌, map, refl, Bool, true, false, cond, not, ◌&&◌, ◌||◌, sym, ◌∙◌, ap, subst, Option, Some, None, arith, inl, inr}
use Rattle.std.specs.Option.{option_map}
use Rattle.std.specs.List.{Contains, list_any, list_all, filter, range_with_len}
use Rattle.std.specs.List.Sorted.{IsPermutation}
use Rattle.std.proofs.lemmas.Bool.{cases_Bool, both_ways}
use Rattle.std.proofs.lemmas.List.{map-append, append_assoc}
use Rattle.std.proofs.lemmas.List.Elements.{filter-append}
use Rattle.std.proofs.lemmas.List.Sorted.{IsPermutation-append_right, IsPermutation-append_comm}
use Rattle.pci_spec.specs.Header.{layout, bar_count, bar_register}
use Rattle.pci_spec.specs.Bar.{bar_at, has_bar, is_io, is_prefetchable}
use Rattle.pci_spec.specs.Rom.{has_rom, rom_is_on}
use Rattle.pci_spec.specs.Number.{has_bit, number_at}
use Rattle.pci_spec.specs.Window.{WindowKind, IoWindow, MemoryWindow, PrefetchWindow, has_window}
use Rattle.pci_spec.specs.System.{System, Function, Part, Bar, Rom, Window, is_bridge, is_window}
use Rattle.pci_spec.specs.Bus.{is_root}
use Rattle.pci_spec.specs.Decoded.{DecodedBar, DecodedRom, decoded_bar, decoded_rom, Range as DecodedRange}
use Rattle.pci_spec.proofs.Members.{in_filter_to}
use Rattle.plan_spec.specs.Plan.{same_class, greatest, size_of, class_of, is_open, is_served, bridges_above}
use Rattle.plan_spec.specs.Planning.Layout.{range_of}
use Rattle.settle_spec.specs.Lists.{RootRange, Request}
use Rattle.settle_spec.specs.Parts.{FunctionPart, is_empty, is_left, is_part, header_bars, header_parts, parts_of, function_parts, lies_within, holds_range, bridge_over, upper_pools, new_class, is_in_memory, class_in}
use Rattle.settle_spec.specs.Stands.{window_part}
use Rattle.settle_spec.specs.Items.{PlacingItem as ItemValue, highest_of, highest_of_bar, own_item, is_own, has_of, items_of}
use Rattle.settle_spec.proofs.Classes.{class_planned}
use Rattle.settle_spec.proofs.LaidOut.{greatest_more}
use Rattle.pci_image.specs.declared.bar.Bar.{Bar as CodeBar}
use Rattle.pci_image.specs.declared.rom.Rom.{Rom as CodeRom}
use Rattle.pci_image.specs.Bars.{decoded_bar_of}
use Rattle.pci_image.specs.Roms.{decoded_rom_of}
use Rattle.pci_function.specs.declared.record.Record.{Record}
use Rattle.pci_place.specs.Records.{IsRecordInSystem}
use Rattle.pci_place.specs.Classes.{is_io_kind}
use Rattle.pci_place.specs.Items.{function_in}
use Rattle.pci_place.specs.Sizes.{span}
use Rattle.pci_place.proofs.Mapped.{filter-map, any_fails, kept_same}
use Rattle.pci_place.proofs.Parts.{bars_in, bars_of, rom_of, bar_span, rom_there, rom_span}
use Rattle.pci_place.proofs.ClassOf.{kind_io, class_is}
use Rattle.pci_place.proofs.Owned.{map_twice, no_rom, lacking_above}
use Rattle.pci_first_fit.specs.declared.extent.Extent.{Extent}
use Rattle.pci_base.specs.Ranges.{decoded_range_of}
use Rattle.pci_base.specs.declared.range.Range.{Range as CodeRange}
use Rattle.pci_base.specs.declared.range.RootRange.{RootRange as CodeRootRange}
use Rattle.pci_first_fit.specs.declared.item.Part.TheVariants as parts
use Rattle.pci_first_fit.specs.declared.over.Over.{Over}
use Rattle.pci_first_fit.specs.declared.own.Terms.{Terms}
use Rattle.pci_first_fit.specs.Kept.{kept_of}
use Rattle.pci_first_fit.specs.Slots.{demand_of}
use Rattle.pci_first_fit.specs.Over.{range_holds, open_range, class_window, IsOverBus}
use Rattle.pci_first_fit.proofs.Headers.{filter_same, header_has}
use Rattle.pci_first_fit.specs.Lists.{root_range_value}
use Rattle.pci_first_fit.proofs.Walks.{left_next, left_none}
use Rattle.pci_first_fit.specs.Own as own
use Rattle.pci_first_fit.specs.Own.{last_of, AreTerms, code_pools, class_anew, first_bar_register, is_left_bar, is_own_bar, asked_bar_item, asked_bar_items, rom_item, asked_rom_items, asked_window_items, Situation, asked_record_items, asked_item_value, IsWindowOf, Asking, IsAskedFor}

-- ---- lists

-- a filter of what passes two tests, the first of them alone before the others
filter_later : {X : Type 0} (has kept own : X → Bool) (xs : List X) → filter own (filter (λ x. has x && kept x) xs) ≡ filter (λ x. kept x && own x) (filter has xs)
filter_later has kept own [] = refl
filter_later has kept own (x ∷ xs) =
    let more = filter (λ y. has y && kept y) xs in
    let rest = filter (λ y. kept y && own y) (filter has xs) in
    let same : filter own more ≡ rest = filter_later has kept own xs in
    elim (has x) as (λ b. filter own (cond (b && kept x) (x ∷ more) more) ≡ filter (λ y. kept y && own y) (cond b (x ∷ filter has xs) (filter has xs))) [
      | true ↦ elim (kept x) as (λ b. filter own (cond b (x ∷ more) more) ≡ cond (b && own x) (x ∷ rest) rest) [
        | true ↦ ap (λ ys. cond (own x) (x ∷ ys) ys) same
        | false ↦ same
      ]
      | false ↦ same
    ]

-- what fails a test is dropped wherever it stood
filter_off : {X : Type 0} (test : X → Bool) (there : Bool) (x : X) (xs : List X) → test x ≡ false → filter test (cond there (x ∷ xs) xs) ≡ filter test xs
filter_off test true x xs off = ap (λ b. cond b (x ∷ filter test xs) (filter test xs)) off
filter_off test false x xs off = refl

one_kept : {X Y : Type 0} (make : X → Y) (test : X → Bool) (there : Bool) (x : X) → map make (filter test (cond there (x ∷ []) [])) ≡ cond (there && test x) (make x ∷ []) []
one_kept make test true x = elim (test x) as (λ b. map make (cond b (x ∷ []) []) ≡ cond b (make x ∷ []) []) [ true ↦ refl | false ↦ refl ]
one_kept make test false x = refl

one_made : {X Y : Type 0} (make : X → Y) (b : Bool) (x : X) → map make (cond b (x ∷ []) []) ≡ cond b (make x ∷ []) []
one_made make true x = refl
one_made make false x = refl

value_same : (c : WindowKind) (f g : Function) (p o : Part) (a b m n v w : ℕ) → f ≡ g → p ≡ o → a ≡ b → m ≡ n → v ≡ w
    → ◌≡◌ {A = ItemValue} record { region = record { function = f; part = p }; class = c; extent = record { size = a; alignment = m; highest = v } }
    record { region = record { function = g; part = o }; class = c; extent = record { size = b; alignment = n; highest = w } }
value_same c f g p o a b m n v w e h i j k = cc

register_place : (register n : ℕ) → register ≡ bar_register n → (register - 0x10) / 4 ≡ n
register_place register n at = omega (arith, at)

and_later : (a b d : Bool) → (a && b && d) ≡ (a && (b && d))
and_later true b d = refl
and_later false b d = refl

-- ---- what the lists tell

abbrev pub lasts : List RootRange → List ℕ
lasts list = map (λ (r : RootRange). r.range.last) list

no_last : (list : List RootRange) → last_of list ≡ None → is_empty list ≡ true
no_last [] e = refl
no_last (r ∷ more) e = cc

some_last : (list : List RootRange) (last : ℕ) → last_of list ≡ Some last → (is_empty list ≡ false) × (last ≡ greatest (map (λ (r : RootRange). r.range.last) list))
some_last [] last e = cc
some_last (r ∷ more) last e = (refl, cc)

pub greatest_next : (list : List CodeRootRange) (n : ℕ) (d : CodeRootRange) (a all : ℕ) → n < length list → max a (greatest (lasts (drop n (map root_range_value list)))) ≡ all
    → max (max a (get_or list n d).range.last) (greatest (lasts (drop (n + 1) (map root_range_value list)))) ≡ all
greatest_next list n d a all within is =
    let next : greatest (lasts (drop n (map root_range_value list))) ≡ greatest ((get_or list n d).range.last ∷ lasts (drop (n + 1) (map root_range_value list))) =
    ap (λ xs. greatest (lasts xs)) (left_next root_range_value list n d within) in
    let more = greatest_more (get_or list n d).range.last (lasts (drop (n + 1) (map root_range_value list))) in
    omega (arith, is, next, more)

pub greatest_all : (list : List CodeRootRange) (n a all : ℕ) → length list ≤ n → max a (greatest (lasts (drop n (map root_range_value list)))) ≡ all → a ≡ all
greatest_all list n a all past is =
    let none : greatest (lasts (drop n (map root_range_value list))) ≡ 0 = ap (λ xs. greatest (lasts xs)) (left_none root_range_value list n past) in
    omega (arith, is, none)

not_and : (a b : Bool) → not (not a && b) ≡ (a || not b)
not_and true b = refl
not_and false b = refl

-- ---- classes

held_is : (kind : WindowKind) (r : DecodedRange) (o : Option Function) → range_holds (open_range kind o) r ≡ holds_range kind r o
held_is kind r None = refl
held_is kind r (Some b) =
    elim (is_open b kind) as (λ v. range_holds (cond v (Some (range_of b (Window kind))) None) r ≡ (v && lies_within r (range_of b (Window kind)))) [ true ↦ refl | false ↦ refl ]

told_if : (a : Bool) (o : Option DecodedRange) (r : DecodedRange) → range_holds (cond a None o) r ≡ (not a && range_holds o r)
told_if true o r = refl
told_if false o r = refl

not_twice : (b : Bool) → not (not b) ≡ b
not_twice true = refl
not_twice false = refl

-- the window that holds a prefetchable BAR tells its class, the one of memory first
class_cases : (io p a m h l : Bool) (x : WindowKind) → (io ≡ true → p ≡ false)
    → cond (p && (not a && m)) MemoryWindow (cond (p && (not a && h) && l) PrefetchWindow (cond io IoWindow (cond p x MemoryWindow)))
    ≡ cond io IoWindow (cond p (cond a x (cond m MemoryWindow (cond (h && l) PrefetchWindow x))) MemoryWindow)
class_cases io false a m h l x plain = refl
class_cases true true a m h l x plain = absurd (both_ways true (plain refl) refl)
class_cases false true true m h l x plain = refl
class_cases false true false true h l x plain = refl
class_cases false true false false true l x plain = refl
class_cases false true false false false l x plain = refl

module _ (q : Request) (s : System) (f : Function) (r : Record) (over : Over) (t : Terms) (is : IsRecordInSystem s f r) (terms : AreTerms (demand_of q) t) (over_is : IsOverBus q s f.slot.bus over) where
  abbrev class_by_new : ℕ → WindowKind
  class_by_new n = cond (is_io (bar_at f.probe n)) IoWindow (cond (is_prefetchable (bar_at f.probe n)) (new_class q s f n) MemoryWindow)

  class_none : is_empty q.lists.prefetch ≡ true → (bar : CodeBar) (n : ℕ) → decoded_bar_of bar ≡ decoded_bar f.image f.probe n
      → cond (is_io_kind bar.kind) IoWindow MemoryWindow ≡ class_by_new n
  class_none none bar n e =
      let new : MemoryWindow ≡ new_class q s f n = sym (ap (λ b. cond (not b && is_served s (upper_pools q.lists.prefetch) f n) PrefetchWindow MemoryWindow) none) in
      let same : (b : Bool) → MemoryWindow ≡ cond b (new_class q s f n) MemoryWindow = λ b.
      elim b as (λ b. MemoryWindow ≡ cond b (new_class q s f n) MemoryWindow) [ true ↦ new | false ↦ refl ] in
      ap (λ b. cond b IoWindow MemoryWindow) (kind_io f bar n e)
      ∙ ap (λ k. cond (is_io (bar_at f.probe n)) IoWindow k) (same (is_prefetchable (bar_at f.probe n)))

  anew_by : (o : Option ℕ) → o ≡ last_of q.lists.prefetch → (bar : CodeBar) (n : ℕ) → decoded_bar_of bar ≡ decoded_bar f.image f.probe n
      → class_anew bar over.above o ≡ class_by_new n
  anew_by None told bar n e = class_none (no_last q.lists.prefetch (sym told)) bar n e
  anew_by (Some last) told bar n e =
      let some = some_last q.lists.prefetch last (sym told) in
      let asked : Request = record q { anew = true } in
      class_is s f over.above (code_pools last) bar n e over_is.above
      ∙ ap (λ m. class_of s record { io = record { first = 0; last = 0 }; memory = record { first = 0; last = 0 }; prefetch = record { first = 0; last = m } } f (Bar n)) some.1
      ∙ sym (class_planned asked s f refl some.0 (Bar n))

  held_by : (kind : WindowKind) (o : Option CodeRange) → option_map decoded_range_of o ≡ class_window q s kind f.slot.bus → (bar : CodeBar) (n : ℕ) → decoded_bar_of bar ≡ decoded_bar f.image f.probe n
      → own.is_held_bar o bar ≡ (is_prefetchable (bar_at f.probe n) && (not (q.anew || is_root q.roots f.slot.bus) && holds_range kind (range_of f (Bar n)) (bridge_over s f.slot.bus)))
  held_by kind o told bar n e =
      ap (λ (x : DecodedBar). x.prefetchable && range_holds (option_map decoded_range_of o) x.range) e
      ∙ ap (λ w. is_prefetchable (bar_at f.probe n) && range_holds w (range_of f (Bar n))) told
      ∙ ap (λ b. is_prefetchable (bar_at f.probe n) && b) (told_if (q.anew || is_root q.roots f.slot.bus) (open_range kind (bridge_over s f.slot.bus)) (range_of f (Bar n))
      ∙ ap (λ b. not (q.anew || is_root q.roots f.slot.bus) && b) (held_is kind (range_of f (Bar n)) (bridge_over s f.slot.bus)))

  led : over.above.pref ≡ not (list_any (λ b. not (has_window PrefetchWindow b.probe)) (bridges_above s f.slot.bus))
  led = over_is.above.pref ∙ sym (not_twice (list_all (λ b. has_window PrefetchWindow b.probe) (bridges_above s f.slot.bus))) ∙ ap not (sym (any_fails (λ b. has_window PrefetchWindow b.probe) (bridges_above s f.slot.bus)))

  pub class_by : (bar : CodeBar) (n : ℕ) → decoded_bar_of bar ≡ decoded_bar f.image f.probe n → own.bar_class_of bar over t.prefetch_last ≡ class_in q s f (Bar n)
  class_by bar n e =
      let a : Bool = q.anew || is_root q.roots f.slot.bus in
      let reg = bar_at f.probe n in
      let h : Bool = holds_range PrefetchWindow (range_of f (Bar n)) (bridge_over s f.slot.bus) in
      ap (λ b. cond b MemoryWindow (cond (own.is_held_bar over.windows.prefetch bar && over.above.pref) PrefetchWindow (class_anew bar over.above t.prefetch_last))) (held_by MemoryWindow over.windows.memory over_is.windows_are.memory bar n e)
      ∙ ap (λ b. cond (is_prefetchable reg && (not a && is_in_memory s f n)) MemoryWindow (cond (b && over.above.pref) PrefetchWindow (class_anew bar over.above t.prefetch_last))) (held_by PrefetchWindow over.windows.prefetch over_is.windows_are.prefetch bar n e)
      ∙ ap (λ b. cond (is_prefetchable reg && (not a && is_in_memory s f n)) MemoryWindow (cond (is_prefetchable reg && (not a && h) && b) PrefetchWindow (class_anew bar over.above t.prefetch_last))) led
      ∙ ap (λ k. cond (is_prefetchable reg && (not a && is_in_memory s f n)) MemoryWindow (cond (is_prefetchable reg && (not a && h) && not (list_any (λ b. not (has_window PrefetchWindow b.probe)) (bridges_above s f.slot.bus))) PrefetchWindow k))
      (anew_by t.prefetch_last terms.last bar n e)
      ∙ class_cases (is_io reg) (is_prefetchable reg) a (is_in_memory s f n) h (not (list_any (λ b. not (has_window PrefetchWindow b.probe)) (bridges_above s f.slot.bus))) (new_class q s f n)
      (λ io. ap (λ b. not b && has_bit reg 3) io)

module _ (a : Asking) (s : System) (f : Function) (o : Situation) (r : Record) (asked : IsAskedFor a s f o r) where
  left_is : (bar : CodeBar) (n : ℕ) → decoded_bar_of bar ≡ decoded_bar f.image f.probe n → is_left_bar bar o.over.above o.terms.has_io ≡ is_left a.request s f (Bar n)
  left_is bar n e =
      ap (λ b. b && not (o.terms.has_io && o.over.above.io)) (kind_io f bar n e)
      ∙ ap (λ b. is_io (bar_at f.probe n) && not (b && o.over.above.io)) asked.terms.io
      ∙ ap (λ b. is_io (bar_at f.probe n) && b) (not_and (is_empty a.request.lists.io) o.over.above.io)
      ∙ ap (λ b. is_io (bar_at f.probe n) && (is_empty a.request.lists.io || b)) (lacking_above s f r asked.is o.over.above asked.over_is.above)

  -- ---- BARs

  abbrev region : Part → FunctionPart
  region p = record { function = f; part = p }

  -- what the table tells of a part of the function
  abbrev pub noted : FunctionPart → Bool
  noted i = kept_of o.kept i.part

  abbrev is_mine : Part → Bool
  is_mine p = is_own a.request s o.class (region p) && not (noted (region p))

  abbrev mine_at : ℕ → Bool
  mine_at n = not (is_left a.request s f (Bar n)) && (same_class o.class (class_in a.request s f (Bar n)) && not (kept_of o.kept (Bar n)))

  abbrev value_of : Part → ItemValue
  value_of p = own_item o.class (region p)

  bar_test : (bar : CodeBar) (n : ℕ) → decoded_bar_of bar ≡ decoded_bar f.image f.probe n → is_own_bar o.class o.over o.terms o.kept bar ≡ mine_at n
  bar_test bar n e =
      ap (λ b. not b && same_class o.class (own.bar_class_of bar o.over o.terms.prefetch_last) && not (kept_of o.kept (Bar (first_bar_register bar)))) (left_is bar n e)
      ∙ ap (λ d. not (is_left a.request s f (Bar n)) && same_class o.class d && not (kept_of o.kept (Bar (first_bar_register bar)))) (class_by a.request s f r o.over o.terms asked.is asked.terms asked.over_is bar n e)
      ∙ ap (λ m. not (is_left a.request s f (Bar n)) && same_class o.class (class_in a.request s f (Bar n)) && not (kept_of o.kept (Bar m))) (register_place bar.reg n (ap (λ (x : DecodedBar). x.register) e))
      ∙ and_later (not (is_left a.request s f (Bar n))) (same_class o.class (class_in a.request s f (Bar n))) (not (kept_of o.kept (Bar n)))

  highest_is : (bar : CodeBar) (n : ℕ) → decoded_bar_of bar ≡ decoded_bar f.image f.probe n → highest_of_bar (number_at o.probe bar.reg 4) ≡ highest_of f (Bar n)
  highest_is bar n e =
      ap (λ r. highest_of_bar (number_at o.probe r 4)) (ap (λ (x : DecodedBar). x.register) e) ∙ ap (λ p. highest_of_bar (number_at p (bar_register n) 4)) asked.probe_is

  bar_value : (bar : CodeBar) (n : ℕ) → decoded_bar_of bar ≡ decoded_bar f.image f.probe n → asked_item_value s o.class (asked_bar_item o.place o.probe bar) ≡ value_of (Bar n)
  bar_value bar n e =
      let size = (bar_span f bar n e).1 in
      value_same o.class (function_in s o.place) f (Bar ((bar.reg - 0x10) / 4)) (Bar n) (span bar.first bar.last) (size_of f (Bar n)) (span bar.first bar.last) (size_of f (Bar n)) _ _
      asked.here (ap Bar (register_place bar.reg n (ap (λ (x : DecodedBar). x.register) e))) size size (highest_is bar n e)

  pub bars_are : map (asked_item_value s o.class) (asked_bar_items o.place o.probe o.class o.over o.terms o.kept r.bars.items) ≡ map value_of (filter is_mine (filter (is_part a.request s f) (header_bars f)))
  bars_are =
      let all = range_with_len 0 (bar_count (layout f.image)) in
      map_twice (asked_item_value s o.class) (asked_bar_item o.place o.probe) (filter (is_own_bar o.class o.over o.terms o.kept) r.bars.items)
      ∙ kept_same decoded_bar_of (decoded_bar f.image f.probe) (is_own_bar o.class o.over o.terms o.kept) mine_at bar_test (λ bar. asked_item_value s o.class (asked_bar_item o.place o.probe bar)) (λ n. value_of (Bar n)) bar_value
      r.bars.items (bars_in f) (bars_of s f r asked.is)
      ∙ ap (map (λ n. value_of (Bar n))) (sym (filter_later (has_bar f.probe) (λ n. not (is_left a.request s f (Bar n))) (λ n. same_class o.class (class_in a.request s f (Bar n)) && not (kept_of o.kept (Bar n))) all))
      ∙ sym (map_twice value_of Bar (filter (λ n. is_mine (Bar n)) (filter (λ n. is_part a.request s f (Bar n)) all)))
      ∙ ap (map value_of) (sym (filter-map is_mine Bar (filter (λ n. is_part a.request s f (Bar n)) all)))
      ∙ ap (λ ps. map value_of (filter is_mine ps)) (sym (filter-map (is_part a.request s f) Bar all))

  -- ---- the ROM

  abbrev others : List Part
  others = Window IoWindow ∷ Window MemoryWindow ∷ Window PrefetchWindow ∷ Rom ∷ []

  abbrev value_rom : Bool → List ItemValue
  value_rom b = cond (b && (same_class o.class MemoryWindow && not o.kept.rom)) (value_of Rom ∷ []) []

  others_are : map value_of (filter is_mine (filter (is_part a.request s f) others)) ≡ value_rom (has_rom f.image f.probe && rom_is_on f.image)
  others_are =
      let rom : List Part = cond (is_part a.request s f Rom) (Rom ∷ []) [] in
      let third : List Part = cond (is_open f PrefetchWindow) (Window PrefetchWindow ∷ rom) rom in
      let second : List Part = cond (is_open f MemoryWindow) (Window MemoryWindow ∷ third) third in
      ap (map value_of) (filter_off is_mine (is_open f IoWindow) (Window IoWindow) second refl
      ∙ filter_off is_mine (is_open f MemoryWindow) (Window MemoryWindow) third refl
      ∙ filter_off is_mine (is_open f PrefetchWindow) (Window PrefetchWindow) rom refl)
      ∙ one_kept value_of is_mine (is_part a.request s f Rom) Rom

  rom_value : (rom : CodeRom) → Some (decoded_rom_of rom) ≡ decoded_rom f.image f.probe → asked_item_value s o.class (rom_item o.place rom) ≡ value_of Rom
  rom_value rom e =
      let size = (rom_span f rom e).1 in
      value_same o.class (function_in s o.place) f Rom Rom (span rom.first rom.last) (size_of f Rom) (span rom.first rom.last) (size_of f Rom) 0xffff_ffff 0xffff_ffff asked.here refl size size refl

  roms_are : (rom : Option CodeRom) → option_map decoded_rom_of rom ≡ decoded_rom f.image f.probe
      → map (asked_item_value s o.class) (asked_rom_items o.place o.class o.kept rom) ≡ value_rom (has_rom f.image f.probe && rom_is_on f.image)
  roms_are None e = sym (ap (λ b. value_rom (b && rom_is_on f.image)) (no_rom (has_rom f.image f.probe) _ e))
  roms_are (Some rom) e =
      let there = rom_there (has_rom f.image f.probe) (decoded_rom_of rom) _ e in
      let on : rom.on ≡ rom_is_on f.image = ap (λ (x : DecodedRom). x.on) there.1 in
      one_made (asked_item_value s o.class) (rom.on && same_class o.class MemoryWindow && not o.kept.rom) (rom_item o.place rom)
      ∙ ap (λ i. cond (rom.on && same_class o.class MemoryWindow && not o.kept.rom) (i ∷ []) []) (rom_value rom e)
      ∙ ap (λ b. cond b (value_of Rom ∷ []) []) (and_later rom.on (same_class o.class MemoryWindow) (not o.kept.rom))
      ∙ ap value_rom on
      ∙ sym (ap (λ b. value_rom (b && rom_is_on f.image)) there.0)

  -- ---- the window

  abbrev value_window : Bool → List ItemValue
  value_window b = cond b (record { region = window_part o.class f; class = o.class; extent = a.extent f } ∷ []) []

  window_if : (keep : Bool) (e : Extent) → asked_item_value s o.class record { function = o.place; part = parts.Window; extent = e } ≡ record { region = window_part o.class f; class = o.class; extent = a.extent f }
      → map (asked_item_value s o.class) (cond keep [] (record { function = o.place; part = parts.Window; extent = e } ∷ [])) ≡ value_window (not keep)
  window_if true e same = refl
  window_if false e same = ap (λ i. i ∷ []) same

  windows_are : (w : Option Extent) → IsWindowOf (is_bridge f && has_of a.request s o.class f) (a.extent f) w
      → map (asked_item_value s o.class) (asked_window_items o.place o.class o.kept w) ≡ value_window (is_bridge f && has_of a.request s o.class f && not (kept_of o.kept (Window o.class)))
  windows_are None off = sym (ap (λ b. value_window (b && not (kept_of o.kept (Window o.class)))) off)
  windows_are (Some e) (there, same) =
      let here = asked.here in
      let first : asked_item_value s o.class record { function = o.place; part = parts.Window; extent = e } ≡ record { region = window_part o.class f; class = o.class; extent = a.extent f } = cc in
      window_if (kept_of o.kept (Window o.class)) e first ∙ sym (ap (λ b. value_window (b && not (kept_of o.kept (Window o.class)))) there)

  -- ---- all of them

  abbrev mine : List ItemValue
  mine = map (own_item o.class) (filter (λ i. is_own a.request s o.class i && not (noted i)) (function_parts a.request s f))

  mine_are : map (asked_item_value s o.class) (asked_bar_items o.place o.probe o.class o.over o.terms o.kept r.bars.items) ++ map (asked_item_value s o.class) (asked_rom_items o.place o.class o.kept r.rom) ≡ mine
  mine_are =
      let found : mine ≡ map value_of (filter is_mine (parts_of a.request s f)) =
      ap (map (own_item o.class)) (filter-map (λ i. is_own a.request s o.class i && not (noted i)) region (parts_of a.request s f))
      ∙ map_twice (own_item o.class) region (filter is_mine (parts_of a.request s f)) in
      let split : map value_of (filter is_mine (parts_of a.request s f))
      ≡ map value_of (filter is_mine (filter (is_part a.request s f) (header_bars f))) ++ map value_of (filter is_mine (filter (is_part a.request s f) others)) =
      ap (λ ps. map value_of (filter is_mine ps)) (filter-append (is_part a.request s f) (header_bars f) others)
      ∙ ap (map value_of) (filter-append is_mine (filter (is_part a.request s f) (header_bars f)) (filter (is_part a.request s f) others))
      ∙ map-append value_of (filter is_mine (filter (is_part a.request s f) (header_bars f))) (filter is_mine (filter (is_part a.request s f) others)) in
      ap (λ xs. xs ++ map (asked_item_value s o.class) (asked_rom_items o.place o.class o.kept r.rom)) bars_are
      ∙ ap (λ xs. map value_of (filter is_mine (filter (is_part a.request s f) (header_bars f))) ++ xs) (roms_are r.rom (rom_of s f r asked.is) ∙ sym others_are)
      ∙ sym (found ∙ split)

  pub values_are : map (asked_item_value s o.class) (asked_record_items o r)
      ≡ map (asked_item_value s o.class) (asked_bar_items o.place o.probe o.class o.over o.terms o.kept r.bars.items) ++ (map (asked_item_value s o.class) (asked_window_items o.place o.class o.kept o.window) ++ map (asked_item_value s o.class) (asked_rom_items o.place o.class o.kept r.rom))
  values_are =
      map-append (asked_item_value s o.class) (asked_bar_items o.place o.probe o.class o.over o.terms o.kept r.bars.items) (asked_window_items o.place o.class o.kept o.window ++ asked_rom_items o.place o.class o.kept r.rom)
      ∙ ap (λ xs. map (asked_item_value s o.class) (asked_bar_items o.place o.probe o.class o.over o.terms o.kept r.bars.items) ++ xs) (map-append (asked_item_value s o.class) (asked_window_items o.place o.class o.kept o.window) (asked_rom_items o.place o.class o.kept r.rom))

  -- what the table tells is what is to keep its place
  noted_part : (p : Part) → Contains (parts_of a.request s f) p → (is_own a.request s o.class (region p) && not (noted (region p))) ≡ (is_own a.request s o.class (region p) && not (a.keeps (region p)))
  noted_part p listed = elim (cases_Bool (is_window p)) [
    | inl is ↦
        let no : (b : Bool) → (not (is_window p) && same_class o.class (class_in a.request s f p) && b) ≡ false = λ b. ap (λ w. not w && same_class o.class (class_in a.request s f p) && b) is in
        no (not (noted (region p))) ∙ sym (no (not (a.keeps (region p))))
    | inr plain ↦ ap (λ b. is_own a.request s o.class (region p) && not b) (asked.keeps_is p (header_has f p (in_filter_to (is_part a.request s f) (header_parts f) p listed).0 plain))
  ]

  noted_window : (is_bridge f && has_of a.request s o.class f && not (kept_of o.kept (Window o.class))) ≡ (is_bridge f && has_of a.request s o.class f && not (a.keeps (window_part o.class f)))
  noted_window = elim (cases_Bool (is_bridge f)) [
    | inl bridge ↦ ap (λ b. is_bridge f && has_of a.request s o.class f && not b) (asked.keeps_is (Window o.class) bridge)
    | inr other ↦ ap (λ b. b && has_of a.request s o.class f && not (kept_of o.kept (Window o.class))) other ∙ sym (ap (λ b. b && has_of a.request s o.class f && not (a.keeps (window_part o.class f))) other)
  ]

  kept_are : mine ++ value_window (is_bridge f && has_of a.request s o.class f && not (kept_of o.kept (Window o.class))) ≡ items_of a.request s o.class a.keeps a.extent f
  kept_are =
      ap (λ b. mine ++ value_window b) noted_window
      ∙ ap (λ rs. map (own_item o.class) rs ++ value_window (is_bridge f && has_of a.request s o.class f && not (a.keeps (window_part o.class f))))
      (filter-map (λ i. is_own a.request s o.class i && not (noted i)) region (parts_of a.request s f)
      ∙ ap (map region) (filter_same (λ p. is_own a.request s o.class (region p) && not (noted (region p))) (λ p. is_own a.request s o.class (region p) && not (a.keeps (region p))) (parts_of a.request s f) noted_part)
      ∙ sym (filter-map (λ i. is_own a.request s o.class i && not (a.keeps i)) region (parts_of a.request s f)))

  pub items_are : IsPermutation (map (asked_item_value s o.class) (asked_record_items o r)) (items_of a.request s o.class a.keeps a.extent f)
  items_are =
      let bars = map (asked_item_value s o.class) (asked_bar_items o.place o.probe o.class o.over o.terms o.kept r.bars.items) in
      let windows = map (asked_item_value s o.class) (asked_window_items o.place o.class o.kept o.window) in
      let roms = map (asked_item_value s o.class) (asked_rom_items o.place o.class o.kept r.rom) in
      let right : bars ++ (roms ++ windows) ≡ items_of a.request s o.class a.keeps a.extent f =
      sym (append_assoc bars roms windows)
      ∙ ap (λ xs. xs ++ windows) mine_are
      ∙ ap (λ xs. mine ++ xs) (windows_are o.window asked.new)
      ∙ kept_are in
      subst (λ xs. IsPermutation xs (items_of a.request s o.class a.keeps a.extent f)) (sym values_are)
      (subst (IsPermutation (bars ++ (windows ++ roms))) right (IsPermutation-append_right bars (windows ++ roms) (roms ++ windows) (IsPermutation-append_comm windows roms)))
