-- The parts of a system, record by record.
use Rattle.std.proofs.Common.{◌≡◌, ℕ, ◌+◌, ◌<◌, ◌≤◌, inl, inr, List, [], ◌∷◌, ◌++◌, map, length, take, get_or, refl, Bool, true, false, cond, not, arith, sym, ◌∙◌, ap, subst, Option, Some, None}
use Rattle.std.specs.Option.{IfSome}
use Rattle.std.specs.List.{All, Contains, filter, flat_map, list_any, slice_get}
use Rattle.std.proofs.lemmas.List.{map-append, append-nil, take_more, take_all}
use Rattle.std.proofs.lemmas.List.Concat.{flat_map-append}
use Rattle.std.proofs.lemmas.List.Elements.{All-nil, All-append, All-contains, Contains-append_cases, Contains-get_or}
use Rattle.std.proofs.lemmas.Option.{slice_get_within, slice_get-get_or, get_or_from_slice_get}
use Rattle.pci_spec.specs.Slot.{Slot, same_slot}
use Rattle.pci_spec.specs.Window.{WindowKind, IoWindow, MemoryWindow, PrefetchWindow}
use Rattle.pci_spec.specs.System.{System, Function}
use Rattle.pci_spec.specs.Decoded.{HasRecords}
use Rattle.pci_spec.specs.Decoded as decoded
use Rattle.pci_spec.specs.System as system
use Rattle.pci_spec.proofs.Members.{in_nil, in_cons_cases, in_map_to, in_filter_to, IsMade}
use Rattle.settle_spec.specs.Lists.{Request}
use Rattle.settle_spec.specs.Parts.{function_parts}
use Rattle.settle_laws.specs.Order.{level}
use Rattle.pci_base.specs.Ranges.{range_of_decoded}
use Rattle.pci_base.specs.declared.space.Space.{Space as CodeSpace}
use Rattle.pci_base.specs.declared.space.Space.TheVariants as spaces
use Rattle.pci_base.specs.declared.window_kind.WindowKind.{WindowKind as CodeKind}
use Rattle.pci_base.specs.declared.window_kind.WindowKind.TheVariants as kinds
use Rattle.pci_image.specs.declared.bar.Bar.{Bar as CodeBar}
use Rattle.pci_image.specs.declared.rom.Rom.{Rom as CodeRom}
use Rattle.pci_function.specs.declared.record.Bridge.{Bridge}
use Rattle.pci_function.specs.declared.record.Record.{Record}
use Rattle.pci_function.specs.Values.{record_value}
use Rattle.pci_tree.specs.Passes.{range_in}
use Rattle.pci_tree.specs.Regions.{IsLawful, IsSpanIn, space_in, window_in}
use Rattle.pci_tree.proofs.Lifting.{same_slot_of}
use Rattle.pci_place.specs.declared.above.Above.{Above}
use Rattle.pci_place.specs.Above.{IsAbove, AreAboves}
use Rattle.pci_place.specs.Items.{no_function, function_in}
use Rattle.pci_place.specs.Records.{IsRecordInSystem}
use Rattle.pci_place.proofs.Records.{FunctionAt, same_count, function_at}
use Rattle.pci_first_fit.specs.declared.over.OpenWindows.{OpenWindows}
use Rattle.pci_first_fit.specs.declared.over.Over.{Over}
use Rattle.pci_first_fit.specs.declared.own.Terms.{Terms}
use Rattle.pci_first_fit.specs.Slots.{demand_of}
use Rattle.pci_first_fit.specs.Over.{no_windows, AreClassWindows, AreOpenOver, IsOverBus}
use Rattle.pci_first_fit.specs.Own.{AreTerms, is_left_bar}
use Rattle.pci_kept.specs.declared.region.Owner.{Owner}
use Rattle.pci_first_fit.specs.declared.kept.Part.TheVariants as parts
use Rattle.pci_kept.specs.declared.region.Region.{Region as CodeRegion}
use Rattle.pci_kept.specs.Regions.{owned_region, owned_bar_region, owned_bar_regions, owned_window_regions, owned_bridge_regions, owned_rom_region, owned_rom_regions, record_regions}
use Rattle.pci_kept.specs.Known.{known, known_of, HasAddress, AreParts}
use Rattle.pci_kept.proofs.OfRecord.{IsOwner, record_parts}

-- ---- the parts of a record are of its function, and have addresses

pub record IsOf (o : Owner) (x : CodeRegion) : Type 0 where
  pub function : x.function ≡ o.function
  pub forward : HasAddress x

module _ (o : Owner) (over : Over) (t : Terms) (r : Record) (lawful : IsLawful r) where
  in_window : (kind : CodeKind) (space : CodeSpace) (w : Option decoded.Range) (z : system.Space) → IfSome w (λ v. IsSpanIn z v.first v.last) → (x : CodeRegion) → Contains (owned_window_regions o kind space w) x → IsOf o x
  in_window kind space None z span x listed = absurd (in_nil x listed)
  in_window kind space (Some v) z span x listed = elim (in_cons_cases (owned_region o (parts.Window kind) space kind (range_of_decoded v)) [] x listed) [
    | inl same ↦ subst (IsOf o) same record { function = refl; forward = span.0 }
    | inr none ↦ absurd (in_nil x none)
  ]

  in_bridge : (b : Option Bridge) → IfSome b (λ (c : Bridge). (kind : WindowKind) → IfSome (window_in kind c.windows) (λ w. IsSpanIn (system.window_space kind) w.first w.last)) → (x : CodeRegion) → Contains (owned_bridge_regions o b) x → IsOf o x
  in_bridge None spans x listed = absurd (in_nil x listed)
  in_bridge (Some b) spans x listed = elim (Contains-append_cases (owned_window_regions o kinds.Io spaces.Io (range_in b.windows.io)) (owned_window_regions o kinds.Memory spaces.Mem b.windows.mem.range ++ owned_window_regions o kinds.Prefetchable spaces.Mem (range_in b.windows.pref)) x listed) [
    | inl first ↦ in_window kinds.Io spaces.Io (range_in b.windows.io) system.Io (spans IoWindow) x first
    | inr more ↦ elim (Contains-append_cases (owned_window_regions o kinds.Memory spaces.Mem b.windows.mem.range) (owned_window_regions o kinds.Prefetchable spaces.Mem (range_in b.windows.pref)) x more) [
      | inl second ↦ in_window kinds.Memory spaces.Mem b.windows.mem.range system.Memory (spans MemoryWindow) x second
      | inr third ↦ in_window kinds.Prefetchable spaces.Mem (range_in b.windows.pref) system.Memory (spans PrefetchWindow) x third
    ]
  ]

  in_rom_if : (on : Bool) (rom : CodeRom) → rom.first ≤ rom.last → (x : CodeRegion) → Contains (cond on (owned_rom_region o rom ∷ []) []) x → IsOf o x
  in_rom_if false rom span x listed = absurd (in_nil x listed)
  in_rom_if true rom span x listed = elim (in_cons_cases (owned_rom_region o rom) [] x listed) [
    | inl same ↦ subst (IsOf o) same record { function = refl; forward = span }
    | inr none ↦ absurd (in_nil x none)
  ]

  in_rom : (rom : Option CodeRom) → IfSome rom (λ x. IsSpanIn system.Memory x.first x.last) → (x : CodeRegion) → Contains (owned_rom_regions o rom) x → IsOf o x
  in_rom None span x listed = absurd (in_nil x listed)
  in_rom (Some rom) span x listed = in_rom_if rom.on rom span.0 x listed

  in_bars : (x : CodeRegion) → Contains (owned_bar_regions o over t r.bars.items) x → IsOf o x
  in_bars x listed =
      let kept = filter (λ bar. not (is_left_bar bar over.above t.has_io)) r.bars.items in
      let made : IsMade (owned_bar_region o over t) kept x = in_map_to (owned_bar_region o over t) kept x listed in
      let has = (in_filter_to (λ bar. not (is_left_bar bar over.above t.has_io)) r.bars.items made.from made.has).0 in
      let span = All-contains (λ (b : CodeBar). IsSpanIn (space_in b.kind) b.first b.last) r.bars.items made.from lawful.bars has in
      subst (IsOf o) made.is record { function = refl; forward = span.0 }

  pub in_record : (x : CodeRegion) → Contains (record_regions o over t r) x → IsOf o x
  in_record x listed = elim (Contains-append_cases (owned_bar_regions o over t r.bars.items) (owned_bridge_regions o r.bridge ++ owned_rom_regions o r.rom) x listed) [
    | inl bar ↦ in_bars x bar
    | inr more ↦ elim (Contains-append_cases (owned_bridge_regions o r.bridge) (owned_rom_regions o r.rom) x more) [
      | inl window ↦ in_bridge r.bridge lawful.windows x window
      | inr rom ↦ in_rom r.rom lawful.rom x rom
    ]
  ]

-- ---- one record after another

one_more : {X : Type 0} (make : Function → List X) (s : System) (k : ℕ) (f : Function) → slice_get s k ≡ Some f → flat_map make (take (k + 1) s) ≡ flat_map make (take k s) ++ make f
one_more make s k f at =
    ap (flat_map make) (take_more s k f (slice_get_within s k f at) ∙ ap (λ g. take k s ++ g ∷ []) (get_or_from_slice_get s k f f at))
    ∙ flat_map-append make (take k s) (f ∷ [])
    ∙ ap (λ xs. flat_map make (take k s) ++ xs) (append-nil (make f))

-- the parts of the first functions
pub record ArePartsTo (q : Request) (s : System) (k : ℕ) (rs : List CodeRegion) : Type 0 where
  pub same : map (known s) rs ≡ map (known_of q s) (flat_map (function_parts q s) (take k s))
  pub within : All (λ (r : CodeRegion). r.function < length s) rs
  pub forward : All HasAddress rs

pub parts_none : (q : Request) (s : System) (rs : List CodeRegion) → rs ≡ [] → ArePartsTo q s 0 rs
parts_none q s rs none = subst (ArePartsTo q s 0) (sym none) record { same = refl; within = All-nil (λ (r : CodeRegion). r.function < length s); forward = All-nil HasAddress }

module _ (q : Request) (s : System) (records : List Record) (has : HasRecords s (map record_value records)) where
  pub parts_all : (k : ℕ) (rs : List CodeRegion) → length records ≤ k → ArePartsTo q s k rs → AreParts q s rs
  parts_all k rs end are = record {
    same = are.same ∙ ap (λ fs. map (known_of q s) (flat_map (function_parts q s) fs)) (take_all k s (let e = same_count s records has in omega (arith, e, end)));
    within = are.within;
    forward = are.forward;
  }

  module _ (k : ℕ) (r : Record) (inside : k < length records) (is_at : r ≡ get_or records k r) where
    pub found : FunctionAt s r k
    found = function_at s records has k r (slice_get-get_or records k r inside ∙ ap Some (sym is_at))

    pub record_is : IsRecordInSystem s found.f r
    record_is = found.is

    pub parts_more : (o : Owner) (aboves : List Above) (d : Above) (overs : List OpenWindows) (windows : OpenWindows) (t : Terms) (lawful : All IsLawful records) → AreAboves s aboves → AreOpenOver q s overs → windows ≡ get_or overs o.bus no_windows → AreTerms (demand_of q) t → o.function ≡ k → o.bus ≡ r.slot.bus
        → o.level ≡ level q o.bus → o.fixed ≡ list_any (same_slot r.slot) q.fixed → o.command ≡ r.command
        → (old new : List CodeRegion) → new ≡ old ++ record_regions o (record { above = get_or aboves o.bus d; windows = windows }) t r → ArePartsTo q s k old → ArePartsTo q s (k + 1) new
    parts_more o aboves d overs windows t lawful are_above are_open windows_is terms at bus high fixed on old new put before =
        let f = found.f in
        let slot : r.slot ≡ f.slot = same_slot_of r f found.is.value in
        let on_bus : o.bus ≡ f.slot.bus = bus ∙ ap (λ (x : Slot). x.bus) slot in
        let over : Over = record { above = get_or aboves o.bus d; windows = windows } in
        let owner : IsOwner q s f o r = record {
          is = found.is;
          here = ap (function_in s) at ∙ get_or_from_slice_get s k f no_function found.at;
          bus = on_bus;
          level = high ∙ ap (level q) on_bus;
          fixed = fixed ∙ ap (λ x. list_any (same_slot x) q.fixed) slot;
          command = on ∙ ap (λ (x : decoded.Record). x.command) found.is.value;
        } in
        let over_is : IsOverBus q s f.slot.bus over = record {
          above = subst (λ n. IsAbove s f.slot.bus (get_or aboves n d)) (sym on_bus) (are_above f d found.is.listed);
          windows_are = subst (AreClassWindows q s f.slot.bus) (sym windows_is) (subst (λ n. AreClassWindows q s f.slot.bus (get_or overs n no_windows)) (sym on_bus) (are_open f found.is.listed));
        } in
        let new_ones = record_regions o over t r in
        let of = in_record o over t r (subst IsLawful (sym is_at) (lawful k r inside)) in
        record {
          same = ap (map (known s)) put
              ∙ map-append (known s) old new_ones
              ∙ ap (λ xs. xs ++ map (known s) new_ones) before.same
              ∙ ap (λ xs. map (known_of q s) (flat_map (function_parts q s) (take k s)) ++ xs) (record_parts q s f o over t r owner over_is terms)
              ∙ sym (map-append (known_of q s) (flat_map (function_parts q s) (take k s)) (function_parts q s f))
              ∙ ap (map (known_of q s)) (sym (one_more (function_parts q s) s k f found.at));
          within = subst (All (λ (x : CodeRegion). x.function < length s)) (sym put) (All-append (λ (x : CodeRegion). x.function < length s) old new_ones before.within
              (λ n e low. let here = (of (get_or new_ones n e) (Contains-get_or new_ones n e low)).function in let in_s = slice_get_within s k f found.at in omega (arith, here, at, in_s)));
          forward = subst (All HasAddress) (sym put) (All-append HasAddress old new_ones before.forward
              (λ n e low. (of (get_or new_ones n e) (Contains-get_or new_ones n e low)).forward));
        }
