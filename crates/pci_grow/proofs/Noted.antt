-- Once a window is noted with what it comes to, one part more is told.
use Rattle.std.proofs.Common.{◌≡◌, ◌≢◌, ℕ, ◌+◌, ◌<◌, ◌⊎◌, inl, inr, List, [], ◌∷◌, ◌++◌, length, get_or, true, cond, refl, ap, sym, subst, ◌∙◌, Option, None, Some}
use Rattle.std.specs.Bool.{if◌then◌else◌}
use Rattle.std.specs.List.{Contains, slice_get}
use Rattle.std.specs.Option.{option_map, is_some}
use Rattle.std.proofs.lemmas.Bool.{and_parts, cases_eq, both_ways, ne_eqb}
use Rattle.std.proofs.lemmas.Option.{slice_get-get_or, same_Some}
use Rattle.pci_spec.specs.Window.{WindowKind, IoWindow, MemoryWindow, PrefetchWindow}
use Rattle.pci_spec.specs.Decoded.{Range as DecodedRange}
use Rattle.pci_spec.specs.System.{System, Function, Part, Bar, Rom, Window, IsSystem, is_bridge, has_part, window_space}
use Rattle.pci_spec.specs.Bus.{secondary, IsNested}
use Rattle.pci_spec.proofs.Members.{in_head, in_tail}
use Rattle.settle_spec.specs.FirstPlace.{else_at}
use Rattle.settle_spec.specs.Lines.{lines_on, taken_for}
use Rattle.settle_spec.specs.Lists.{Request}
use Rattle.settle_spec.specs.Parts.{FunctionPart, system_parts, addresses, class_in, are_same_space}
use Rattle.settle_spec.specs.Stands.{rank, part_space, window_part, stands}
use Rattle.settle_spec.specs.Items.{PlacingItem, Placed, AllPlaced, bus_items, new_window}
use Rattle.settle_spec.specs.Places.{placed_of, place_among}
use Rattle.settle_spec.specs.Reach.{reach}
use Rattle.settle_spec.specs.Growth.{place_around, there_on, taken_around, there, comes_to, takes_growth}
use Rattle.settle_spec.specs.Kept.{address_of_placed}
use Rattle.settle_spec.proofs.Nested.{on_it, one_bridge}
use Rattle.settle_laws.proofs.ItemForms.{IsItemOf, items_are}
use Rattle.settle_laws.proofs.Standing.{part_of, stands_by_itself}
use Rattle.settle_laws.proofs.There.{IsFoundPlace, each_found}
use Rattle.pci_base.specs.declared.range.Range.{Range}
use Rattle.pci_base.specs.declared.window_kind.WindowKind.{WindowKind as CodeKind}
use Rattle.pci_base.specs.declared.window_kind.WindowKind.TheVariants as kinds
use Rattle.pci_base.specs.declared.window_kind.ByKind.{ByKind}
use Rattle.pci_base.specs.Ranges.{decoded_range_of}
use Rattle.pci_base.specs.WindowKinds.{kind_value, by_kind}
use Rattle.pci_place.specs.Items.{no_function, function_in}
use Rattle.pci_first_fit.specs.declared.kept.Part.TheVariants as parts
use Rattle.pci_first_fit.specs.Kept.{kept_of, nothing_kept, spec_part}
use Rattle.pci_kept.specs.declared.region.Region.{Region}
use Rattle.pci_kept.specs.Known.{region_value}
use Rattle.pci_kept.specs.Tables.{stands_in}
use Rattle.pci_kept.proofs.Indexes.{part_cases, index_at, table_at}
use Rattle.pci_first_fit.specs.PlaceTables.{placed}
use Rattle.pci_grow.specs.Putting.{ArePutOver}
use Rattle.pci_first_fit.specs.Tables.{untold, told}
use Rattle.pci_grow.specs.There.{Tables, in_row, by_class, grown_in, with_own, grown_told, there_told, place_told}
use Rattle.pci_grow.specs.Telling.{AreStandingRows, IsDone, grown_there, range_as_it_stands, place_there, IsUnder, IsToldAs, AreToldTo, IsWindowNoted}
use Rattle.pci_grow.proofs.Clearing.{step}
use Rattle.pci_grow.proofs.InRows.{v_listed, v_stands, not_done, done_cases, done_keeps, done_here}
use Rattle.pci_grow.proofs.Ranked.{rank_parts, at_index}

-- ---- the code's kind of a window

code_of : WindowKind → CodeKind
code_of IoWindow = kinds.Io
code_of MemoryWindow = kinds.Memory
code_of PrefetchWindow = kinds.Prefetchable

code_is : (c : WindowKind) → kind_value (code_of c) ≡ c
unfolding code_of
code_is IoWindow = refl
code_is MemoryWindow = refl
code_is PrefetchWindow = refl

by_code : (b : ByKind (Option Range)) (c : WindowKind) → by_class b c ≡ by_kind b (code_of c)
unfolding code_of
by_code b IoWindow = refl
by_code b MemoryWindow = refl
by_code b PrefetchWindow = refl

one_code : (c : WindowKind) (class : CodeKind) → code_of c ≡ class → c ≡ kind_value class
one_code c class same = sym (code_is c) ∙ ap kind_value same

window_same : (c d : WindowKind) → Window c ≡ Window d → c ≡ d
window_same c d same = ap kind_in same
  where
    kind_in : Part → WindowKind
    kind_in (Bar n) = c
    kind_in Rom = c
    kind_in (Window e) = e

-- ---- places among others

none_among : (u : FunctionPart) (placed : List Placed) → ((p : Placed) → Contains placed p → rank p.item.region ≢ rank u) → place_among u placed ≡ None
none_among u [] never = refl
none_among u (p ∷ placed) never =
    ap (λ b. cond b (Some p) (place_among u placed)) (ne_eqb (rank p.item.region) (rank u) (never p (in_head p placed)))
    ∙ none_among u placed (λ o has. never o (in_tail p placed o has))

else_none : (o : Option ℕ) → else_at o None ≡ o
else_none None = refl
else_none (Some a) = refl

module _ (q : Request) (s : System) (system : IsSystem s) (nested : IsNested q.roots s) (rows : List Region) (are : AreStandingRows q s rows)
    (number i : ℕ) (r : Region) (within : i < length (in_row number rows)) (at : get_or (in_row number rows) i r ≡ r)
    (old : Tables) (was : AreToldTo q s rows number i old) (class : CodeKind) (window : r.part ≡ parts.Window class) (inside : r.function < length s) where
  abbrev c : WindowKind
  c = kind_value class

  abbrev k : ℕ
  k = r.function

  abbrev f : Function
  f = function_in s k

  abbrev w : FunctionPart
  w = window_part c f

  w_is : region_value s r ≡ w
  w_is = ap (λ p. record { function = f; part = spec_part p }) window

  listed_w : Contains (system_parts q s) w
  listed_w = subst (Contains (system_parts q s)) w_is (v_listed q s system nested rows are number i r within at)

  stand_w : stands q s w ≡ true
  stand_w = subst (λ u. stands q s u ≡ true) w_is (v_stands q s system nested rows are number i r within at)

  at_k : slice_get s k ≡ Some f
  at_k = slice_get-get_or s k no_function inside

  in_f : Contains s f
  in_f = (part_of q s w listed_w).listed

  bridge_f : is_bridge f ≡ true
  bridge_f = (and_parts (is_bridge f) _ (and_parts _ _ ((stands_by_itself q s nested).only w in_f stand_w)).0).0

  never_done : IsDone q s rows number i w → ⊥
  never_done is = not_done q s system nested rows are number i r within at (subst (IsDone q s rows number i) (sym w_is) is)

  -- another part is no such window of this function
  w_cases : (u : FunctionPart) → (m : ℕ) → slice_get s m ≡ Some u.function → (w ≡ u) ⊎ ((m ≡ k) → (u.part ≡ Window c) → ⊥)
  w_cases u m at_m = elim (cases_eq m k) [
    | inr differ ↦ inr (λ same part. differ same)
    | inl same ↦ elim (part_cases u.part (Window c)) [
      | inr other ↦ inr (λ one part. other part)
      | inl part ↦
          let both : Some f ≡ Some u.function = sym at_k ∙ ap (slice_get s) (sym same) ∙ at_m in
          inl (ap (λ g. record { function = g; part = Window c }) (same_Some f u.function both) ∙ ap (λ p. record { function = u.function; part = p }) (sym part))
    ]
  ]

  module _ (new : Tables) (range : Range) (noted : IsWindowNoted old new k class range) (takes_w : takes_growth q s w ≡ true) (comes_w : comes_to q s w ≡ Some (decoded_range_of range))
      (placed_list : List Placed) (taken_is : taken_around q s (there q s) c f ≡ AllPlaced placed_list) (put : ArePutOver s placed_list old.places new.places) where
    -- ---- what is told of the window

    grown_w : grown_told s new w ≡ Some (decoded_range_of range)
    grown_w =
        ap (λ n. grown_in new.grown n (Window c)) (index_at s system k f at_k)
        ∙ ap (option_map decoded_range_of) (kind_is class)
        ∙ ap (option_map decoded_range_of) noted.grown
      where
        kind_is : (x : CodeKind) → by_class (get_or new.grown k untold) (kind_value x) ≡ told new.grown k x
        kind_is kinds.Io = refl
        kind_is kinds.Memory = refl
        kind_is kinds.Prefetchable = refl

    kept_w : stands_in s new.kept w ≡ true
    kept_w = table_at s system new.kept k f (Window c) at_k ∙ noted.kept

    there_w : there_told s new w ≡ Some (decoded_range_of range)
    there_w = ap (λ o. with_own o (stands_in s new.kept w) (addresses w)) grown_w

    -- ---- and of others

    grown_same : (u : FunctionPart) (m : ℕ) → slice_get s m ≡ Some u.function → ((m ≡ k) → (u.part ≡ Window c) → ⊥) → grown_told s new u ≡ grown_told s old u
    grown_same u m at_m other =
        ap (λ n. grown_in new.grown n u.part) (index_at s system m u.function at_m)
        ∙ by u.part other
        ∙ sym (ap (λ n. grown_in old.grown n u.part) (index_at s system m u.function at_m))
      where
        by : (p : Part) → ((m ≡ k) → (p ≡ Window c) → ⊥) → grown_in new.grown m p ≡ grown_in old.grown m p
        by (Bar n) never = refl
        by Rom never = refl
        by (Window d) never =
            ap (option_map decoded_range_of)
            (by_code (get_or new.grown m untold) d
            ∙ noted.other_grown m (code_of d) (λ same code. never same (ap Window (one_code d class code)))
            ∙ sym (by_code (get_or old.grown m untold) d))

    kept_same : (u : FunctionPart) (m : ℕ) → slice_get s m ≡ Some u.function → ((m ≡ k) → (u.part ≡ Window c) → ⊥) → stands_in s new.kept u ≡ stands_in s old.kept u
    kept_same u m at_m other =
        table_at s system new.kept m u.function u.part at_m ∙ noted.other_kept m u.part other ∙ sym (table_at s system old.kept m u.function u.part at_m)

    there_same : (u : FunctionPart) (m : ℕ) → slice_get s m ≡ Some u.function → ((m ≡ k) → (u.part ≡ Window c) → ⊥) → there_told s new u ≡ there_told s old u
    there_same u m at_m other =
        ap (λ o. with_own o (stands_in s new.kept u) (addresses u)) (grown_same u m at_m other)
        ∙ ap (λ b. with_own (grown_told s old u) b (addresses u)) (kept_same u m at_m other)

    told_others : (u : FunctionPart) (g x : Option DecodedRange) → Contains s u.function → (w ≡ u → ⊥) → IsToldAs s old u g x → IsToldAs s new u g x
    told_others u g x listed differ is =
        let m = listed.0 in
        let at_m = at_index s u.function listed in
        elim (w_cases u m at_m) [
          | inl same ↦ absurd (differ same)
          | inr other ↦ record { grown_is = grown_same u m at_m other ∙ is.grown_is; there_is = there_same u m at_m other ∙ is.there_is }
        ]

    -- ---- places

    found_item : (p : Placed) → Contains placed_list p → IsItemOf q s (new_window q s) c (secondary f) p.item
    found_item p has =
        let found : IsFoundPlace (λ i taken. place_around (addresses w) (reach q s c f) (taken_for q i.region taken) i.extent) (bus_items q s c (λ r. is_some (there q s r)) (new_window q s c) (secondary f)) p =
        each_found (λ i taken. place_around (addresses w) (reach q s c f) (taken_for q i.region taken) i.extent) (lines_on q (window_space c) (secondary f) ++ there_on q s (there q s) (λ r. are_same_space (window_space c) (part_space r)) (secondary f))
        (bus_items q s c (λ r. is_some (there q s r)) (new_window q s c) (secondary f)) placed_list taken_is p has in
        items_are q s (new_window q s) c (λ r. is_some (there q s r)) (secondary f) p.item found.listed

    -- what is under another window is none of its items
    other_window : (d : WindowKind) (b : Function) (u : FunctionPart) → Contains s b → IsUnder q s d b u → (p : Placed) → Contains placed_list p → rank p.item.region ≡ rank u → w ≡ window_part d b
    other_window d b u in_b under p has same =
        let item = found_item p has in
        let g = item.f in
        let region_is : record { function = g; part = item.p } ≡ p.item.region = ap (λ (i : PlacingItem). i.region) item.is in
        let one : record { function = g; part = item.p } ≡ u =
        rank_parts s system (record { function = g; part = item.p }) u item.listed under.listed item.there under.part (ap rank region_is ∙ same) in
        let class_is : c ≡ d = sym item.class ∙ ap (λ (x : FunctionPart). class_in q s x.function x.part) one ∙ under.class in
        let bus_f = on_it q.roots s system nested f g.slot.bus in_f bridge_f item.beside in
        let bus_b = on_it q.roots s system nested b u.function.slot.bus in_b under.bridge under.beside in
        let buses : secondary f ≡ secondary b = bus_f ∙ ap (λ (x : FunctionPart). x.function.slot.bus) one ∙ sym bus_b in
        let bridges = one_bridge q.roots s system nested f b in_f in_b bridge_f under.bridge buses in
        ap (λ (x : WindowKind). window_part x f) class_is ∙ ap (window_part d) bridges

    put_at : (u : FunctionPart) → Contains s u.function → has_part u.function u.part ≡ true → place_told s new u ≡ else_at (address_of_placed (place_among u placed_list)) (place_told s old u)
    put_at u listed there_u =
        let m = listed.0 in
        let at_m = at_index s u.function listed in
        ap (λ n. placed new.places n u.part) (index_at s system m u.function at_m)
        ∙ put m u.function u.part at_m there_u
        ∙ sym (ap (λ n. else_at (address_of_placed (place_among u placed_list)) (placed old.places n u.part)) (index_at s system m u.function at_m))

    place_same : (d : WindowKind) (b : Function) (u : FunctionPart) → Contains s b → IsUnder q s d b u → (w ≡ window_part d b → ⊥) → place_told s new u ≡ place_told s old u
    place_same d b u in_b under differ =
        put_at u under.listed under.part
        ∙ ap (λ o. else_at (address_of_placed o) (place_told s old u)) (none_among u placed_list (λ p has same. differ (other_window d b u in_b under p has same)))

    -- ---- one part more

    pub noted_told : AreToldTo q s rows number (i + 1) new
    noted_told = record {
      kept = noted.kept_size ∙ was.kept;
      grown = noted.grown_size ∙ was.grown;
      places = noted.places_size ∙ was.places;
      off = λ u listed header off. told_others u None None listed (λ same. both_ways (stands q s u) off (subst (λ x. stands q s x ≡ true) same stand_w)) (was.off u listed header off);
      each = λ u listed stand is. elim (done_cases q s system nested rows are number i r within at u is) [
        | inl same ↦ subst (λ x. IsToldAs s new x (grown_there q s x) (there q s x)) (sym w_is ∙ same) own
        | inr earlier ↦
            told_others u (grown_there q s u) (there q s u) (part_of q s u listed).listed (λ same. never_done (subst (IsDone q s rows number i) (sym same) earlier)) (was.each u listed stand earlier)
      ];
      rest = λ u listed stand never.
          told_others u None (range_as_it_stands q s u) (part_of q s u listed).listed (λ same. never (subst (IsDone q s rows number (i + 1)) (w_is ∙ same) here))
          (was.rest u listed stand (λ earlier. never (done_keeps q s system nested rows are number i r within at u earlier)));
      keeps = λ m g p at_m there_p. keeps_by m g p at_m there_p (w_cases (record { function = g; part = p }) m at_m);
      around = λ d b u listed stand under is. elim (done_cases q s system nested rows are number i r within at (window_part d b) is) [
        | inl same ↦ around_own d b u listed under (sym w_is ∙ same)
        | inr earlier ↦
            place_same d b u listed under (λ same. never_done (subst (IsDone q s rows number i) (sym same) earlier)) ∙ was.around d b u listed stand under earlier
      ];
      unplaced = λ d b u listed under never.
          place_same d b u listed under (λ same. never (subst (λ x. stands q s x ≡ true) same stand_w) (subst (IsDone q s rows number (i + 1)) (w_is ∙ same) here))
          ∙ was.unplaced d b u listed under (λ stand earlier. never stand (done_keeps q s system nested rows are number i r within at (window_part d b) earlier));
    }
      where
        here : IsDone q s rows number (i + 1) (region_value s r)
        here = done_here q s system nested rows are number i r within at

        own : IsToldAs s new w (grown_there q s w) (there q s w)
        own = record {
          grown_is = grown_w ∙ sym (ap (λ b. if b then comes_to q s w else None) takes_w ∙ comes_w);
          there_is = there_w ∙ sym (step q s system nested w listed_w ∙ ap (λ b. if b then comes_to q s w else range_as_it_stands q s w) takes_w ∙ comes_w);
        }

        keeps_by : (m : ℕ) (g : Function) (p : Part) → slice_get s m ≡ Some g → has_part g p ≡ true → (w ≡ record { function = g; part = p }) ⊎ ((m ≡ k) → (p ≡ Window c) → ⊥)
            → kept_of (get_or new.kept m nothing_kept) p ≡ is_some (there_told s new (record { function = g; part = p }))
        keeps_by m g p at_m there_p (inl same) =
            sym (table_at s system new.kept m g p at_m) ∙ ap (stands_in s new.kept) (sym same) ∙ kept_w
            ∙ sym (ap (λ x. is_some (there_told s new x)) (sym same) ∙ ap is_some there_w)
        keeps_by m g p at_m there_p (inr other) =
            noted.other_kept m p other ∙ was.keeps m g p at_m there_p
            ∙ ap is_some (sym (there_same (record { function = g; part = p }) m at_m other))

        around_own : (d : WindowKind) (b : Function) (u : FunctionPart) → Contains s b → IsUnder q s d b u → w ≡ window_part d b → place_told s new u ≡ place_there q s d b u
        around_own d b u listed under same =
            let none = was.unplaced d b u listed under (λ stand earlier. never_done (subst (IsDone q s rows number i) (sym same) earlier)) in
            let class_is : c ≡ d = window_same c d (ap (λ (x : FunctionPart). x.part) same) in
            let function_is : f ≡ b = ap (λ (x : FunctionPart). x.function) same in
            put_at u under.listed under.part
            ∙ ap (else_at (address_of_placed (place_among u placed_list))) none
            ∙ else_none (address_of_placed (place_among u placed_list))
            ∙ sym (ap (λ t. if t then address_of_placed (place_among u (placed_of (taken_around q s (there q s) d b))) else None) (ap (takes_growth q s) (sym same) ∙ takes_w)
            ∙ ap (λ x. address_of_placed (place_among u (placed_of (taken_around q s (there q s) x b)))) (sym class_is)
            ∙ ap (λ x. address_of_placed (place_among u (placed_of (taken_around q s (there q s) c x)))) (sym function_is)
            ∙ ap (λ p. address_of_placed (place_among u (placed_of p))) taken_is)
