-- A window has room where what is wanted has places off what is taken.
use Rattle.std.proofs.Common.{◌≡◌, ℕ, zero, suc, ◌<◌, inl, inr, List, [], ◌∷◌, ◌++◌, map, length, drop, get_or, Bool, true, false, not, ◌&&◌, ◌||◌, arith, refl, sym, ◌∙◌, ap, subst, Option, Some, None}
use Rattle.std.specs.Bool.{◌==◌}
use Rattle.std.specs.Option.{IfSome, is_some}
use Rattle.std.specs.List.{All, Contains, filter, slice_get}
use Rattle.std.specs.List.Sorted.{IsPermutation}
use Rattle.std.proofs.lemmas.Bool.{cases_Bool, and_parts}
use Rattle.std.proofs.lemmas.List.{length-map, get_or-map, get_or_default}
use Rattle.std.proofs.lemmas.List.Elements.{All-map, Contains-get_or}
use Rattle.std.proofs.lemmas.List.Sorted.{IsPermutation-refl, IsPermutation-sym, IsPermutation-append_left, Contains-permutation}
use Rattle.std.proofs.lemmas.Option.{slice_get-get_or}
use Rattle.pci_spec.specs.Window.{WindowKind}
use Rattle.pci_spec.specs.System.{System, Function, Part, Bar, Rom, Window, is_bridge, is_window, has_part, window_space}
use Rattle.pci_spec.specs.Bus.{is_root, are_siblings}
use Rattle.pci_spec.specs.Decoded.{HasRecords}
use Rattle.pci_spec.specs.Decoded as decoded
use Rattle.pci_spec.proofs.Members.{IsInPiece, in_flat_map_to, in_map_to, in_map_from, IsMade, in_filter_to}
use Rattle.settle_spec.specs.Lists.{Request}
use Rattle.settle_spec.specs.Parts.{FunctionPart, system_parts, function_parts, parts_of, is_part, header_parts, addresses, are_same_space}
use Rattle.settle_spec.specs.Stands.{window_part, part_space}
use Rattle.settle_spec.specs.Lines.{lines_on, lines_behind}
use Rattle.settle_spec.specs.Items.{PlacingItem as ItemValue, bus_items, new_window, taken_on, are_placed, place_each, has_places}
use Rattle.settle_spec.specs.FirstPlace.{Extent as ExtentValue, first_place}
use Rattle.settle_spec.proofs.SameTaken.{HaveSame, same_first_place}
use Rattle.settle_spec.proofs.ItemsOn.{each_on}
use Rattle.pci_base.specs.declared.range.Range.{Range}
use Rattle.pci_base.specs.Ranges.{decoded_range_of}
use Rattle.pci_base.specs.Space.{space_of}
use Rattle.pci_function.specs.declared.record.Record.{Record}
use Rattle.pci_function.specs.Values.{record_value}
use Rattle.pci_place.specs.Items.{no_function}
use Rattle.pci_place.proofs.Mapped.{kept_same}
use Rattle.pci_place.proofs.Owned.{map_twice}
use Rattle.pci_first_fit.specs.declared.item.Item.{Item}
use Rattle.pci_first_fit.specs.declared.kept.Kept.{Kept}
use Rattle.pci_first_fit.specs.declared.lines.Line.{Line}
use Rattle.pci_first_fit.specs.declared.placing.Wanted.{Wanted}
use Rattle.pci_first_fit.specs.Kept.{spec_part, AreKeptParts}
use Rattle.pci_first_fit.specs.Own.{asked_item_value}
use Rattle.pci_first_fit.specs.Buses.{Listing, AreInTurn}
use Rattle.pci_first_fit.specs.Placings.{HasListAt, IsWanted, AreWanted, placing_of, lacks_first}
use Rattle.pci_first_fit.specs.Turns.{HasExtent}
use Rattle.pci_first_fit.proofs.AllPlaced.{each_same_taken, wanted_same}
use Rattle.pci_first_fit.proofs.Headers.{filter_same, header_has}
use Rattle.pci_kept.specs.declared.region.Region.{Region as CodeRegion}
use Rattle.pci_kept.specs.Known.{Known, known, known_of, region_value, AreParts}
use Rattle.pci_kept.proofs.Whole.{known_sorted}
use Rattle.pci_kept.specs.Rooms.{region_range, is_taken_on, AreTakenBehindBridge, wanted_value, place_off, IsRoomOf}
use Rattle.pci_kept.specs.Behind.{IsPartIn, AreBehindTo, AreBehindEach}

-- a part of a system is one that its function has
pub part_there : (q : Request) (s : System) (r : FunctionPart) → Contains (system_parts q s) r → has_part r.function r.part ≡ true
part_there q s r listed = subst (λ (x : FunctionPart). has_part x.function x.part ≡ true) made.is (there made.from (in_filter_to (is_part q s piece.of) (header_parts piece.of) made.from made.has))
  where
    piece : IsInPiece (function_parts q s) s r
    piece = in_flat_map_to (function_parts q s) s r listed

    made : IsMade (λ p. record { function = piece.of; part = p }) (parts_of q s piece.of) r
    made = in_map_to (λ p. record { function = piece.of; part = p }) (parts_of q s piece.of) r piece.piece

    opens : (p : Part) → is_part q s piece.of p ≡ true → is_window p ≡ true → has_part piece.of p ≡ true
    opens (Bar n) is window = cc
    opens Rom is window = cc
    opens (Window kind) is window = (and_parts (is_bridge piece.of) _ (and_parts _ _ is).0).0

    there : (p : Part) → Contains (header_parts piece.of) p × (is_part q s piece.of p ≡ true) → has_part piece.of p ≡ true
    there p (in_header, is) = elim (cases_Bool (is_window p)) [
      | inl window ↦ opens p is window
      | inr plain ↦ header_has piece.of p in_header plain
    ]

or_false : (b : Bool) → (b || false) ≡ b
or_false true = refl
or_false false = refl

and_later : (a b d : Bool) → (a && (b && d)) ≡ (a && b && d)
and_later true b d = refl
and_later false b d = refl

module _ (q : Request) (s : System) (c : WindowKind) (keeps : FunctionPart → Bool) (rs : List CodeRegion) (table : List Kept) (parts : AreParts q s rs) (keeps_is : AreKeptParts s keeps table) (bus : ℕ) (no_root : is_root q.roots bus ≡ false) where
  abbrev by_value : CodeRegion → Bool
  by_value x = bus == x.bus && (are_same_space (window_space c) (space_of x.space) && keeps (region_value s x))

  abbrev by_region : FunctionPart → Bool
  by_region r = are_siblings q.roots bus r.function.slot.bus && are_same_space (window_space c) (part_space r) && keeps r

  told : (x : CodeRegion) → Contains rs x → is_taken_on bus (window_space c) table x ≡ by_value x
  told x listed =
      let is = known_sorted q s rs parts rs (IsPermutation-refl rs) x listed in
      let at : slice_get s x.function ≡ Some (region_value s x).function = slice_get-get_or s x.function no_function is.within in
      ap (λ b. bus == x.bus && (are_same_space (window_space c) (space_of x.space) && b))
      (keeps_is x.function (region_value s x).function (spec_part x.part) at (part_there q s (region_value s x) is.listed))

  same_test : (x : CodeRegion) (r : FunctionPart) → known s x ≡ known_of q s r → by_value x ≡ by_region r
  same_test x r e =
      ap (λ (k : Known). bus == k.bus && (are_same_space (window_space c) k.space && keeps k.region)) e
      ∙ and_later (bus == r.function.slot.bus) (are_same_space (window_space c) (part_space r)) (keeps r)
      ∙ ap (λ b. b && are_same_space (window_space c) (part_space r) && keeps r)
      (sym (ap (λ b. bus == r.function.slot.bus || (b && is_root q.roots r.function.slot.bus)) no_root ∙ or_false (bus == r.function.slot.bus)))

  -- what the table tells to keep its place on a bus is taken there, beside what lines hold
  pub taken_is : lines_on q (window_space c) bus ++ map decoded_range_of (map region_range (filter (is_taken_on bus (window_space c) table) rs)) ≡ taken_on q s c keeps bus
  taken_is =
      ap (λ xs. lines_on q (window_space c) bus ++ xs)
      (map_twice decoded_range_of region_range (filter (is_taken_on bus (window_space c) table) rs)
      ∙ ap (map (λ (x : CodeRegion). decoded_range_of x.range)) (filter_same (is_taken_on bus (window_space c) table) by_value rs told)
      ∙ kept_same (known s) (known_of q s) by_value by_region same_test (λ (x : CodeRegion). decoded_range_of x.range) addresses (λ x r e. ap (λ (k : Known). k.range) e) rs (system_parts q s) parts.same)

-- ---- places

have_same : (xs ys : List decoded.Range) → IsPermutation xs ys → HaveSame xs ys
have_same xs ys moved = record {
  to = λ t listed. Contains-permutation xs ys t moved listed;
  back = λ t listed. Contains-permutation ys xs t (IsPermutation-sym xs ys moved) listed;
}

same_before : (xs ys rest : List decoded.Range) → IsPermutation xs ys → HaveSame (xs ++ rest) (ys ++ rest)
same_before xs ys rest moved = have_same (xs ++ rest) (ys ++ rest) (IsPermutation-append_left rest xs ys moved)

-- an item of a bus is a part that its function has
part_in : (q : Request) (s : System) (c : WindowKind) (keeps : FunctionPart → Bool) (extent : Function → ExtentValue) (bus : ℕ) (i : ItemValue) → Contains (bus_items q s c keeps extent bus) i → has_part i.region.function i.region.part ≡ true
part_in q s c keeps extent bus = each_on q s c keeps extent bus (λ i. has_part i.region.function i.region.part ≡ true)
    (λ f on p is. header_has f p is.there is.plain)
    (λ f on is. is.bridge)

item_at : (items : List Item) (k : ℕ) → k < length items → (i : Item) × (get_or items k i ≡ i)
item_at [] k less = absurd (let no : ⊥ = omega (arith, less) in no)
item_at (i ∷ items) k less = (get_or (i ∷ items) k i, get_or_default (i ∷ items) k (get_or (i ∷ items) k i) i less)

lacking : (items : List ItemValue) (k : ℕ) → k < length items → are_placed (lacks_first (drop k items)) ≡ false
lacking [] k less = absurd (let no : ⊥ = omega (arith, less) in no)
lacking (i ∷ items) zero less = refl
lacking (i ∷ items) (suc k) less = lacking items k (omega (arith, less))

placed_where : (items : List ItemValue) (places : List ℕ) (lack : Option ℕ) (all : Bool) → is_some lack ≡ not all → IfSome lack (λ k. k < length items) → are_placed (placing_of items places lack) ≡ all
placed_where items places None true none within = refl
placed_where items places None false none within = cc
placed_where items places (Some k) true none within = cc
placed_where items places (Some k) false none within = lacking items k within

-- what is wanted past the end
no_wanted : Wanted
no_wanted = record { extent = record { size = 0; alignment = 0; highest = 0 }; list = 0; at = None }

-- each item is wanted in a list
pub wanted_lawful : (items : List Item) → All HasExtent items → (wanted : List Wanted) → wanted ≡ map wanted_value items → (lists : ℕ) → lists ≡ 1 → All (HasListAt lists) wanted
wanted_lawful items lawful wanted is lists one =
    subst (All (HasListAt lists)) (sym is) (All-map (HasListAt lists) wanted_value items (λ n d within. record { extent = lawful n d within; list = omega (arith, one); ends = tt }))

module _ (l : Listing) (rs : List CodeRegion) (lines : List Line) (range : Range)
    (items : List Item) (turn : AreInTurn l items) (lawful : All HasExtent items) (wanted : List Wanted) (wanted_is : wanted ≡ map wanted_value items)
    (taken : List Range) (taken_are : AreTakenBehindBridge rs lines l.bus (window_space l.class) l.kept taken)
    (records : List Record) (has : HasRecords l.classing.system (map record_value records)) (behind : List (List Range)) (behind_are : AreBehindEach records lines l.class items behind)
    (lists : List (List Range)) (lists_are : lists ≡ (range ∷ []) ∷ []) (places : List ℕ) (lack : Option ℕ) (within : IfSome lack (λ k. k < length wanted))
    (placing : (find : ItemValue → List decoded.Range → Option ℕ) (all : List ItemValue) → AreWanted lists behind find all wanted → place_each find (map decoded_range_of taken) all ≡ placing_of all places lack) where
  abbrev values : List ItemValue
  values = map (asked_item_value l.classing.system l.class) items

  long : length wanted ≡ length items
  long = ap length wanted_is ∙ length-map items wanted_value

  module _ (q : Request) (keeps : FunctionPart → Bool) (b : Function) (is : IsRoomOf l rs lines range q keeps b) where
    abbrev window : decoded.Range
    window = addresses (window_part l.class b)

    abbrev find : ItemValue → List decoded.Range → Option ℕ
    find = place_off q window

    values_are : values ≡ bus_items q l.classing.system l.class keeps is.extent l.bus
    values_are = turn record { request = q; keeps = keeps; extent = is.extent } is.listed

    are_parts : All (IsPartIn l.classing.system l.class) items
    are_parts k d less =
        let i = asked_item_value l.classing.system l.class (get_or items k d) in
        part_in q l.classing.system l.class keeps is.extent l.bus i
        (subst (λ xs. Contains xs i) values_are (in_map_from (asked_item_value l.classing.system l.class) items (get_or items k d) (Contains-get_or items k d less)))

    behind_to : AreBehindTo q l.classing.system l.class items (length items) behind
    behind_to = behind_are q l.classing.system has is.told are_parts

    are_wanted : AreWanted lists behind find values wanted
    are_wanted = record {
      count = length-map items (asked_item_value l.classing.system l.class) ∙ sym long;
      each = λ k i w less. each k i w (let size = long in omega (arith, less, size));
    }
      where
        each : (k : ℕ) (i : ItemValue) (w : Wanted) → k < length items → IsWanted lists (get_or behind k []) find (get_or values k i) (get_or wanted k w)
        each k i w less =
            let item = item_at items k less in
            let own = asked_item_value l.classing.system l.class item.0 in
            let held = map decoded_range_of (get_or behind k []) in
            let value : get_or values k i ≡ own = get_or-map (asked_item_value l.classing.system l.class) items k item.0 i less ∙ ap (asked_item_value l.classing.system l.class) item.1 in
            let want : get_or wanted k w ≡ wanted_value item.0 = ap (λ ws. get_or ws k w) wanted_is ∙ get_or-map wanted_value items k item.0 w less ∙ ap wanted_value item.1 in
            let off : IsPermutation (lines_behind q own.region) held = subst (λ x. IsPermutation (lines_behind q (asked_item_value l.classing.system l.class x).region) held) item.1 (behind_to k item.0 less) in
            let pos : 0 < own.extent.alignment = subst (λ (x : Item). 0 < x.extent.alignment) item.1 (lawful k item.0 less).alignment in
            subst (λ x. IsWanted lists (get_or behind k []) find x (get_or wanted k w)) (sym value) (subst (IsWanted lists (get_or behind k []) find own) (sym want) record {
              extent = refl;
              place = λ xs.
                  same_first_place (window ∷ []) (lines_behind q own.region ++ xs) (held ++ xs) own.extent pos (same_before (lines_behind q own.region) held xs off)
                  ∙ ap (λ rs. first_place rs (held ++ xs) own.extent)
                  (ap (λ r. r ∷ []) (sym is.range_is) ∙ sym (ap (λ ls. map decoded_range_of (get_or ls 0 [])) lists_are));
            })

    lawful_wanted : All (HasListAt (length lists)) wanted
    lawful_wanted = wanted_lawful items lawful wanted wanted_is (length lists) (ap length lists_are)

    pub room_is : (all : Bool) → is_some lack ≡ not all → all ≡ has_places q l.classing.system keeps b l.class
    room_is all none =
        let on = lines_on q (window_space l.class) l.bus ++ map decoded_range_of (map region_range (filter (is_taken_on l.bus (window_space l.class) l.kept) rs)) in
        let now = map decoded_range_of taken in
        let moved : IsPermutation on now = taken_are q is.told is.no_root in
        sym (placed_where values places lack all none (within_values lack within))
        ∙ ap are_placed (sym (placing find values are_wanted))
        ∙ ap are_placed (sym (each_same_taken find values on now (wanted_same lists behind find values wanted (length lists) are_wanted lawful_wanted no_wanted) (have_same on now moved)))
        ∙ ap (λ xs. are_placed (place_each find xs values)) (taken_is q l.classing.system l.class keeps rs l.kept is.parts is.listed.keeps_is l.bus is.no_root)
        ∙ ap (λ xs. are_placed (place_each find (taken_on q l.classing.system l.class keeps l.bus) xs)) values_are
        ∙ is.same (taken_on q l.classing.system l.class keeps l.bus)
        ∙ ap (λ n. are_placed (place_each find (taken_on q l.classing.system l.class keeps n) (bus_items q l.classing.system l.class keeps (new_window q l.classing.system l.class) n))) (sym is.bus_is)
      where
        within_values : (o : Option ℕ) → IfSome o (λ k. k < length wanted) → IfSome o (λ k. k < length values)
        within_values None none = tt
        within_values (Some k) less = (let size = long in let m = length-map items (asked_item_value l.classing.system l.class) in omega (arith, less, size, m))
