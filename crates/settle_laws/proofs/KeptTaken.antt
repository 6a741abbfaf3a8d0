-- What is taken on a bus by what stays there, and places in a window that stays with just the addresses that it had.
use Rattle.std.proofs.Common.{◌≡◌, ◌⊎◌, ℕ, ◌<◌, inl, inr, List, [], ◌∷◌, map, Bool, true, false, ◌&&◌, sym, ◌∙◌, ap, subst, refl, Option}
use Rattle.std.specs.Bool.{◌==◌}
use Rattle.std.specs.List.{Contains, filter}
use Rattle.std.proofs.lemmas.Bool.{and_parts, and_from, both_ways, cases_Bool, eq-eqb, or_left}
use Rattle.pci_spec.specs.Window.{WindowKind}
use Rattle.pci_spec.specs.Decoded.{Range}
use Rattle.pci_spec.specs.System.{System, Function, IsSystem, Space, is_bridge, window_space}
use Rattle.pci_spec.specs.Bus.{is_root, secondary, are_siblings, IsNested, LeadsTo}
use Rattle.pci_spec.proofs.Members.{in_map_to, in_map_from, in_filter_to, in_filter_from, in_flat_map_to, IsMade, IsInPiece}
use Rattle.plan_spec.specs.Plan.{same_class}
use Rattle.plan_spec.proofs.Planning.Placement.{power_pos}
use Rattle.plan_spec.proofs.Planning.PlacedItems.{same_class_is}
use Rattle.plan_spec.proofs.Planning.Tables.{class_itself}
use Rattle.settle_spec.specs.Lines.{lines_on, lines_behind, taken_for}
use Rattle.settle_spec.specs.Lists.{Request}
use Rattle.settle_spec.specs.Parts.{FunctionPart, system_parts, function_parts, parts_of, header_parts, is_part, addresses, class_in, are_same_space}
use Rattle.settle_spec.specs.Stands.{are_beside, part_space, window_part}
use Rattle.settle_spec.specs.Items.{PlacingItem, are_placed, place_each, has_room_behind, bus_items, new_window, taken_on, place_in}
use Rattle.settle_spec.specs.PlacingLaws.{ArePlaced}
use Rattle.settle_spec.specs.Kept.{Kept}
use Rattle.settle_spec.specs.Keeping.Places.{taken_at}
use Rattle.settle_spec.proofs.Nested.{on_it}
use Rattle.settle_laws.specs.KeptApart.{IsKeptApart}
use Rattle.settle_laws.proofs.Holding.{items_same_on}
use Rattle.settle_laws.proofs.Standing.{part_of}
use Rattle.settle_laws.specs.KeptLaws.{IsRangeApart, IsAlikeIn, HavePlaces}
use Rattle.settle_spec.proofs.Buses.{each_same}
use Rattle.settle_laws.proofs.Held.{same_itself}
use Rattle.settle_laws.proofs.ItemForms.{items_are, item_power, new_window_power}
use Rattle.settle_laws.proofs.Kept.{IsTaken, taken_is, line_is_taken, is_taken, one_space, lie_apart, outside_within, holding, stand_apart, off_roots, window_ranks, window_listed, within_over}
use Rattle.settle_laws.proofs.PartClasses.{space_of_class}
use Rattle.settle_laws.proofs.PlacedBus.{placed_list}
use Rattle.settle_laws.proofs.Told.Places.{same_with, placed_off}
use Rattle.std.proofs.lemmas.List.Elements.{Contains-append_cases, Contains-append_left, Contains-append_right}

module _ (q : Request) (s : System) (k : Kept) where
  -- the addresses of what stays on a bus, in a space
  pub record IsKeptThere (space : Space) (bus : ℕ) (t : Range) : Type 0 where
    pub of : FunctionPart
    pub listed : Contains (system_parts q s) of
    pub beside : are_siblings q.roots bus of.function.slot.bus ≡ true
    pub at : part_space of ≡ space
    pub kept : k.stays of ≡ true
    pub is : k.range of ≡ t

  module _ (space : Space) (bus : ℕ) where
    abbrev counts : FunctionPart → Bool
    counts r = are_siblings q.roots bus r.function.slot.bus && are_same_space space (part_space r) && k.stays r

    -- what is taken is held by a line, or stays there
    pub kept_there : (t : Range) → Contains (taken_at q s k space bus) t → Contains (lines_on q space bus) t ⊎ IsKeptThere space bus t
    kept_there t has = elim (Contains-append_cases (lines_on q space bus) (map k.range (filter counts (system_parts q s))) t has) [
      | inl line ↦ inl line
      | inr own ↦
          let made : IsMade k.range (filter counts (system_parts q s)) t = in_map_to k.range (filter counts (system_parts q s)) t own in
          let r = made.from in
          let chosen = in_filter_to counts (system_parts q s) r made.has in
          let two = and_parts (are_siblings q.roots bus r.function.slot.bus && are_same_space space (part_space r)) (k.stays r) chosen.1 in
          let one = and_parts (are_siblings q.roots bus r.function.slot.bus) (are_same_space space (part_space r)) two.0 in
          inr record {
            of = r;
            listed = chosen.0;
            beside = one.0;
            at = sym (one_space space (part_space r) one.1);
            kept = two.1;
            is = made.is;
          }
    ]

    pub there_line : (t : Range) → Contains (lines_on q space bus) t → Contains (taken_at q s k space bus) t
    there_line t has = Contains-append_left (lines_on q space bus) (map k.range (filter counts (system_parts q s))) t has

    pub there_kept : (t : Range) → IsKeptThere space bus t → Contains (taken_at q s k space bus) t
    there_kept t is =
        let r = is.of in
        subst (Contains (taken_at q s k space bus)) is.is
        (Contains-append_right (lines_on q space bus) (map k.range (filter counts (system_parts q s))) (k.range r) (in_map_from k.range (filter counts (system_parts q s)) r
        (in_filter_from counts (system_parts q s) r is.listed
        (and_from (are_siblings q.roots bus r.function.slot.bus && are_same_space space (part_space r)) (k.stays r)
        (and_from (are_siblings q.roots bus r.function.slot.bus) (are_same_space space (part_space r)) is.beside
        (ap (are_same_space space) is.at ∙ same_itself space)) is.kept))))

  -- a part is one of its function's header
  pub in_header : (t : FunctionPart) → Contains (system_parts q s) t → Contains (header_parts t.function) t.part
  in_header t has =
      let piece : IsInPiece (function_parts q s) s t = in_flat_map_to (function_parts q s) s t has in
      let f = piece.of in
      let made : IsMade (λ p. record { function = f; part = p }) (parts_of q s f) t = in_map_to (λ p. record { function = f; part = p }) (parts_of q s f) t piece.piece in
      subst (λ (r : FunctionPart). Contains (header_parts r.function) r.part) made.is (in_filter_to (is_part q s f) (header_parts f) made.from made.has).0

  -- alignments are never 0
  pub items_aligned : (c : WindowKind) (keeps : FunctionPart → Bool) (bus : ℕ) (i : PlacingItem) → Contains (bus_items q s c keeps (new_window q s c) bus) i → 0 < i.extent.alignment
  items_aligned c keeps bus i has = power_pos i.extent.alignment (item_power q s (new_window q s) c bus i (new_window_power q s c) (items_are q s (new_window q s) c keeps bus i has))

  pub item_class : (c : WindowKind) (keeps : FunctionPart → Bool) (bus : ℕ) (i : PlacingItem) → Contains (bus_items q s c keeps (new_window q s c) bus) i → i.class ≡ c
  item_class c keeps bus i has = let is = items_are q s (new_window q s) c keeps bus i has in ap (λ (j : PlacingItem). j.class) (sym is.is)

  module _ (system : IsSystem s) (nested : IsNested q.roots s) (b : Function) (listed : Contains s b) (bridge : is_bridge b ≡ true) where
    abbrev bus : ℕ
    bus = secondary b

    pub on_bus : (n : ℕ) → are_siblings q.roots bus n ≡ true → bus ≡ n
    on_bus n beside = on_it q.roots s system nested b n listed bridge beside

    pub leads_to : (n : ℕ) → are_siblings q.roots bus n ≡ true → LeadsTo s b n
    leads_to n beside = (listed, bridge, on_bus n beside)

    pub off_root : (n : ℕ) → are_siblings q.roots bus n ≡ true → is_root q.roots n ≡ false
    off_root n beside = subst (λ m. is_root q.roots m ≡ false) (on_bus n beside) (off_roots q s system nested b listed bridge)

    module _ (apart : IsKeptApart q s k) (c : WindowKind) (keeps : k.stays (window_part c b) ≡ true) where
      abbrev w : FunctionPart
      w = window_part c b

      windows_beside : (d : WindowKind) → window_space c ≡ window_space d → are_beside q w (window_part d b) ≡ true
      windows_beside d spaces =
          and_from (are_siblings q.roots b.slot.bus b.slot.bus) (are_same_space (window_space c) (window_space d))
          (or_left (b.slot.bus == b.slot.bus) (is_root q.roots b.slot.bus && is_root q.roots b.slot.bus) (eq-eqb b.slot.bus b.slot.bus refl))
          (ap (are_same_space (window_space c)) (sym spaces) ∙ same_itself (window_space c))

      -- what stays behind in the other class is outside the window
      pub other_kept : (t : Range) (is : IsKeptThere (window_space c) bus t) → same_class c (class_in q s is.of.function is.of.part) ≡ false → IsRangeApart (k.range w) t
      other_kept t is differ =
          let r = is.of in
          let d = class_in q s r.function r.part in
          let over = apart.windows r b is.listed is.kept (off_root r.function.slot.bus is.beside) (leads_to r.function.slot.bus is.beside) in
          let spaces : window_space c ≡ window_space d = sym is.at ∙ sym (space_of_class q s r.function r.part) in
          subst (IsRangeApart (k.range w)) is.is
          (outside_within (k.range w) (k.range (window_part d b)) (k.range r)
          (lie_apart (k.range w) (k.range (window_part d b))
          (apart.apart w (window_part d b) (window_listed q s system nested b listed bridge c (apart.stands w keeps)) (window_listed q s system nested b listed bridge d (apart.stands (window_part d b) over.1)) keeps over.1
          (windows_beside d spaces)
          (λ e. both_ways (same_class c d) differ (ap (same_class c) (sym (window_ranks q s system nested b listed bridge c d e)) ∙ class_itself c)))) over.0)

      -- ---- a window that stays with the addresses that it had

      module _ (same : k.range w ≡ addresses w) (holds : has_room_behind q s w ≡ true)
          (stay : (t : FunctionPart) → Contains s t.function → Contains (header_parts t.function) t.part → are_siblings q.roots bus t.function.slot.bus ≡ true → class_in q s t.function t.part ≡ c → k.stays t ≡ has_room_behind q s t)
          (own : (t : FunctionPart) → are_siblings q.roots bus t.function.slot.bus ≡ true → class_in q s t.function t.part ≡ c → k.stays t ≡ true → k.range t ≡ addresses t)
          (own_place : (i : PlacingItem) (xs : List Range) → i.class ≡ c → k.place b i xs ≡ place_in (addresses w) i xs) where
        abbrev holding_on : List Range
        holding_on = taken_on q s c (has_room_behind q s) bus

        abbrev items : List PlacingItem
        items = bus_items q s c k.stays (new_window q s c) bus

        held : (t : FunctionPart) → Contains (system_parts q s) t → are_siblings q.roots bus t.function.slot.bus ≡ true → class_in q s t.function t.part ≡ c → k.stays t ≡ has_room_behind q s t
        held t in_t beside class = stay t (part_of q s t in_t).listed (in_header t in_t) beside class

        to_holding : IsAlikeIn (k.range w) (taken_at q s k (window_space c) bus) holding_on
        to_holding t has = elim (kept_there (window_space c) bus t has) [
          | inl line ↦ inl (line_is_taken q s c (has_room_behind q s) bus t line)
          | inr is ↦ elim (cases_Bool (same_class c (class_in q s is.of.function is.of.part))) [
            | inl one ↦
                let r = is.of in
                let class = same_class_is c (class_in q s r.function r.part) one in
                inl (is_taken q s c (has_room_behind q s) bus t record {
                  of = r;
                  listed = is.listed;
                  beside = is.beside;
                  at = is.at;
                  kept = sym (held r is.listed is.beside class) ∙ is.kept;
                  is = sym (own r is.beside class is.kept) ∙ is.is;
                })
            | inr other ↦ inr (other_kept t is other)
          ]
        ]

        of_other : (t : Range) (is : IsTaken q s (window_space c) (has_room_behind q s) bus t) → same_class c (class_in q s is.of.function is.of.part) ≡ false → IsRangeApart (addresses w) t
        of_other t is differ =
            let r = is.of in
            let in_r = (part_of q s r is.listed).listed in
            let d = class_in q s r.function r.part in
            let stands_w = apart.stands w keeps in
            let within = within_over q s system nested b listed bridge r is.listed (on_bus r.function.slot.bus is.beside) (holding q s system nested r in_r is.kept).stands in
            let itself = or_left (b.slot.bus == b.slot.bus) (is_root q.roots b.slot.bus && is_root q.roots b.slot.bus) (eq-eqb b.slot.bus b.slot.bus refl) in
            subst (IsRangeApart (addresses w)) is.is
            (outside_within (addresses w) (addresses (window_part d b)) (addresses r)
            (stand_apart q s system nested b.slot.bus w (window_part d b) (window_listed q s system nested b listed bridge c stands_w) (window_listed q s system nested b listed bridge d within.1) stands_w within.1
            itself itself (sym is.at ∙ sym (space_of_class q s r.function r.part))
            (λ e. both_ways (same_class c d) differ (ap (same_class c) (sym (window_ranks q s system nested b listed bridge c d e)) ∙ class_itself c))) within.0)

        from_holding : IsAlikeIn (k.range w) holding_on (taken_at q s k (window_space c) bus)
        from_holding t has = elim (taken_is q s c (has_room_behind q s) bus t has) [
          | inl line ↦ inl (there_line (window_space c) bus t line)
          | inr is ↦ elim (cases_Bool (same_class c (class_in q s is.of.function is.of.part))) [
            | inl one ↦
                let r = is.of in
                let class = same_class_is c (class_in q s r.function r.part) one in
                let kept = held r is.listed is.beside class ∙ is.kept in
                inl (there_kept (window_space c) bus t record { of = r; listed = is.listed; beside = is.beside; at = is.at; kept = kept; is = own r is.beside class kept ∙ is.is })
            | inr other ↦ inr (subst (λ v. IsRangeApart v t) (sym same) (of_other t is other))
          ]
        ]

        through : (xs ys zs : List Range) → IsAlikeIn (k.range w) xs ys → IsAlikeIn (k.range w) ys zs → IsAlikeIn (addresses w) xs zs
        through xs ys zs first second t has = elim (first t has) [
          | inl there ↦ elim (second t there) [ inl further ↦ inl further | inr out ↦ inr (subst (λ v. IsRangeApart v t) same out) ]
          | inr out ↦ inr (subst (λ v. IsRangeApart v t) same out)
        ]

        pub standing_places : (taken : List Range) → IsAlikeIn (k.range w) taken (taken_at q s k (window_space c) bus) → IsAlikeIn (k.range w) (taken_at q s k (window_space c) bus) taken
            → HavePlaces q (k.range w) (k.place b) taken items
        standing_places taken to back =
            let more : PlacingItem → List Range = λ i. lines_behind q i.region in
            let find : PlacingItem → List Range → Option ℕ = λ i xs. place_in (addresses w) i (taken_for q i.region xs) in
            let at = taken_at q s k (window_space c) bus in
            let pos = items_aligned c k.stays bus in
            let alike : place_each find taken items ≡ place_each find holding_on (bus_items q s c (has_room_behind q s) (new_window q s c) bus) =
            same_with (addresses w) more items taken holding_on (through taken at holding_on to to_holding) (through holding_on at taken from_holding back) pos
            ∙ ap (place_each find holding_on) (items_same_on q s k.stays (has_room_behind q s) bus c stay) in
            let list = placed_list (place_each find taken items) (ap are_placed alike ∙ (holding q s system nested w listed holds).room) in
            let is = placed_off (λ i. addresses w ∷ []) more taken items pos list.0 list.1 in
            record {
              placed = list.0;
              found =
                  each_same (λ i xs. k.place b i (taken_for q i.region xs)) find taken items
                  (λ i xs has. own_place i (taken_for q i.region xs) (item_class c k.stays bus i has))
                  ∙ list.1;
              are = subst (λ v. ArePlaced (λ i. v ∷ []) taken items list.0) (sym same) is.are;
              off = is.off;
            }
