-- Room for a spare is found step by step, as the definition has it.
use Rattle.std.proofs.Common.{◌≡◌, ℕ, zero, suc, ◌+◌, ◌-◌, ◌<◌, ◌≤◌, List, ◌++◌, map, cond, true, false, Bool, ◌&&◌, not, min, arith, ap, sym, subst, refl, ◌∙◌, Option, Some, None}
use Rattle.std.specs.Option.{option_map}
use Rattle.std.specs.List.{Contains}
use Rattle.std.proofs.lemmas.Bool.{le-leb, lt-leb}
use Rattle.std.proofs.lemmas.List.Elements.{Contains-get_or, All-contains}
use Rattle.pci_spec.specs.Window.{WindowKind, has_window}
use Rattle.pci_spec.specs.Decoded.{Range as DecodedRange}
use Rattle.pci_spec.specs.System.{System, Function, IsFunction, window_space}
use Rattle.pci_spec.specs.Bus.{is_root, secondary}
use Rattle.plan_spec.specs.Place.{range_from}
use Rattle.settle_spec.specs.FirstPlace.{Extent as ExtentValue, first_spot, first_place}
use Rattle.settle_spec.specs.Lists.{Request, class_ranges, list_of}
use Rattle.settle_spec.specs.Lists as lists
use Rattle.settle_spec.specs.Parts.{bridge_over}
use Rattle.settle_spec.specs.Stands.{window_part, is_fixed_part}
use Rattle.settle_spec.specs.Kept.{Kept}
use Rattle.settle_spec.specs.Lines.{lines_behind}
use Rattle.settle_spec.specs.Wishes.{range_then, taken_then, with_window, with_bridge, range_of_window, ending, Spared, spot_behind, spared_at, spared_above, held_by, opened_at, spared_if, spared_within}
use Rattle.settle_spec.proofs.SameTaken.{same_first_spot, same_first_place}
use Rattle.pci_base.specs.declared.range.Range.{Range}
use Rattle.pci_base.specs.Ranges.{decoded_range_of}
use Rattle.pci_place.specs.Items.{no_function, function_in}
use Rattle.pci_tree.specs.Roots.{buses_of}
use Rattle.pci_grow.specs.declared.board.Board.{Board}
use Rattle.pci_grow.specs.declared.board.BridgeWindow.{BridgeWindow}
use Rattle.pci_grow.specs.declared.board.Facts.{Facts}
use Rattle.pci_first_fit.specs.declared.extent.Extent.{Extent}
use Rattle.pci_first_fit.specs.Lists.{lists_value}
use Rattle.pci_grow.specs.Lists.{ranges_had}
use Rattle.pci_first_fit.specs.Spots.{extent_value, extent_range, IsExtent}
use Rattle.pci_grow.specs.RoomRows.{bus_level, row_number, HasRanges}
use Rattle.pci_grow.specs.Board.{IsWindow, bridge_of_window, window_class, AreFacts, Room, told_then, IsRoomOfKept, IsWindowOpened}
use Rattle.pci_grow.specs.Endings.{IsEndedAs, IsSparedAs, IsSparedIn, IsSparedOnRoot, IsOverOne}
use Rattle.pci_grow.proofs.Wishing.{same_range, spared_same}
use Rattle.pci_grow.proofs.Weights.{have_same}
use Rattle.pci_grow.proofs.SpareTold.{told_opened, told_is_then}

and_false : (b : Bool) → (b && false) ≡ false
and_false true = refl
and_false false = refl

-- ---- the definition

module _ (q : Request) (s : System) (c : WindowKind) (b : Function) (e : ExtentValue) (behind : List DecodedRange) (k : Kept) where
  spare_zero : (d : ℕ) → d ≡ 0 → spared_within q s c d b e behind k ≡ None
  unfolding spared_within
  spare_zero d zero_is = ap (λ n. spared_within q s c n b e behind k) zero_is

  spare_next : (d : ℕ) → 0 < d → spared_within q s c d b e behind k ≡ spared_if q s c (spared_within q s c (d - 1)) b e behind k (range_of_window q s c b k)
  unfolding spared_within
  spare_next zero pos = absurd (let no : ⊥ = omega (arith, pos) in no)
  spare_next (suc n) pos =
      let less : n ≡ suc n - 1 = omega arith in
      ap (λ m. spared_if q s c (spared_within q s c m) b e behind k (range_of_window q s c b k)) less

  module _ (above : Function → ExtentValue → List DecodedRange → Kept → Option Spared) where
    spare_closed : (can : Bool) → (has_window c b.probe && not (is_fixed_part q (window_part c b))) ≡ can
        → spared_if q s c above b e behind k None ≡ cond can (option_map (opened_at q s c b e) (spared_above q s c above b (held_by q s c b e) k)) None
    spare_closed can is = ap (λ x. cond x (option_map (opened_at q s c b e) (spared_above q s c above b (held_by q s c b e) k)) None) is

    abbrev held : List DecodedRange
    held = lines_behind q (window_part c b)

    spare_root : (d : ExtentValue) → is_root q.roots b.slot.bus ≡ true → spared_above q s c above b d k
        ≡ option_map (λ at. record { at = at; kept = k }) (first_place (class_ranges q c b.slot.bus) (held ++ taken_then q s k (window_space c) b.slot.bus) d)
    spare_root d root =
        ap (λ r. cond r (option_map (λ at. record { at = at; kept = k }) (first_place (class_ranges q c b.slot.bus) (held ++ taken_then q s k (window_space c) b.slot.bus) d)) (with_bridge (λ over. above over d held k) (bridge_over s b.slot.bus))) root

    spare_over : (d : ExtentValue) → is_root q.roots b.slot.bus ≡ false → (o : Option Function) → bridge_over s b.slot.bus ≡ o → spared_above q s c above b d k ≡ with_bridge (λ over. above over d held k) o
    spare_over d root o is =
        ap (λ r. cond r (option_map (λ at. record { at = at; kept = k }) (first_place (class_ranges q c b.slot.bus) (held ++ taken_then q s k (window_space c) b.slot.bus) d)) (with_bridge (λ over. above over d held k) (bridge_over s b.slot.bus))) root
        ∙ ap (with_bridge (λ over. above over d held k)) is

module _ (q : Request) (s : System) (k : Kept) (b : Board) (old : Room) (told_old : IsRoomOfKept q s k b old) (w : BridgeWindow) (window : IsWindow s w) (e : Extent) (behind : List DecodedRange) where
  abbrev f : Function
  f = bridge_of_window s w

  abbrev c : WindowKind
  c = window_class w

  abbrev ev : ExtentValue
  ev = extent_value e

  listed : Contains s f
  listed = Contains-get_or s w.bridge no_function window.within

  own_small : f.slot.bus < 256
  own_small = (All-contains IsFunction s f told_old.asked.system.each listed).slot.0

  own_row : (facts : Facts) → AreFacts q c f facts → (row : ℕ) → row ≡ row_number (bus_level (buses_of b.roots.now) facts.bus) (window_space c) → row ≡ row_number (bus_level q.roots f.slot.bus) (window_space c)
  own_row facts are row row_of =
      row_of ∙ ap (λ n. row_number (bus_level (buses_of b.roots.now) n) (window_space c)) are.bus ∙ sym (ap (λ roots. row_number (bus_level roots f.slot.bus) (window_space c)) told_old.asked.roots)

  -- ---- an open window

  module _ (is_extent : IsExtent e) (range : Range) (taken : List Range) (taken_is : HasRanges taken (behind ++ taken_then q s k (window_space c) (secondary f))) where
    abbrev spot : ℕ
    spot = first_spot range.first (map decoded_range_of taken) ev

    spot_is : spot ≡ spot_behind q s c f ev behind k (decoded_range_of range)
    spot_is =
        same_first_spot range.first (map decoded_range_of taken) (behind ++ taken_then q s k (window_space c) (secondary f)) ev is_extent.alignment
        (have_same taken (behind ++ taken_then q s k (window_space c) (secondary f)) taken_is)

    abbrev at_spot : ℕ → Option Spared
    at_spot at = spared_at q s c f ev k at

    -- no window holds an address so high
    pub in_high : e.highest < spot + (e.size - 1) → IsSparedIn q s k b w range e behind None old old
    in_high high =
        subst (λ o. IsSparedAs q s b o None old old) (ap at_spot spot_is)
        (subst (λ o. IsSparedAs q s b o None old old) (sym (ap (λ x. cond x (option_map (λ kept. record { at = spot; kept = kept }) (ending q s c f (spot + (e.size - 1)) k)) None) (lt-leb (spot + (e.size - 1)) e.highest high))) (refl, refl))

    module _ (low : spot + (e.size - 1) ≤ e.highest) (at : ℕ) (at_is : at ≡ spot) where
      abbrev as_ended : Option Kept → Option Spared
      as_ended o = option_map (λ kept. record { at = at; kept = kept }) o

      spared_is : at_spot at ≡ as_ended (ending q s c f (at + (e.size - 1)) k)
      spared_is = ap (λ x. cond x (as_ended (ending q s c f (at + (e.size - 1)) k)) None) (le-leb (at + (e.size - 1)) e.highest (omega (arith, low, at_is)))

      to_spot : (place : Option ℕ) (new : Room) → IsSparedAs q s b (as_ended (ending q s c f (at + (e.size - 1)) k)) place old new → IsSparedIn q s k b w range e behind place old new
      to_spot place new is =
          subst (λ n. IsSparedAs q s b (at_spot n) place old new) (at_is ∙ spot_is)
          (subst (λ o. IsSparedAs q s b o place old new) (sym spared_is) is)

      pub in_no : (new : Room) → IsEndedAs q s b (ending q s c f (at + (e.size - 1)) k) false old new → IsSparedIn q s k b w range e behind None old new
      in_no new denied = to_spot None new (by (ending q s c f (at + (e.size - 1)) k) denied)
        where
          by : (o : Option Kept) → IsEndedAs q s b o false old new → IsSparedAs q s b (as_ended o) None old new
          by None (flag, same) = (refl, same)
          by (Some j) (flag, told_j) = absurd (let no : ⊥ = cc in no)

      pub in_yes : (new : Room) → IsEndedAs q s b (ending q s c f (at + (e.size - 1)) k) true old new → IsSparedIn q s k b w range e behind (Some at) old new
      in_yes new granted = to_spot (Some at) new (by (ending q s c f (at + (e.size - 1)) k) granted)
        where
          by : (o : Option Kept) → IsEndedAs q s b o true old new → IsSparedAs q s b (as_ended o) (Some at) old new
          by None (flag, same) = absurd (let no : ⊥ = cc in no)
          by (Some j) (flag, told_j) = (refl, told_j)

  -- ---- a closed window on a root

  module _ (is_extent : IsExtent e) (facts : Facts) (are : AreFacts q c f facts) (row : ℕ) (row_of : row ≡ row_number (bus_level (buses_of b.roots.now) facts.bus) (window_space c))
      (list : List lists.RootRange) (list_is : list ≡ list_of (lists_value b.lists.now) c)
      (taken : List Range) (taken_is : HasRanges taken (behind ++ taken_then q s k (window_space c) facts.bus)) where
    abbrev found : Option ℕ
    found = first_place (ranges_had facts.bus list) (map decoded_range_of taken) ev

    found_is : found ≡ first_place (class_ranges q c f.slot.bus) (behind ++ taken_then q s k (window_space c) f.slot.bus) ev
    found_is =
        same_first_place (ranges_had facts.bus list) (map decoded_range_of taken) (behind ++ taken_then q s k (window_space c) facts.bus) ev is_extent.alignment
        (have_same taken (behind ++ taken_then q s k (window_space c) facts.bus) taken_is)
        ∙ ap (λ bus. first_place (ranges_had bus list) (behind ++ taken_then q s k (window_space c) bus) ev) are.bus
        ∙ ap (λ xs. first_place (ranges_had f.slot.bus xs) (behind ++ taken_then q s k (window_space c) f.slot.bus) ev) (list_is ∙ sym (ap (λ l. list_of l c) told_old.asked.lists))

    abbrev root_of : Option ℕ → Option Spared
    root_of o = option_map (opened_at q s c f ev) (option_map (λ at. record { at = at; kept = k }) o)

    pub root_none : found ≡ None → IsSparedOnRoot q s k b w facts e behind None old old
    root_none none there closed = subst (λ o. IsSparedAs q s b (root_of o) None old old) (sym none ∙ found_is) (refl, refl)

    pub root_some : (at : ℕ) → found ≡ Some at → (new : Room) → IsWindowOpened old new w row (extent_range e at) → IsSparedOnRoot q s k b w facts e behind (Some at) old new
    root_some at some new opened there closed =
        subst (λ o. IsSparedAs q s b (root_of o) (Some at) old new) (sym some ∙ found_is)
        (refl, told_opened q s k b old new told_old w window (sym are.there ∙ there) row (own_row facts are row row_of) (extent_range e at) closed opened)

  -- ---- all of it

  module _ (d : ℕ) where
    abbrev whole : Option Spared
    whole = spared_within q s c d f ev behind k

    abbrev above : Function → ExtentValue → List DecodedRange → Kept → Option Spared
    above = spared_within q s c (d - 1)

    pub of_zero : d ≡ 0 → IsSparedAs q s b whole None old old
    of_zero zero_is = subst (λ o. IsSparedAs q s b o None old old) (sym (spare_zero q s c f ev behind k d zero_is)) (refl, refl)

    module _ (pos : 0 < d) where
      step : (o : Option Range) → told_then b.windows.now old w ≡ o → whole ≡ spared_if q s c above f ev behind k (option_map decoded_range_of o)
      step o is =
          spare_next q s c f ev behind k d pos
          ∙ ap (spared_if q s c above f ev behind k) (sym (told_is_then q s k b old told_old w window) ∙ ap (option_map decoded_range_of) is)

      pub of_open : (range : Range) → told_then b.windows.now old w ≡ Some range → (place : Option ℕ) (new : Room) → IsSparedIn q s k b w range e behind place old new → IsSparedAs q s b whole place old new
      of_open range is place new spared = subst (λ o. IsSparedAs q s b o place old new) (sym (step (Some range) is)) spared

      module _ (closed : told_then b.windows.now old w ≡ None) (facts : Facts) (are : AreFacts q c f facts) where
        has : range_then q s k (window_part c f) ≡ None
        has = sym (told_is_then q s k b old told_old w window) ∙ ap (option_map decoded_range_of) closed

        can_is : (facts.there && not facts.fixed) ≡ (has_window c f.probe && not (is_fixed_part q (window_part c f)))
        can_is = ap (λ x. x && not facts.fixed) are.there ∙ ap (λ x. has_window c f.probe && not x) are.fixed

        pub cannot_there : facts.there ≡ false → (facts.there && not facts.fixed) ≡ false
        cannot_there off = ap (λ x. x && not facts.fixed) off

        pub cannot_fixed : facts.fixed ≡ true → (facts.there && not facts.fixed) ≡ false
        cannot_fixed is = ap (λ x. facts.there && not x) is ∙ and_false facts.there

        pub can_both : facts.there ≡ true → facts.fixed ≡ false → (facts.there && not facts.fixed) ≡ true
        can_both there free = ap (λ x. x && not facts.fixed) there ∙ ap not free

        pub of_cannot : (facts.there && not facts.fixed) ≡ false → IsSparedAs q s b whole None old old
        of_cannot cannot =
            subst (λ o. IsSparedAs q s b o None old old) (sym (step None closed ∙ spare_closed q s c f ev behind k above false (sym can_is ∙ cannot))) (refl, refl)

        module _ (can : (facts.there && not facts.fixed) ≡ true) (held : Extent) (size : held.size ≡ e.size) (alignment : held.alignment ≡ e.alignment) (highest : held.highest ≡ min e.highest facts.highest) where
          held_is : extent_value held ≡ held_by q s c f ev
          held_is =
              ap (λ n. let x : ExtentValue = record { size = n; alignment = held.alignment; highest = held.highest } in x) size
              ∙ ap (λ n. let x : ExtentValue = record { size = e.size; alignment = n; highest = held.highest } in x) alignment
              ∙ ap (λ n. let x : ExtentValue = record { size = e.size; alignment = e.alignment; highest = n } in x) (highest ∙ ap (min e.highest) are.highest)

          whole_is : (o : Option Spared) → spared_above q s c above f (extent_value held) k ≡ o → whole ≡ option_map (opened_at q s c f ev) o
          whole_is o is =
              step None closed ∙ spare_closed q s c f ev behind k above true (sym can_is ∙ can)
              ∙ ap (λ x. option_map (opened_at q s c f ev) (spared_above q s c above f x k)) (sym held_is)
              ∙ ap (option_map (opened_at q s c f ev)) is

          -- what is opened has the size of the spare
          same_opened : (o : Option Spared) → option_map (opened_at q s c f (extent_value held)) o ≡ option_map (opened_at q s c f ev) o
          same_opened None = refl
          same_opened (Some found) = ap (λ n. let x : Option Spared = Some record { at = found.at; kept = with_window (window_part c f) (range_from found.at n) found.kept } in x) size

          pub of_root : is_root q.roots f.slot.bus ≡ true → facts.there ≡ true → (place : Option ℕ) (new : Room) → IsSparedOnRoot q s k b w facts held (lines_behind q (window_part c f)) place old new → IsSparedAs q s b whole place old new
          of_root root there place new spared =
              subst (λ o. IsSparedAs q s b o place old new)
              (same_opened _ ∙ sym (whole_is _ (spare_root q s c f ev behind k above (extent_value held) root)))
              (spared there has)

          pub of_nothing : is_root q.roots f.slot.bus ≡ false → bridge_over s f.slot.bus ≡ None → IsSparedAs q s b whole None old old
          of_nothing root over = subst (λ o. IsSparedAs q s b o None old old) (sym (whole_is None (spare_over q s c f ev behind k above (extent_value held) root None over))) (refl, refl)

          module _ (root : is_root q.roots f.slot.bus ≡ false) (bridge : ℕ) (over_is : bridge_over s f.slot.bus ≡ Some (function_in s bridge)) (over : IsOverOne s w bridge) (middle : Room) where
            abbrev by_bridge : Option Spared
            by_bridge = above (function_in s bridge) (extent_value held) (lines_behind q (window_part c f)) k

            by_above : (o : Option Spared) → by_bridge ≡ o → whole ≡ option_map (opened_at q s c f ev) o
            by_above o is = whole_is o (spare_over q s c f ev behind k above (extent_value held) root (Some (function_in s bridge)) over_is ∙ is)

            pub of_above_no : IsSparedAs q s b by_bridge None old middle → IsSparedAs q s b whole None old middle
            of_above_no denied = by by_bridge refl denied
              where
                by : (o : Option Spared) → by_bridge ≡ o → IsSparedAs q s b o None old middle → IsSparedAs q s b whole None old middle
                by None is (none, same) = subst (λ o. IsSparedAs q s b o None old middle) (sym (by_above None is)) (refl, same)
                by (Some found) is (some, told_found) = absurd (let no : ⊥ = cc in no)

            pub of_above_yes : (at : ℕ) (new : Room) (row : ℕ) → row ≡ row_number (bus_level (buses_of b.roots.now) facts.bus) (window_space c) → IsSparedAs q s b by_bridge (Some at) old middle
                → IsWindowOpened middle new w row (extent_range held at) → facts.there ≡ true → IsSparedAs q s b whole (Some at) old new
            of_above_yes at new row row_of granted opened there = by by_bridge refl granted
              where
                by : (o : Option Spared) → by_bridge ≡ o → IsSparedAs q s b o (Some at) old middle → IsSparedAs q s b whole (Some at) old new
                by None is (none, same) = absurd (let no : ⊥ = cc in no)
                by (Some found) is (some, told_found) =
                    let lower = over.lower in
                    let same = spared_same q s told_old.asked.system told_old.asked.nested c (d - 1) (function_in s bridge) (Contains-get_or s bridge no_function over.window.within) (extent_value held) (lines_behind q (window_part c f)) k found is in
                    let closed_then : range_then q s found.kept (window_part c f) ≡ None =
                    same_range q s told_old.asked.system told_old.asked.nested (function_in s bridge).slot.bus k found.kept same (window_part c f) lower ∙ has in
                    let at_is : at ≡ found.at = cc in
                    let told_new = told_opened q s found.kept b middle new told_found w window (sym are.there ∙ there) row (own_row facts are row row_of) (extent_range held at) closed_then opened in
                    let window_is : decoded_range_of (extent_range held at) ≡ range_from found.at ev.size =
                    ap (λ n. range_from n held.size) at_is ∙ ap (range_from found.at) size in
                    subst (λ o. IsSparedAs q s b o (Some at) old new) (sym (by_above (Some found) is))
                    (ap Some at_is, subst (λ r. IsRoomOfKept q s (with_window (window_part c f) r found.kept) b new) window_is told_new)
