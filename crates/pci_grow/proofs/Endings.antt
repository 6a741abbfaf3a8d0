-- A window ends later, step by step, as the definition has it.
use Rattle.std.proofs.Common.{◌≡◌, ℕ, zero, suc, ◌-◌, ◌<◌, ◌≤◌, cond, true, false, Bool, ◌&&◌, not, arith, ap, sym, subst, refl, ◌∙◌, Option, Some, None}
use Rattle.std.specs.Bool.{nat_le}
use Rattle.std.specs.Option.{option_map}
use Rattle.std.specs.List.{Contains, list_all}
use Rattle.std.proofs.lemmas.Bool.{le-leb, lt-leb}
use Rattle.std.proofs.lemmas.List.Elements.{Contains-get_or, All-contains}
use Rattle.pci_spec.specs.Window.{WindowKind}
use Rattle.pci_spec.specs.Decoded.{Range as DecodedRange}
use Rattle.pci_spec.specs.System.{System, Function, IsFunction, window_space}
use Rattle.pci_spec.specs.Bus.{is_root}
use Rattle.settle_spec.specs.FirstPlace.{ranges_are_apart}
use Rattle.settle_spec.specs.Lists.{Request}
use Rattle.settle_spec.specs.Parts.{bridge_over}
use Rattle.settle_spec.specs.Stands.{window_part, is_fixed_part, is_in_lists}
use Rattle.settle_spec.specs.Items.{highest_in}
use Rattle.settle_spec.specs.Kept.{Kept}
use Rattle.settle_spec.specs.Wishes.{range_then, there_then, with_window, with_bridge, ending_at, gained, end_over, range_of_window, is_off_lines, can_end_at, with_room_above, ending_if, ending_within}
use Rattle.pci_base.specs.declared.range.Range.{Range}
use Rattle.pci_base.specs.Ranges.{decoded_range_of}
use Rattle.pci_place.specs.Items.{no_function, function_in}
use Rattle.pci_tree.specs.Roots.{buses_of}
use Rattle.pci_grow.specs.declared.board.Board.{Board}
use Rattle.pci_grow.specs.declared.board.BridgeWindow.{BridgeWindow}
use Rattle.pci_grow.specs.declared.board.Facts.{Facts}
use Rattle.pci_grow.specs.RoomRows.{bus_level, row_number, row_at}
use Rattle.pci_grow.specs.Board.{IsWindow, bridge_of_window, window_class, AreFacts, Room, told_then, IsRoomOfKept, IsEnded}
use Rattle.pci_grow.specs.Endings.{IsEndedAs, IsOverOne}
use Rattle.pci_grow.proofs.Wishing.{same_range, ended_same}
use Rattle.pci_grow.proofs.Weights.{all_same}
use Rattle.pci_grow.proofs.SpareTold.{told_ended, told_is_then}

and_assoc : (a b c : Bool) → ((a && b) && c) ≡ (a && (b && c))
and_assoc true b c = refl
and_assoc false b c = refl

and_false : (b : Bool) → (b && false) ≡ false
and_false true = refl
and_false false = refl

-- ---- the definition

module _ (q : Request) (s : System) (c : WindowKind) (b : Function) (last : ℕ) (k : Kept) where
  within_zero : (d : ℕ) → d ≡ 0 → ending_within q s c d b last k ≡ None
  unfolding ending_within
  within_zero d zero_is = ap (λ n. ending_within q s c n b last k) zero_is

  within_next : (d : ℕ) → 0 < d → ending_within q s c d b last k ≡ ending_if q s c (ending_within q s c (d - 1)) b last k (range_of_window q s c b k)
  unfolding ending_within
  within_next zero pos = absurd (let no : ⊥ = omega (arith, pos) in no)
  within_next (suc n) pos =
      let less : n ≡ suc n - 1 = omega arith in
      ap (λ m. ending_if q s c (ending_within q s c m) b last k (range_of_window q s c b k)) less

  module _ (above : Function → ℕ → Kept → Option Kept) (w : DecodedRange) where
    abbrev later : Option Kept
    later = option_map (with_window (window_part c b) (ending_at w (end_over c w last))) (with_room_above q s c above b (ending_at w (end_over c w last)) k)

    if_enough : last ≤ w.last → ending_if q s c above b last k (Some w) ≡ Some k
    if_enough low = ap (λ x. cond x (Some k) (cond (can_end_at q s c b k w (end_over c w last)) later None)) (le-leb last w.last low)

    if_more : w.last < last → (can : Bool) → can_end_at q s c b k w (end_over c w last) ≡ can → ending_if q s c above b last k (Some w) ≡ cond can later None
    if_more more can is =
        ap (λ x. cond x (Some k) (cond (can_end_at q s c b k w (end_over c w last)) later None)) (lt-leb last w.last more)
        ∙ ap (λ x. cond x later None) is

  -- ---- what is around a window

  module _ (above : Function → ℕ → Kept → Option Kept) (w : DecodedRange) where
    pub under_bridge : is_root q.roots b.slot.bus ≡ false → (o : Option Function) → bridge_over s b.slot.bus ≡ o → with_room_above q s c above b w k ≡ with_bridge (λ over. above over w.last k) o
    under_bridge root o is =
        ap (λ r. cond r (cond (is_in_lists q b.slot.bus w (window_space c)) (Some k) None) (with_bridge (λ over. above over w.last k) (bridge_over s b.slot.bus))) root
        ∙ ap (with_bridge (λ over. above over w.last k)) is

-- ---- the steps

module _ (q : Request) (s : System) (k : Kept) (b : Board) (old : Room) (told_old : IsRoomOfKept q s k b old) (w : BridgeWindow) (window : IsWindow s w) (d last : ℕ) where
  abbrev f : Function
  f = bridge_of_window s w

  abbrev c : WindowKind
  c = window_class w

  abbrev whole : Option Kept
  whole = ending_within q s c d f last k

  abbrev above : Function → ℕ → Kept → Option Kept
  above = ending_within q s c (d - 1)

  listed : Contains s f
  listed = Contains-get_or s w.bridge no_function window.within

  pub at_zero : d ≡ 0 → IsEndedAs q s b whole false old old
  at_zero zero_is = subst (λ o. IsEndedAs q s b o false old old) (sym (within_zero q s c f last k d zero_is)) (refl, refl)

  module _ (pos : 0 < d) where
    then_is : (o : Option Range) → told_then b.windows.now old w ≡ o → range_of_window q s c f k ≡ option_map decoded_range_of o
    then_is o is = sym (told_is_then q s k b old told_old w window) ∙ ap (option_map decoded_range_of) is

    step : (o : Option Range) → told_then b.windows.now old w ≡ o → whole ≡ ending_if q s c above f last k (option_map decoded_range_of o)
    step o is = within_next q s c f last k d pos ∙ ap (ending_if q s c above f last k) (then_is o is)

    pub at_closed : told_then b.windows.now old w ≡ None → IsEndedAs q s b whole false old old
    at_closed is = subst (λ o. IsEndedAs q s b o false old old) (sym (step None is)) (refl, refl)

    module _ (range : Range) (is : told_then b.windows.now old w ≡ Some range) where
      pub at_enough : last ≤ range.last → IsEndedAs q s b whole true old old
      at_enough low =
          subst (λ o. IsEndedAs q s b o true old old) (sym (step (Some range) is ∙ if_enough q s c f last k above (decoded_range_of range) low)) (refl, told_old)

      module _ (more : range.last < last) (facts : Facts) (are : AreFacts q c f facts) (row : ℕ) (row_of : row ≡ row_number (bus_level (buses_of b.roots.now) facts.bus) (window_space c)) (end : ℕ) (end_is : end ≡ end_over c (decoded_range_of range) last)
          (off : Bool) (off_is : off ≡ is_off_lines q s c f (gained (decoded_range_of range) end)) where
        abbrev ended : DecodedRange
        ended = ending_at (decoded_range_of range) end

        row_is : row ≡ row_number (bus_level q.roots f.slot.bus) (window_space c)
        row_is = row_of ∙ ap (λ n. row_number (bus_level (buses_of b.roots.now) n) (window_space c)) are.bus ∙ sym (ap (λ roots. row_number (bus_level roots f.slot.bus) (window_space c)) told_old.asked.roots)

        small : f.slot.bus < 256
        small = (All-contains IsFunction s f told_old.asked.system.each listed).slot.0

        abbrev rest : Bool
        rest = not facts.fixed && (nat_le end facts.highest && list_all (λ (r : Range). ranges_are_apart (gained (decoded_range_of range) end) (decoded_range_of r)) (row_at old.rows row))

        abbrev can_here : Bool
        can_here = off && rest

        rest_is : rest ≡ (not (is_fixed_part q (window_part c f)) && (nat_le end (highest_in c f.probe) && list_all (ranges_are_apart (gained (decoded_range_of range) end)) (there_then q s k (window_space c) f.slot.bus)))
        rest_is =
            ap (λ x. not x && (nat_le end facts.highest && list_all (λ (r : Range). ranges_are_apart (gained (decoded_range_of range) end) (decoded_range_of r)) (row_at old.rows row))) are.fixed
            ∙ ap (λ x. not (is_fixed_part q (window_part c f)) && (nat_le end x && list_all (λ (r : Range). ranges_are_apart (gained (decoded_range_of range) end) (decoded_range_of r)) (row_at old.rows row))) are.highest
            ∙ ap (λ n. not (is_fixed_part q (window_part c f)) && (nat_le end (highest_in c f.probe) && list_all (λ (r : Range). ranges_are_apart (gained (decoded_range_of range) end) (decoded_range_of r)) (row_at old.rows n))) row_is
            ∙ ap (λ x. not (is_fixed_part q (window_part c f)) && (nat_le end (highest_in c f.probe) && x))
            (all_same (row_at old.rows (row_number (bus_level q.roots f.slot.bus) (window_space c))) (there_then q s k (window_space c) f.slot.bus) (told_old.rows (window_space c) f.slot.bus small) (ranges_are_apart (gained (decoded_range_of range) end)))

        can_is : can_here ≡ can_end_at q s c f k (decoded_range_of range) end
        can_is =
            ap (λ x. x && rest) off_is
            ∙ ap (λ x. is_off_lines q s c f (gained (decoded_range_of range) end) && x) rest_is
            ∙ sym (and_assoc (is_off_lines q s c f (gained (decoded_range_of range) end)) (not (is_fixed_part q (window_part c f)))
            (nat_le end (highest_in c f.probe) && list_all (ranges_are_apart (gained (decoded_range_of range) end)) (there_then q s k (window_space c) f.slot.bus)))

        has : range_then q s k (window_part c f) ≡ Some (decoded_range_of range)
        has = then_is (Some range) is

        step_more : (can : Bool) → can_here ≡ can → whole ≡ cond can (option_map (with_window (window_part c f) ended) (with_room_above q s c above f ended k)) None
        step_more can here =
            step (Some range) is
            ∙ if_more q s c f last k above (decoded_range_of range) more can (ap (can_end_at q s c f k (decoded_range_of range)) (sym end_is) ∙ sym can_is ∙ here)
            ∙ ap (λ n. cond can (option_map (with_window (window_part c f) (ending_at (decoded_range_of range) n)) (with_room_above q s c above f (ending_at (decoded_range_of range) n) k)) None) (sym end_is)

        cannot_here : can_here ≡ false → IsEndedAs q s b whole false old old
        cannot_here cannot =
            subst (λ o. IsEndedAs q s b o false old old) (sym (step_more false cannot)) (refl, refl)

        pub at_line : off ≡ false → IsEndedAs q s b whole false old old
        at_line held = cannot_here (ap (λ x. x && rest) held)

        pub at_cannot : rest ≡ false → IsEndedAs q s b whole false old old
        at_cannot cannot = cannot_here (ap (λ x. off && x) cannot ∙ and_false off)

        module _ (free : off ≡ true) (rest_can : rest ≡ true) where
          can : can_here ≡ true
          can = ap (λ x. x && rest) free ∙ rest_can

          whole_is : (o : Option Kept) → with_room_above q s c above f ended k ≡ o → whole ≡ option_map (with_window (window_part c f) ended) o
          whole_is o around = step_more true can ∙ ap (option_map (with_window (window_part c f) ended)) around

          pub at_nothing : with_room_above q s c above f ended k ≡ None → IsEndedAs q s b whole false old old
          at_nothing around = subst (λ o. IsEndedAs q s b o false old old) (sym (whole_is None around)) (refl, refl)

          pub at_lists : (new : Room) → with_room_above q s c above f ended k ≡ Some k → IsEnded old new w row range end → IsEndedAs q s b whole true old new
          at_lists new around is_ended =
              subst (λ o. IsEndedAs q s b o true old new) (sym (whole_is (Some k) around))
              (refl, told_ended q s k b old new told_old w window (told_old.there w window (decoded_range_of range) has) row row_is range end has is_ended)

          module _ (bridge : ℕ) (over : IsOverOne s w bridge) (around : with_room_above q s c above f ended k ≡ above (function_in s bridge) end k) (middle : Room) where
            -- what the bridge above comes to
            by_above : (o : Option Kept) → above (function_in s bridge) end k ≡ o → whole ≡ option_map (with_window (window_part c f) ended) o
            by_above o is_above = whole_is o (around ∙ is_above)

            pub at_above_no : IsEndedAs q s b (above (function_in s bridge) end k) false old middle → IsEndedAs q s b whole false old middle
            at_above_no denied = by (above (function_in s bridge) end k) refl denied
              where
                by : (o : Option Kept) → above (function_in s bridge) end k ≡ o → IsEndedAs q s b o false old middle → IsEndedAs q s b whole false old middle
                by None e (flag, same) = subst (λ o. IsEndedAs q s b o false old middle) (sym (by_above None e)) (refl, same)
                by (Some j) e (flag, told_j) = absurd (let no : ⊥ = cc in no)

            pub at_above_yes : (new : Room) → IsEndedAs q s b (above (function_in s bridge) end k) true old middle → IsEnded middle new w row range end → IsEndedAs q s b whole true old new
            at_above_yes new granted is_ended = by (above (function_in s bridge) end k) refl granted
              where
                by : (o : Option Kept) → above (function_in s bridge) end k ≡ o → IsEndedAs q s b o true old middle → IsEndedAs q s b whole true old new
                by None e (flag, same) = absurd (let no : ⊥ = cc in no)
                by (Some j) e (flag, told_j) =
                    let lower = over.lower in
                    let same = ended_same q s told_old.asked.system told_old.asked.nested c (d - 1) (function_in s bridge) (Contains-get_or s bridge no_function over.window.within) end k j e in
                    let has_j : range_then q s j (window_part c f) ≡ Some (decoded_range_of range) =
                    same_range q s told_old.asked.system told_old.asked.nested (function_in s bridge).slot.bus k j same (window_part c f) lower ∙ has in
                    subst (λ o. IsEndedAs q s b o true old new) (sym (by_above (Some j) e))
                    (refl, told_ended q s j b middle new told_j w window (told_j.there w window (decoded_range_of range) has_j) row row_is range end has_j is_ended)
