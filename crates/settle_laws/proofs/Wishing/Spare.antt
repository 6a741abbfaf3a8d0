-- Room for a spare behind a bridge: it is off all that is there, and the rest is kept free as it was.
use Rattle.std.proofs.Common.{◌≡◌, ◌&&◌, ℕ, zero, suc, ◌+◌, ◌%◌, ◌<◌, ◌≤◌, min, inl, inr, List, [], ◌++◌, Bool, true, false, cond, not, arith, refl, sym, ◌∙◌, ap, subst, Option, None, Some}
use Rattle.std.specs.Bool.{◌==◌, nat_le}
use Rattle.std.specs.List.{Contains}
use Rattle.std.specs.Option.{option_map, option_or}
use Rattle.std.proofs.lemmas.List.Elements.{Contains-append_left, Contains-append_right}
use Rattle.std.proofs.lemmas.Bool.{and_parts, and_from, both_ways, cases_Bool, eq-eqb, leb-true, not-true, or_left}
use Rattle.pci_spec.specs.Decoded.{Range}
use Rattle.pci_spec.specs.Window.{WindowKind, has_window, page_size}
use Rattle.pci_spec.specs.System.{System, Function, has_part, is_bridge, window_space}
use Rattle.pci_spec.specs.Bus.{secondary, are_siblings, is_root, LeadsTo}
use Rattle.plan_spec.specs.Plan.{same_class}
use Rattle.plan_spec.specs.Place.{range_from}
use Rattle.plan_spec.specs.Planning.Layout.{IsInside, LieApart}
use Rattle.plan_spec.proofs.Planning.Placement.{IsMultiple, mod_of_multiple, multiple_of_mod, multiple_add, multiple_trans}
use Rattle.plan_spec.proofs.Planning.PlacedItems.{same_class_is}
use Rattle.plan_spec.proofs.Planning.Behind.{any_from}
use Rattle.plan_spec.proofs.Planning.Safe.{order_of}
use Rattle.settle_spec.specs.FirstPlace.{Extent, is_place, first_place}
use Rattle.pci_spec.specs.Slot.{same_slot}
use Rattle.pci_spec.proofs.Members.{in_nil}
use Rattle.judge_spec.specs.ToldRegion.{ToldRegion, told_regions}
use Rattle.settle_spec.specs.Lines.{line_range, is_held_line, is_line_of, can_keep_off, lines_on, lines_behind}
use Rattle.settle_spec.specs.Lists.{Request, class_ranges}
use Rattle.settle_spec.specs.Parts.{FunctionPart, lies_within, class_in, bridge_over, are_same_space}
use Rattle.settle_spec.specs.Stands.{is_fixed_part, rank, are_beside, is_in_lists, part_space, window_part}
use Rattle.settle_spec.specs.Items.{highest_in}
use Rattle.settle_spec.specs.Kept.{Kept, unwished}
use Rattle.settle_spec.specs.Wishes.{place_then, range_then, there_then, taken_then, with_bridge, ending_within, Spared, spot_behind, spared_above, held_by, opened_at, spared_if, spared_within, spared_behind}
use Rattle.settle_spec.proofs.BridgeOver.{over_leads}
use Rattle.settle_spec.proofs.FirstPlace.{first_is, some_place}
use Rattle.settle_spec.proofs.FirstSpot.{IsFreeFrom, least_spot, spot_gives}
use Rattle.settle_spec.proofs.LastSpot.{IsPlaceAt, place_gives}
use Rattle.settle_spec.proofs.Nested.{one_bridge}
use Rattle.settle_laws.specs.KeptLaws.{IsWishedWindow}
use Rattle.settle_laws.specs.Keeping.PlacesLaws.{CanSettle}
use Rattle.settle_laws.proofs.Held.{same_itself}
use Rattle.settle_laws.proofs.InLists.{listed_in, within_from}
use Rattle.settle_laws.proofs.Kept.{one_space}
use Rattle.settle_laws.proofs.PartClasses.{space_of_class}
use Rattle.settle_laws.proofs.Keeping.Ends.{in_window}
use Rattle.settle_laws.proofs.Wishing.Added.{one_of_rank, can_added, range_with, range_without}
use Rattle.settle_laws.proofs.Wishing.Ending.{IsEnded, ended_within, room_on_root, on_its_bus, other_window, from_above}
use Rattle.settle_laws.proofs.Wishing.Wider.{HasRoom, KeepsAll, KeepsClasses, keeps_with, classes_with, places_alike}
use Rattle.settle_laws.proofs.Wishing.Windows.{in_there}
use Rattle.settle_laws.proofs.Told.Behind.{line_on, on_is_behind, window_is_behind}

-- a spare has whole pages, aligned to pages at least
pub record IsSpare (c : WindowKind) (e : Extent) : Type 0 where
  pub some : 0 < e.size
  pub whole : e.size % page_size c ≡ 0
  pub pages : IsMultiple e.alignment (page_size c)
  pub aligned : 0 < e.alignment

-- what is inside lies apart, too
part_apart : (v t u : Range) → IsInside t u → LieApart v u → LieApart v t
part_apart v t u (first, last) (inl under) = inl (omega (arith, first, under))
part_apart v t u (first, last) (inr over) = inr (omega (arith, last, over))

no_other : (o p : Option Range) → option_or o p ≡ None → p ≡ None
no_other None p none = none
no_other (Some x) p none = absurd (let no : ⊥ = cc in no)

module _ (q : Request) (s : System) (c : WindowKind) where
  -- room for a spare is in the window of a bridge and off all that is there behind; beside that, and behind, all ends as before
  pub record IsSpared (k : Kept) (found : Spared) (b : Function) (e : Extent) : Type 0 where
    pub can : CanSettle q s found.kept
    pub alike : unwished found.kept ≡ unwished k
    pub later : (r : FunctionPart) → Contains s r.function → has_part r.function r.part ≡ true → b.slot.bus ≤ r.function.slot.bus → (rank r ≡ rank (window_part c b) → ⊥) → range_then q s found.kept r ≡ range_then q s k r
    pub keeps : KeepsAll q s k found.kept
    pub classes : KeepsClasses q s c k found.kept
    pub window : (v : Range) × (range_then q s found.kept (window_part c b) ≡ Some v) × IsInside (range_from found.at e.size) v
    pub free : (r : FunctionPart) (t : Range) → Contains s r.function → has_part r.function r.part ≡ true → r.function.slot.bus ≡ secondary b → window_space c ≡ part_space r → range_then q s found.kept r ≡ Some t → LieApart (range_from found.at e.size) t
    pub multiple : found.at % e.alignment ≡ 0
    pub high : (range_from found.at e.size).last ≤ e.highest

  -- it is off what lines hold behind the bridge, and off more
  pub record IsSparedOff (k : Kept) (found : Spared) (b : Function) (e : Extent) (behind : List Range) : Type 0 where
    pub spared : IsSpared k found b e
    pub lines : (t : Range) → Contains (lines_on q (window_space c) (secondary b)) t → LieApart (range_from found.at e.size) t
    pub off : (t : Range) → Contains behind t → LieApart (range_from found.at e.size) t

  -- what more it is off is held by lines behind the bridge's window
  abbrev pub AreBehind : Function → List Range → Type 0
  AreBehind b behind = (t : Range) → Contains behind t → Contains (lines_behind q (window_part c b)) t

  -- a line that can keep a window off holds addresses on its bus
  line_there : (b : Function) (x : ToldRegion) → Contains (told_regions q.told) x → can_keep_off q x b.slot (window_space c) ≡ true → Contains (lines_on q (window_space c) b.slot.bus) (line_range x)
  line_there b x told can_be =
      line_on q (window_space c) b.slot.bus x told (and_parts (is_line_of q (window_space c) b.slot.bus x) (not (is_held_line x && same_slot x.told.slot b.slot)) can_be).0

  module _ (k : Kept) (can : CanSettle q s k) (b : Function) (listed : Contains s b) (bridge : is_bridge b ≡ true) (e : Extent) (spare : IsSpare c e) where
    abbrev r : FunctionPart
    r = window_part c b

    -- what is behind a bridge is no window of it
    behind_other : (x : FunctionPart) → Contains s x.function → has_part x.function x.part ≡ true → x.function.slot.bus ≡ secondary b → rank x ≡ rank r → ⊥
    behind_other x in_x there at same =
        let one = one_of_rank s can.system x r in_x listed there bridge same in
        let bus : x.function.slot.bus ≡ b.slot.bus = ap (λ (y : FunctionPart). y.function.slot.bus) one in
        let up = order_of q.roots s can.nested b listed bridge in
        let no : ⊥ = omega (arith, bus, up, at) in
        no

    behind_later : (x : FunctionPart) → x.function.slot.bus ≡ secondary b → b.slot.bus ≤ x.function.slot.bus
    behind_later x at = (let up = order_of q.roots s can.nested b listed bridge in omega (arith, up, at))

    -- ---- in an open window

    module _ (behind : List Range) (w : Range) (ends : range_then q s k r ≡ Some w) where
      abbrev at : ℕ
      at = spot_behind q s c b e behind k w

      abbrev lines : List Range
      lines = lines_on q (window_space c) (secondary b)

      abbrev taken : List Range
      taken = behind ++ (lines ++ there_then q s k (window_space c) (secondary b))

      spot : IsFreeFrom w.first taken e at
      spot = spot_gives w.first taken e at (least_spot w.first taken e spare.aligned).free

      off_open : (t : Range) → Contains behind t → LieApart (range_from at e.size) t
      off_open t has = spot.free t (Contains-append_left behind (lines ++ there_then q s k (window_space c) (secondary b)) t has)

      lines_open : (t : Range) → Contains lines t → LieApart (range_from at e.size) t
      lines_open t has = spot.free t (Contains-append_right behind (lines ++ there_then q s k (window_space c) (secondary b)) t (Contains-append_left lines (there_then q s k (window_space c) (secondary b)) t has))

      spared_open : (j : Kept) → IsEnded q s c k j b (range_from at e.size).last → (range_from at e.size).last ≤ e.highest → IsSpared k (record { at = at; kept = j }) b e
      spared_open j ended high = record {
        can = ended.can;
        alike = ended.alike;
        later = ended.later;
        keeps = ended.keeps;
        classes = ended.classes;
        window = (let is = ended.window w ends in let from = spot.from in let last = is.2 in (record { first = w.first; last = is.0 }, is.1, (from, last)));
        free = λ x t in_x there on space then.
            spot.free t (Contains-append_right behind (lines ++ there_then q s k (window_space c) (secondary b)) t
            (Contains-append_right lines (there_then q s k (window_space c) (secondary b)) t (in_there q s k can (window_space c) (secondary b) x t in_x there
            (or_left (secondary b == x.function.slot.bus) (is_root q.roots (secondary b) && is_root q.roots x.function.slot.bus) (eq-eqb (secondary b) x.function.slot.bus (sym on)))
            (ap (are_same_space (window_space c)) (sym space) ∙ same_itself (window_space c))
            (sym (ended.later x in_x there (behind_later x on) (behind_other x in_x there on)) ∙ then))));
        multiple = spot.multiple;
        high = high;
      }

    -- ---- in a closed window, which is opened

    module _ (none : range_then q s k r ≡ None) (there : has_window c b.probe ≡ true) (unfixed : is_fixed_part q r ≡ false) (found : Spared) (multiple : found.at % e.alignment ≡ 0)
        (high : (range_from found.at e.size).last ≤ min e.highest (highest_in c b.probe)) (room : HasRoom q s c k found.kept b (range_from found.at e.size))
        (off : (x : FunctionPart) (t : Range) → Contains s x.function → has_part x.function x.part ≡ true → are_beside q r x ≡ true → range_then q s found.kept x ≡ Some t → LieApart (range_from found.at e.size) t)
        (off_lines : (t : Range) → Contains (lines_on q (window_space c) b.slot.bus) t → LieApart (range_from found.at e.size) t)
        (off_behind : (t : Range) → Contains (lines_behind q (window_part c b)) t → LieApart (range_from found.at e.size) t) where
      abbrev v : Range
      v = range_from found.at e.size

      abbrev j : Kept
      j = found.kept

      whole_first : v.first % page_size c ≡ 0
      whole_first = mod_of_multiple found.at (page_size c) (multiple_trans found.at e.alignment (page_size c) (multiple_of_mod found.at e.alignment multiple) spare.pages)

      whole_last : (v.last + 1) % page_size c ≡ 0
      whole_last =
          let some = spare.some in
          let end : found.at + e.size ≡ v.last + 1 = omega (arith, some) in
          ap (λ n. n % page_size c) (sym end)
          ∙ mod_of_multiple (found.at + e.size) (page_size c) (multiple_add found.at e.size (page_size c) (multiple_of_mod found.at (page_size c) whole_first) (multiple_of_mod e.size (page_size c) spare.whole))

      no_place : (t : Range) → place_then q s j r ≡ Some t → ⊥
      no_place t placed =
          let is : Some t ≡ None = sym (sym (places_alike q s k j room.alike r) ∙ placed) ∙ no_other (k.wished r) (place_then q s k r) none in
          let no : ⊥ = cc in
          no

      closed_still : range_then q s j r ≡ None
      closed_still = room.later r listed bridge (omega arith) ∙ none

      fits : IsWishedWindow q s j c b v
      fits = record {
        there = there;
        unfixed = unfixed;
        forward = omega arith;
        first = whole_first;
        last = whole_last;
        low = omega (arith, high);
        holds = λ t placed. absurd (no_place t placed);
        outward = λ t placed. absurd (no_place t placed);
        apart = λ x t in_x has beside differ then. off x t in_x has beside then;
        off = λ x told can_be forward placed. off_lines (line_range x) (line_there b x told can_be);
        lists = room.lists;
        over = room.over;
      }

      wider : (t : Range) → range_then q s j r ≡ Some t → IsInside t v
      wider t then = (let is : Some t ≡ None = sym then ∙ closed_still in absurd (let no : ⊥ = cc in no))

      -- what is behind ends in another window of the bridge
      behind_apart : (x : FunctionPart) (t : Range) → Contains s x.function → has_part x.function x.part ≡ true → x.function.slot.bus ≡ secondary b → window_space c ≡ part_space x → range_then q s j x ≡ Some t → LieApart v t
      behind_apart x t in_x has on space then =
          let d = class_in q s x.function x.part in
          let over = in_window q s j room.can x.function b x.part in_x has (listed, bridge, sym on) t then in
          elim (cases_Bool (same_class c d)) [
            | inl same ↦
                let class = same_class_is c d same in
                let is : Some over.w ≡ None = sym over.ends ∙ ap (λ a. range_then q s j (window_part a b)) class ∙ closed_still in
                absurd (let no : ⊥ = cc in no)
            | inr other ↦
                let spaces : window_space d ≡ window_space c = space_of_class q s x.function x.part ∙ sym space in
                part_apart v t over.w over.inside
                (off (window_part d b) over.w listed bridge
                (and_from (are_siblings q.roots b.slot.bus b.slot.bus) (are_same_space (window_space c) (window_space d))
                (or_left (b.slot.bus == b.slot.bus) (is_root q.roots b.slot.bus && is_root q.roots b.slot.bus) (eq-eqb b.slot.bus b.slot.bus refl))
                (ap (are_same_space (window_space c)) spaces ∙ same_itself (window_space c)))
                over.ends)
          ]

      spared_opened : IsSpared k (opened_at q s c b e found) b e
      spared_opened = record {
        can = can_added q s j room.can c b listed bridge v fits wider;
        alike = room.alike;
        later = λ x in_x has from differ. range_without q s j r v x differ ∙ room.later x in_x has from;
        keeps = keeps_with q s k j can.system room.keeps r v listed bridge (λ t then. (let is : Some t ≡ None = sym then ∙ none in absurd (let no : ⊥ = cc in no)));
        classes = classes_with q s c k j can.system room.classes b v listed bridge;
        window = (v, range_with q s j r v, (omega arith, omega arith));
        free = λ x t in_x has on space then. behind_apart x t in_x has on space (sym (range_without q s j r v x (behind_other x in_x has on)) ∙ then);
        multiple = multiple;
        high = omega (arith, high);
      }

      opened_off : (behind : List Range) → AreBehind b behind → IsSparedOff k (opened_at q s c b e found) b e behind
      opened_off behind are = record {
        spared = spared_opened;
        lines = λ t has. off_behind t (on_is_behind q s can.system can.nested b listed bridge c t has);
        off = λ t has. off_behind t (are t has);
      }

    -- ---- on a root

    module _ (root : is_root q.roots b.slot.bus ≡ true) (a : ℕ)
        (found : first_place (class_ranges q c b.slot.bus) (lines_behind q (window_part c b) ++ taken_then q s k (window_space c) b.slot.bus) (held_by q s c b e) ≡ Some a) where
      abbrev lines_own : List Range
      lines_own = lines_behind q (window_part c b)

      abbrev lines_there : List Range
      lines_there = lines_on q (window_space c) b.slot.bus

      abbrev taken_root : List Range
      taken_root = lines_own ++ (lines_there ++ there_then q s k (window_space c) b.slot.bus)

      range_there : (u : Range) × Contains (class_ranges q c b.slot.bus) u × (is_place u taken_root (held_by q s c b e) a ≡ true)
      range_there = some_place (class_ranges q c b.slot.bus) taken_root (held_by q s c b e) a ((first_is (class_ranges q c b.slot.bus) taken_root (held_by q s c b e) a spare.aligned).0 found)

      place : IsPlaceAt range_there.0 taken_root (held_by q s c b e) a
      place = place_gives range_there.0 taken_root (held_by q s c b e) a range_there.2

      root_lists : is_in_lists q b.slot.bus (range_from a e.size) (window_space c) ≡ true
      root_lists = listed_in q b.slot.bus (range_from a e.size) c
          (any_from (lies_within (range_from a e.size)) (class_ranges q c b.slot.bus) range_there.0 range_there.1 (within_from (range_from a e.size) range_there.0 (place.from, place.last)))

      spared_on_root : range_then q s k r ≡ None → has_window c b.probe ≡ true → is_fixed_part q r ≡ false → (behind : List Range) → AreBehind b behind → IsSparedOff k (opened_at q s c b e (record { at = a; kept = k })) b e behind
      spared_on_root none there unfixed = opened_off none there unfixed (record { at = a; kept = k }) place.multiple place.highest (room_on_root q s c k can b listed bridge (range_from a e.size) root root_lists)
          (λ x t in_x has beside then.
          let parts = and_parts (are_siblings q.roots b.slot.bus x.function.slot.bus) (are_same_space (window_space c) (part_space x)) beside in
          place.free t (Contains-append_right lines_own (lines_there ++ there_then q s k (window_space c) b.slot.bus) t
          (Contains-append_right lines_there (there_then q s k (window_space c) b.slot.bus) t (in_there q s k can (window_space c) b.slot.bus x t in_x has parts.0 parts.1 then))))
          (λ t has. place.free t (Contains-append_right lines_own (lines_there ++ there_then q s k (window_space c) b.slot.bus) t (Contains-append_left lines_there (there_then q s k (window_space c) b.slot.bus) t has)))
          (λ t has. place.free t (Contains-append_left lines_own (lines_there ++ there_then q s k (window_space c) b.slot.bus) t has))

    -- ---- behind a bridge

    module _ (off : is_root q.roots b.slot.bus ≡ false) (d : Function) (leads : LeadsTo s d b.slot.bus) (found : Spared) (over_off : IsSparedOff k found d (held_by q s c b e) (lines_behind q (window_part c b))) where
      abbrev above : IsSpared k found d (held_by q s c b e)
      above = over_off.spared

      later_above : (x : FunctionPart) → Contains s x.function → has_part x.function x.part ≡ true → b.slot.bus ≤ x.function.slot.bus → range_then q s found.kept x ≡ range_then q s k x
      later_above x in_x has from =
          let up = from_above q s c k can b listed bridge off d leads in
          above.later x in_x has (omega (arith, up, from)) (other_window q s c k can b listed bridge off d leads x in_x has from)

      over : (f : Function) → LeadsTo s f b.slot.bus → (u : Range) × (range_then q s found.kept (window_part c f) ≡ Some u) × IsInside (range_from found.at e.size) u
      over f leads_f =
          let one : f ≡ d = one_bridge q.roots s can.system can.nested f d leads_f.0 leads.0 leads_f.1 leads.1 (leads_f.2 ∙ sym leads.2) in
          let is = above.window in
          (is.0, ap (λ g. range_then q s found.kept (window_part c g)) one ∙ is.1, is.2)

      room_above : HasRoom q s c k found.kept b (range_from found.at e.size)
      room_above = record {
        can = above.can;
        alike = above.alike;
        beside = λ x in_x has beside. (let at = on_its_bus q s c k can b listed bridge off x.function.slot.bus beside in later_above x in_x has (omega (arith, at)));
        later = later_above;
        keeps = above.keeps;
        classes = above.classes;
        lists = λ root. absurd (both_ways (is_root q.roots b.slot.bus) off root);
        over = over;
      }

      spared_behind_bridge : range_then q s k r ≡ None → has_window c b.probe ≡ true → is_fixed_part q r ≡ false → (behind : List Range) → AreBehind b behind → IsSparedOff k (opened_at q s c b e found) b e behind
      spared_behind_bridge none there unfixed = opened_off none there unfixed found above.multiple above.high room_above
          (λ x t in_x has beside then.
          let parts = and_parts (are_siblings q.roots b.slot.bus x.function.slot.bus) (are_same_space (window_space c) (part_space x)) beside in
          above.free x t in_x has (sym (on_its_bus q s c k can b listed bridge off x.function.slot.bus parts.0) ∙ sym leads.2) (one_space (window_space c) (part_space x) parts.1) then)
          (λ t has. over_off.lines t (subst (λ n. Contains (lines_on q (window_space c) n) t) (sym leads.2) has))
          over_off.off

  -- ---- all windows on the way up

  module _ (above : Function → Extent → List Range → Kept → Option Spared)
      (rest : (k : Kept) → CanSettle q s k → (b : Function) → Contains s b → is_bridge b ≡ true → (e : Extent) → IsSpare c e → (behind : List Range) → AreBehind b behind → (found : Spared) → above b e behind k ≡ Some found
      → IsSparedOff k found b e behind)
      (k : Kept) (can : CanSettle q s k) (b : Function) (listed : Contains s b) (bridge : is_bridge b ≡ true) (e : Extent) (spare : IsSpare c e) (behind : List Range) (are : AreBehind b behind) (found : Spared) where
    abbrev own : FunctionPart
    own = window_part c b

    abbrev behind_own : List Range
    behind_own = lines_behind q own

    -- what lines hold behind the window is behind the window above it
    behind_above : (d : Function) → LeadsTo s d b.slot.bus → AreBehind d behind_own
    behind_above d leads t has = window_is_behind q s can.system can.nested d leads.0 leads.1 c b listed bridge leads.2 t has

    open_off : (w : Range) (ends : range_then q s k own ≡ Some w) (j : Kept) → IsEnded q s c k j b (range_from (spot_behind q s c b e behind k w) e.size).last
        → (range_from (spot_behind q s c b e behind k w) e.size).last ≤ e.highest → IsSparedOff k (record { at = spot_behind q s c b e behind k w; kept = j }) b e behind
    open_off w ends j ended high = record {
      spared = spared_open k can b listed bridge e spare behind w ends j ended high;
      lines = lines_open k can b listed bridge e spare behind w ends;
      off = off_open k can b listed bridge e spare behind w ends;
    }

    -- ---- a window that is open

    open_at : (w : Range) → range_then q s k own ≡ Some w → (t : Bool) → nat_le (range_from (spot_behind q s c b e behind k w) e.size).last e.highest ≡ t
        → (o : Option Kept) → ending_within q s c 256 b (range_from (spot_behind q s c b e behind k w) e.size).last k ≡ o
        → cond t (option_map (λ kept. record { at = spot_behind q s c b e behind k w; kept = kept }) o) None ≡ Some found → IsSparedOff k found b e behind
    open_at w ends false high o at is = absurd (let no : ⊥ = cc in no)
    open_at w ends true high None at is = absurd (let no : ⊥ = cc in no)
    open_at w ends true high (Some j) at is =
        let a = spot_behind q s c b e behind k w in
        let spared : Spared = record { at = a; kept = j } in
        let same : spared ≡ found = cc in
        subst (λ x. IsSparedOff k x b e behind) same (open_off w ends j (ended_within q s c 256 k can b listed bridge (range_from a e.size).last j at) (leb-true (range_from a e.size).last e.highest high))

    -- ---- one that is closed

    module _ (none : range_then q s k own ≡ None) (there : has_window c b.probe ≡ true) (unfixed : is_fixed_part q own ≡ false) where
      root_place : is_root q.roots b.slot.bus ≡ true → (o : Option ℕ) → first_place (class_ranges q c b.slot.bus) (behind_own ++ taken_then q s k (window_space c) b.slot.bus) (held_by q s c b e) ≡ o
          → option_map (opened_at q s c b e) (option_map (λ at. record { at = at; kept = k }) o) ≡ Some found → IsSparedOff k found b e behind
      root_place root None at is = absurd (let no : ⊥ = cc in no)
      root_place root (Some a) at is =
          let spared : Spared = record { at = a; kept = k } in
          let same : opened_at q s c b e spared ≡ found = cc in
          subst (λ x. IsSparedOff k x b e behind) same (spared_on_root k can b listed bridge e spare root a at none there unfixed behind are)

      bridge_place : is_root q.roots b.slot.bus ≡ false → (d : Function) → LeadsTo s d b.slot.bus → (o : Option Spared) → above d (held_by q s c b e) behind_own k ≡ o → option_map (opened_at q s c b e) o ≡ Some found → IsSparedOff k found b e behind
      bridge_place off d leads None at is = absurd (let no : ⊥ = cc in no)
      bridge_place off d leads (Some x) at is =
          let held : IsSpare c (held_by q s c b e) = record { some = spare.some; whole = spare.whole; pages = spare.pages; aligned = spare.aligned } in
          let same : opened_at q s c b e x ≡ found = cc in
          subst (λ y. IsSparedOff k y b e behind) same (spared_behind_bridge k can b listed bridge e spare off d leads x (rest k can d leads.0 leads.1 (held_by q s c b e) held behind_own (behind_above d leads) x at) none there unfixed behind are)

      over_place : is_root q.roots b.slot.bus ≡ false → (o : Option Function) → bridge_over s b.slot.bus ≡ o → option_map (opened_at q s c b e) (with_bridge (λ over. above over (held_by q s c b e) behind_own k) o) ≡ Some found → IsSparedOff k found b e behind
      over_place off None at is = absurd (let no : ⊥ = cc in no)
      over_place off (Some d) at is = bridge_place off d (over_leads s b.slot.bus d at) (above d (held_by q s c b e) behind_own k) refl is

      closed_place : (t : Bool) → is_root q.roots b.slot.bus ≡ t
          → option_map (opened_at q s c b e) (cond t (option_map (λ at. record { at = at; kept = k }) (first_place (class_ranges q c b.slot.bus) (behind_own ++ taken_then q s k (window_space c) b.slot.bus) (held_by q s c b e)))
          (with_bridge (λ over. above over (held_by q s c b e) behind_own k) (bridge_over s b.slot.bus))) ≡ Some found → IsSparedOff k found b e behind
      closed_place true root is = root_place root (first_place (class_ranges q c b.slot.bus) (behind_own ++ taken_then q s k (window_space c) b.slot.bus) (held_by q s c b e)) refl is
      closed_place false off is = over_place off (bridge_over s b.slot.bus) refl is

    can_open : (none : range_then q s k own ≡ None) → (t : Bool) → (has_window c b.probe && not (is_fixed_part q own)) ≡ t → cond t (option_map (opened_at q s c b e) (spared_above q s c above b (held_by q s c b e) k)) None ≡ Some found → IsSparedOff k found b e behind
    can_open none false may is = absurd (let no : ⊥ = cc in no)
    can_open none true may is =
        let parts = and_parts (has_window c b.probe) (not (is_fixed_part q own)) may in
        closed_place none parts.0 (not-true (is_fixed_part q own) parts.1) (is_root q.roots b.slot.bus) refl is

    spared_by : (o : Option Range) → range_then q s k own ≡ o → spared_if q s c above b e behind k o ≡ Some found → IsSparedOff k found b e behind
    spared_by None ends is = can_open ends (has_window c b.probe && not (is_fixed_part q own)) refl is
    spared_by (Some w) ends is =
        open_at w ends (nat_le (range_from (spot_behind q s c b e behind k w) e.size).last e.highest) refl (ending_within q s c 256 b (range_from (spot_behind q s c b e behind k w) e.size).last k) refl is

  -- what is granted is there, off lines
  pub spared_off : (depth : ℕ) (k : Kept) → CanSettle q s k → (b : Function) → Contains s b → is_bridge b ≡ true → (e : Extent) → IsSpare c e → (behind : List Range) → AreBehind b behind → (found : Spared)
      → spared_within q s c depth b e behind k ≡ Some found → IsSparedOff k found b e behind
  unfolding spared_within
  spared_off zero k can b listed bridge e spare behind are found is = absurd (let no : ⊥ = cc in no)
  spared_off (suc depth) k can b listed bridge e spare behind are found is =
      spared_by (spared_within q s c depth) (spared_off depth) k can b listed bridge e spare behind are found (range_then q s k (window_part c b)) refl is

  pub is_spared_off : (k : Kept) → CanSettle q s k → (b : Function) → Contains s b → is_bridge b ≡ true → (e : Extent) → IsSpare c e → (found : Spared) → spared_behind q s c b e k ≡ Some found → IsSparedOff k found b e []
  is_spared_off k can b listed bridge e spare found is = spared_off 256 k can b listed bridge e spare [] (λ t has. absurd (in_nil t has)) found is

  -- The law: what is granted is there.
  pub is_spared : (k : Kept) → CanSettle q s k → (b : Function) → Contains s b → is_bridge b ≡ true → (e : Extent) → IsSpare c e → (found : Spared) → spared_behind q s c b e k ≡ Some found → IsSpared k found b e
  is_spared k can b listed bridge e spare found is = (spared_off 256 k can b listed bridge e spare [] (λ t has. absurd (in_nil t has)) found is).spared
