-- Where a spare has no room, it has none when all is settled again: what was there is there, and windows are where they were.
use Rattle.std.proofs.Common.{◌≡◌, ◌&&◌, ◌||◌, ℕ, zero, suc, ◌<◌, ◌≤◌, inl, inr, List, [], ◌++◌, map, Bool, true, false, cond, not, arith, refl, sym, ◌∙◌, ap, subst, Option, None, Some}
use Rattle.std.specs.Bool.{nat_le, nat_lt}
use Rattle.std.specs.List.{Contains, filter, flat_map, list_all}
use Rattle.std.specs.Option.{is_some, option_map}
use Rattle.std.proofs.lemmas.Bool.{and_from, and_parts, both_ways, false_from_ne_true, leb-true, le-leb, or_left}
use Rattle.std.proofs.Math.Path.{fun_ext}
use Rattle.std.proofs.lemmas.List.Elements.{Contains-append_cases, Contains-append_left, Contains-append_right}
use Rattle.pci_spec.specs.Slot.{Slot}
use Rattle.pci_spec.specs.Header.{bar_count}
use Rattle.pci_spec.specs.Decoded.{Range}
use Rattle.pci_spec.specs.Window.{WindowKind, has_window}
use Rattle.pci_spec.specs.System.{System, Function, Space, Io, Memory, Part, Bar, Rom, Window, has_part, is_bridge, is_implemented, is_window, window_space}
use Rattle.pci_spec.specs.Bus.{secondary, is_root, are_siblings, LeadsTo}
use Rattle.pci_spec.proofs.BusRanges.{all_from}
use Rattle.pci_spec.proofs.Members.{in_head, in_filter_from, in_flat_map_from, in_map_from, in_map_to, IsMade}
use Rattle.plan_spec.specs.Place.{range_from}
use Rattle.plan_spec.proofs.Planning.Behind.{all_gives}
use Rattle.plan_spec.proofs.Planning.Moved.{secondary_same}
use Rattle.settle_spec.specs.FirstPlace.{Extent, ranges_are_apart, first_place}
use Rattle.judge_spec.specs.ToldRegion.{ToldRegion, told_regions}
use Rattle.settle_spec.specs.Lines.{line_bus, line_range, lines_behind, lines_on}
use Rattle.settle_spec.specs.Lists.{Request, class_ranges}
use Rattle.settle_spec.specs.Parts.{FunctionPart, header_parts, bridge_over, is_part, are_same_space}
use Rattle.settle_spec.specs.Stands.{is_fixed_part, is_in_lists, part_space, window_part}
use Rattle.settle_spec.specs.Items.{highest_in}
use Rattle.settle_spec.specs.Registers.{changing}
use Rattle.settle_spec.specs.Growth.{range_list}
use Rattle.settle_spec.specs.Kept.{Kept, growing}
use Rattle.settle_spec.specs.Keeping.Registers.{settled, settled_function}
use Rattle.settle_spec.specs.Wishes.{range_then, there_then, taken_then, with_window, with_bridge, ending_at, end_over, gained, is_off_lines, can_end_at, with_room_above, ending_if, ending_within, Spared, spot_behind, spared_at, spared_above, held_by, opened_at, spared_if, spared_within, spared_behind}
use Rattle.settle_spec.proofs.BridgeOver.{over_leads, over_is}
use Rattle.settle_spec.proofs.FirstPlace.{first_is, some_place}
use Rattle.settle_spec.proofs.FirstSpot.{least_spot, spot_from, spot_gives}
use Rattle.settle_spec.proofs.LastSpot.{place_gives, place_from}
use Rattle.settle_laws.specs.Keeping.PlacesLaws.{CanSettle}
use Rattle.settle_laws.proofs.Alike.{behind_alike, space_alike}
use Rattle.settle_laws.proofs.HeaderParts.{header_of}
use Rattle.settle_laws.proofs.Kept.{in_regions}
use Rattle.settle_laws.proofs.Keeping.Again.{settled_alike}
use Rattle.settle_laws.proofs.Keeping.AgainEnds.{part_again}
use Rattle.settle_laws.proofs.Keeping.AgainParts.{settled_end}
use Rattle.settle_laws.proofs.Keeping.Claimed.{bridge_stays, rest_closed}
use Rattle.settle_laws.proofs.Keeping.Fits.{was}
use Rattle.settle_laws.proofs.Keeping.Moves.{moves}
use Rattle.settle_laws.proofs.Keeping.SettledMoved.{kind_stays}
use Rattle.settle_laws.proofs.Wishing.ByBus.{ending_by_bus, spared_by_bus}
use Rattle.settle_laws.proofs.Wishing.Denied.{some_map, place_some}
use Rattle.settle_laws.proofs.Wishing.Later.{lower}
use Rattle.settle_laws.proofs.Wishing.Longer.{ends_before, there_gives}
use Rattle.settle_laws.proofs.Wishing.Still.{stays_there, nowhere}
use Rattle.settle_laws.proofs.Told.NothingSettled.{IsStart}

some_parts : {A B : Type 0} (t : Bool) (f : A → B) (o : Option A) → is_some (cond t (option_map f o) None) ≡ true → (t ≡ true) × (is_some o ≡ true)
some_parts true f (Some i) is = (refl, refl)
some_parts true f None is = absurd (both_ways false refl is)
some_parts false f o is = absurd (both_ways false refl is)

some_from : {A B : Type 0} (t : Bool) (f : A → B) (o : Option A) → t ≡ true → is_some o ≡ true → is_some (cond t (option_map f o) None) ≡ true
some_from true f (Some i) so some = refl
some_from true f None so some = absurd (both_ways false refl some)
some_from false f o so some = absurd (both_ways false refl so)

or_some : {A B : Type 0} (t : Bool) (x : A) (y : B) (o : Option A) (p : Option B) → (is_some o ≡ true → is_some p ≡ true) → is_some (cond t (Some x) o) ≡ true → is_some (cond t (Some y) p) ≡ true
or_some true x y o p rest is = refl
or_some false x y o p rest is = rest is

if_listed : {A B : Type 0} (t u : Bool) (x : A) (y : B) → t ≡ u → is_some (cond t (Some x) None) ≡ true → is_some (cond u (Some y) None) ≡ true
if_listed true true x y same is = refl
if_listed true false x y same is = absurd (both_ways true same refl)
if_listed false u x y same is = absurd (both_ways false refl is)

either : {A B : Type 0} (t : Bool) (a b : Option A) (c d : Option B) → (is_some a ≡ true → is_some c ≡ true) → (is_some b ≡ true → is_some d ≡ true) → is_some (cond t a b) ≡ true → is_some (cond t c d) ≡ true
either true a b c d first second is = first is
either false a b c d first second is = second is

module _ (q : Request) (slots : List Slot) where
  abbrev without : Request
  without = record q { slots = slots }

  -- slots say nothing of the lists
  lists_alike : (bus : ℕ) (v : Range) (space : Space) → is_in_lists q bus v space ≡ is_in_lists without bus v space
  lists_alike bus v Io = refl
  lists_alike bus v Memory = refl

module _ (q : Request) (forward : (x : ToldRegion) → Contains (told_regions q.told) x → x.told.first ≤ x.told.last) (slots : List Slot) (s : System) (j : Kept) (can : CanSettle (record q { slots = slots }) s j)
    (start : IsStart q (settled (record q { slots = slots }) s j)) where
  abbrev x : Request
  x = record q { slots = slots }

  abbrev t : System
  t = settled x s j

  abbrev now : Function → Function
  now f = settled_function x s j f

  abbrev k : Kept
  k = growing q t

  in_now : (f : Function) → Contains s f → Contains t (now f)
  in_now f listed = in_map_from now s f listed

  has_now : (f : Function) → Contains s f → (p : Part) → has_part f p ≡ true → has_part (now f) p ≡ true
  has_now f listed (Bar n) has = ap (λ i. nat_lt n (bar_count i)) (kind_stays x s j can f listed) ∙ has
  has_now f listed Rom has = refl
  has_now f listed (Window c) has = bridge_stays x s j can f listed ∙ has

  behind_same : (b : Function) → Contains s b → is_bridge b ≡ true → secondary (now b) ≡ secondary b
  behind_same b listed bridge = secondary_same b (now b) (moves x s j can b listed) (was x s j can b listed).image bridge

  -- what was there is there
  still_there : (f : Function) (p : Part) → Contains s f → has_part f p ≡ true → (u : Range) → range_then x s j record { function = f; part = p } ≡ Some u
      → (is_part q t (now f) p ≡ true) × (range_then q t k record { function = now f; part = p } ≡ Some u)
  still_there f p listed there u ends =
      let part : is_part q t (now f) p ≡ true = part_again x s j can f p listed there p refl u ends in
      let end = settled_end x s j can f p listed there part in (
        part,
        stays_there q t start record { function = now f; part = p } (in_regions q t (now f) p (in_now f listed) (header_of (now f) p (has_now f listed p there)) part)
            ∙ ap Some end.shown ∙ sym end.ends ∙ ends,
      )

  -- and a window is where it was
  window_same : (c : WindowKind) (b : Function) → Contains s b → is_bridge b ≡ true → range_then q t k (window_part c (now b)) ≡ range_then x s j (window_part c b)
  window_same c b listed bridge = by (range_then x s j (window_part c b)) refl
    where
      by : (o : Option Range) → range_then x s j (window_part c b) ≡ o → range_then q t k (window_part c (now b)) ≡ range_then x s j (window_part c b)
      by (Some u) ends = (still_there b (Window c) listed bridge u ends).1 ∙ sym ends
      by None ends = nowhere q t start (now b) (Window c) (in_now b listed) (rest_closed x s j can b c listed ends) ∙ sym ends

  -- so is all on a bus
  there_still : (space : Space) (bus : ℕ) (u : Range) → Contains (there_then x s j space bus) u → Contains (there_then q t k space bus) u
  there_still space bus u has =
      let is = there_gives x s j space bus u has in
      let f = is.r.function in
      let p = is.r.part in
      let still = still_there f p is.listed is.there u is.ends in
      let r : FunctionPart = record { function = now f; part = p } in
      let test = λ (y : FunctionPart). are_siblings q.roots bus y.function.slot.bus && are_same_space space (part_space y) in
      let can_now = λ (o : Part). is_part q t (now f) o || (is_window o && is_implemented (now f) o) in
      let listed_now : Contains (changing q t (now f)) r = in_map_from (λ (o : Part). record { function = now f; part = o }) (filter can_now (header_parts (now f))) p
      (in_filter_from can_now (header_parts (now f)) p (header_of (now f) p (has_now f is.listed p is.there)) (or_left (is_part q t (now f) p) (is_window p && is_implemented (now f) p) still.0)) in
      let same : are_same_space space (part_space r) ≡ true = ap (are_same_space space) (sym (space_alike f (now f) (settled_alike x s j can f is.listed) p)) ∙ is.same in
      in_flat_map_from (λ y. range_list (range_then q t k y)) (filter test (flat_map (changing q t) t)) r u
      (in_filter_from test (flat_map (changing q t) t) r (in_flat_map_from (changing q t) t (now f) r (in_now f is.listed) listed_now)
      (and_from (are_siblings q.roots bus f.slot.bus) (are_same_space space (part_space r)) is.beside same))
      (subst (λ o. Contains (range_list o) u) (sym still.1) (in_head u []))

  -- with what lines hold, and more
  taken_still : (space : Space) (bus : ℕ) (lines : List Range) (u : Range) → Contains (lines ++ taken_then x s j space bus) u → Contains (lines ++ taken_then q t k space bus) u
  taken_still space bus lines u has =
      let on = lines_on q space bus in
      let after = there_then q t k space bus in
      elim (Contains-append_cases lines (on ++ there_then x s j space bus) u has) [
        | inl here ↦ Contains-append_left lines (on ++ after) u here
        | inr more ↦ Contains-append_right lines (on ++ after) u (elim (Contains-append_cases on (there_then x s j space bus) u more) [
          | inl line ↦ Contains-append_left on after u line
          | inr there ↦ Contains-append_right on after u (there_still space bus u there)
        ])
      ]

  -- lines behind a window are those that were
  behind_lines : (c : WindowKind) (b : Function) → Contains s b → is_bridge b ≡ true → lines_behind q (window_part c (now b)) ≡ lines_behind q (window_part c b)
  behind_lines c b listed bridge = ap (λ (test : ℕ → Bool). map line_range (filter (λ y. test (line_bus y) && are_same_space (window_space c) y.told.space) (told_regions q.told)))
      (fun_ext (λ bus. sym (behind_alike b (now b) (settled_alike x s j can b listed) bridge bus)))

  -- ---- the bridge over a bus

  over_now : (bus : ℕ) (d : Function) → bridge_over t bus ≡ Some d → (f : Function) × (LeadsTo s f bus) × (now f ≡ d)
  over_now bus d at =
      let leads = over_leads t bus d at in
      let made : IsMade now s d = in_map_to now s d leads.0 in
      let bridge : is_bridge made.from ≡ true = sym (bridge_stays x s j can made.from made.has) ∙ ap is_bridge made.is ∙ leads.1 in
      let to : secondary made.from ≡ bus = sym (behind_same made.from made.has bridge) ∙ ap secondary made.is ∙ leads.2 in
      (made.from, (made.has, bridge, to), made.is)

  over_then : {A B : Type 0} (above : Function → Option A) (below : Function → Option B) (bus : ℕ) → ((f : Function) → LeadsTo s f bus → is_some (above (now f)) ≡ true → is_some (below f) ≡ true)
      → is_some (with_bridge above (bridge_over t bus)) ≡ true → is_some (with_bridge below (bridge_over s bus)) ≡ true
  over_then {A} {B} above below bus each = by (bridge_over t bus) refl
    where
      by : (o : Option Function) → bridge_over t bus ≡ o → is_some (with_bridge above o) ≡ true → is_some (with_bridge below (bridge_over s bus)) ≡ true
      by None at is = absurd (both_ways false refl is)
      by (Some d) at is =
          let f = over_now bus d at in
          ap (λ o. is_some (with_bridge below o)) (over_is x.roots s can.system can.nested bus f.0 f.1) ∙ each f.0 f.1 (subst (λ g. is_some (above g) ≡ true) (sym f.2) is)

  module _ (c : WindowKind) where
    -- ---- an open window that can end later could

    can_end_then : (b : Function) (w : Range) (e : ℕ) → can_end_at q t c (now b) k w e ≡ true → can_end_at x s c b j w e ≡ true
    can_end_then b w e is =
        let then = there_then q t k (window_space c) b.slot.bus in
        let before = there_then x s j (window_space c) b.slot.bus in
        let may = is_off_lines q s c b (gained w e) && not (is_fixed_part q (window_part c b)) in
        let parts = and_parts may (nat_le e (highest_in c b.probe) && list_all (ranges_are_apart (gained w e)) then) is in
        let more = and_parts (nat_le e (highest_in c b.probe)) (list_all (ranges_are_apart (gained w e)) then) parts.1 in
        and_from may (nat_le e (highest_in c b.probe) && list_all (ranges_are_apart (gained w e)) before) parts.0
        (and_from (nat_le e (highest_in c b.probe)) (list_all (ranges_are_apart (gained w e)) before) more.0
        (all_from (ranges_are_apart (gained w e)) before (λ u has. all_gives (ranges_are_apart (gained w e)) then u more.1 (there_still (window_space c) b.slot.bus u has))))

    module _ (b : Function) (last : ℕ) (rest : (f : Function) → LeadsTo s f b.slot.bus → (end : ℕ) → is_some (ending_within q t c 256 (now f) end k) ≡ true → is_some (ending_within x s c 256 f end j) ≡ true) where
      room_then : (v : Range) → is_some (with_room_above q t c (ending_within q t c 256) (now b) v k) ≡ true → is_some (with_room_above x s c (ending_within x s c 256) b v j) ≡ true
      room_then v = either (is_root q.roots b.slot.bus) (cond (is_in_lists q b.slot.bus v (window_space c)) (Some k) None) (with_bridge (λ f. ending_within q t c 256 f v.last k) (bridge_over t b.slot.bus))
          (cond (is_in_lists x b.slot.bus v (window_space c)) (Some j) None) (with_bridge (λ f. ending_within x s c 256 f v.last j) (bridge_over s b.slot.bus))
          (if_listed (is_in_lists q b.slot.bus v (window_space c)) (is_in_lists x b.slot.bus v (window_space c)) k j (lists_alike q slots b.slot.bus v (window_space c)))
          (over_then (λ f. ending_within q t c 256 f v.last k) (λ f. ending_within x s c 256 f v.last j) b.slot.bus (λ f leads. rest f leads v.last))

      ended_at : (o : Option Range) → is_some (ending_if q t c (ending_within q t c 256) (now b) last k o) ≡ true → is_some (ending_if x s c (ending_within x s c 256) b last j o) ≡ true
      ended_at None is = absurd (both_ways false refl is)
      ended_at (Some w) is =
          let e = end_over c w last in
          let v = ending_at w e in
          let above = with_room_above q t c (ending_within q t c 256) (now b) v k in
          let below = with_room_above x s c (ending_within x s c 256) b v j in
          or_some (nat_le last w.last) k j (cond (can_end_at q t c (now b) k w e) (option_map (with_window (window_part c (now b)) v) above) None) (cond (can_end_at x s c b j w e) (option_map (with_window (window_part c b) v) below) None)
          (λ may. (let parts = some_parts (can_end_at q t c (now b) k w e) (with_window (window_part c (now b)) v) above may in
          some_from (can_end_at x s c b j w e) (with_window (window_part c b) v) below (can_end_then b w e parts.0) (room_then v parts.1))) is

    ended_then : (n : ℕ) (b : Function) → Contains s b → is_bridge b ≡ true → b.slot.bus < n → (last : ℕ) → is_some (ending_within q t c 256 (now b) last k) ≡ true → is_some (ending_within x s c 256 b last j) ≡ true
    ended_then zero b listed bridge low last is = absurd (let no : ⊥ = omega (arith, low) in no)
    ended_then (suc n) b listed bridge low last is =
        ap is_some (ending_by_bus x s c can.system can.nested b listed last j)
        ∙ ended_at b last (λ f leads end. (let below = lower x s c can.system can.nested spareless f b.slot.bus leads in ended_then n f leads.0 leads.1 (omega (arith, below, low)) end)) (range_then x s j (window_part c b))
        (ap (λ o. is_some (ending_if q t c (ending_within q t c 256) (now b) last k o)) (sym (window_same c b listed bridge))
        ∙ sym (ap is_some (ending_by_bus q t c start.needs.system start.needs.nested (now b) (in_now b listed) last k)) ∙ is)
      where
        spareless : Extent
        spareless = record { size = 1; alignment = 1; highest = 0 }

    -- ---- so is it with room for a spare

    module _ (b : Function) (listed : Contains s b) (bridge : is_bridge b ≡ true) (e : Extent) (aligned : 0 < e.alignment) (lines : List Range)
        (rest : (f : Function) → LeadsTo s f b.slot.bus → is_some (spared_within q t c 256 (now f) (held_by q t c b e) (lines_behind q (window_part c b)) k) ≡ true → is_some (spared_within x s c 256 f (held_by x s c b e) (lines_behind q (window_part c b)) j) ≡ true) where
      abbrev own : List Range
      own = lines_behind q (window_part c b)

      open_then : (w : Range) → is_some (spared_at q t c (now b) e k (spot_behind q t c (now b) e lines k w)) ≡ true → is_some (spared_at x s c b e j (spot_behind x s c b e lines j w)) ≡ true
      open_then w is =
          let a = spot_behind q t c (now b) e lines k w in
          let d = spot_behind x s c b e lines j w in
          let then = lines ++ taken_then q t k (window_space c) (secondary (now b)) in
          let before = lines ++ taken_then x s j (window_space c) (secondary b) in
          let with_a : Kept → Spared = λ i. record { at = a; kept = i } in
          let with_d : Kept → Spared = λ i. record { at = d; kept = i } in
          let parts = some_parts (nat_le (range_from a e.size).last e.highest) with_a (ending_within q t c 256 (now b) (range_from a e.size).last k) is in
          let high = leb-true (range_from a e.size).last e.highest parts.0 in
          let spot = spot_gives w.first then e a (least_spot w.first then e aligned).free in
          let first : d ≤ a = (least_spot w.first before e aligned).least a
          (spot_from w.first before e a record {
            multiple = spot.multiple;
            from = spot.from;
            free = λ u has. spot.free u (subst (λ bus. Contains (lines ++ taken_then q t k (window_space c) bus) u) (sym (behind_same b listed bridge)) (taken_still (window_space c) (secondary b) lines u has));
          }) in
          let could = ended_then (suc b.slot.bus) b listed bridge (omega arith) (range_from a e.size).last parts.1 in
          some_from (nat_le (range_from d e.size).last e.highest) with_d (ending_within x s c 256 b (range_from d e.size).last j)
          (le-leb (range_from d e.size).last e.highest (omega (arith, high, first)))
          (ends_before x forward s c (suc b.slot.bus) j can b listed bridge (omega arith) (range_from a e.size).last (range_from d e.size).last (omega (arith, first)) could)

      root_then : is_some (first_place (class_ranges q c b.slot.bus) (own ++ taken_then q t k (window_space c) b.slot.bus) (held_by q t c b e)) ≡ true → is_some (first_place (class_ranges x c b.slot.bus) (own ++ taken_then x s j (window_space c) b.slot.bus) (held_by x s c b e)) ≡ true
      root_then = by (first_place ranges then held) refl
        where
          ranges : List Range
          ranges = class_ranges q c b.slot.bus

          then : List Range
          then = own ++ taken_then q t k (window_space c) b.slot.bus

          held : Extent
          held = held_by q t c b e

          by : (o : Option ℕ) → first_place ranges then held ≡ o → is_some o ≡ true → is_some (first_place ranges (own ++ taken_then x s j (window_space c) b.slot.bus) held) ≡ true
          by None at is = absurd (both_ways false refl is)
          by (Some a) at is =
              let there = some_place ranges then held a ((first_is ranges then held a aligned).0 at) in
              let place = place_gives there.0 then held a there.2 in
              place_some ranges (own ++ taken_then x s j (window_space c) b.slot.bus) held a there.0 aligned there.1
              (place_from there.0 (own ++ taken_then x s j (window_space c) b.slot.bus) held a record {
                multiple = place.multiple;
                from = place.from;
                free = λ u has. place.free u (taken_still (window_space c) b.slot.bus own u has);
                last = place.last;
                highest = place.highest;
              })

      abbrev found_by : List Range → Option Spared
      found_by ls = cond (is_root q.roots b.slot.bus) (option_map (λ a. record { at = a; kept = k }) (first_place (class_ranges q c b.slot.bus) (ls ++ taken_then q t k (window_space c) b.slot.bus) (held_by q t c b e)))
          (with_bridge (λ f. spared_within q t c 256 f (held_by q t c b e) ls k) (bridge_over t b.slot.bus))

      above_then : is_some (found_by own) ≡ true → is_some (spared_above x s c (spared_within x s c 256) b (held_by x s c b e) j) ≡ true
      above_then =
          let with_k : ℕ → Spared = λ a. record { at = a; kept = k } in
          let with_j : ℕ → Spared = λ a. record { at = a; kept = j } in
          let here = first_place (class_ranges q c b.slot.bus) (own ++ taken_then q t k (window_space c) b.slot.bus) (held_by q t c b e) in
          let there = first_place (class_ranges x c b.slot.bus) (own ++ taken_then x s j (window_space c) b.slot.bus) (held_by x s c b e) in
          either (is_root q.roots b.slot.bus) (option_map with_k here) (with_bridge (λ f. spared_within q t c 256 f (held_by q t c b e) own k) (bridge_over t b.slot.bus))
          (option_map with_j there) (with_bridge (λ f. spared_within x s c 256 f (held_by x s c b e) own j) (bridge_over s b.slot.bus))
          (λ is. some_map with_j there ∙ root_then (sym (some_map with_k here) ∙ is))
          (over_then (λ f. spared_within q t c 256 f (held_by q t c b e) own k) (λ f. spared_within x s c 256 f (held_by x s c b e) own j) b.slot.bus rest)

      spared_then_at : (o : Option Range) → is_some (spared_if q t c (spared_within q t c 256) (now b) e lines k o) ≡ true → is_some (spared_if x s c (spared_within x s c 256) b e lines j o) ≡ true
      spared_then_at (Some w) is = open_then w is
      spared_then_at None is =
          let may = has_window c b.probe && not (is_fixed_part q (window_part c b)) in
          let parts = some_parts may (opened_at q t c (now b) e) (found_by (lines_behind q (window_part c (now b)))) is in
          some_from may (opened_at x s c b e) (spared_above x s c (spared_within x s c 256) b (held_by x s c b e) j) parts.0
          (above_then (subst (λ ls. is_some (found_by ls) ≡ true) (behind_lines c b listed bridge) parts.1))

    spared_then : (n : ℕ) (b : Function) → Contains s b → is_bridge b ≡ true → b.slot.bus < n → (e : Extent) → 0 < e.alignment → (lines : List Range) → is_some (spared_within q t c 256 (now b) e lines k) ≡ true → is_some (spared_within x s c 256 b e lines j) ≡ true
    spared_then zero b listed bridge low e aligned lines is = absurd (let no : ⊥ = omega (arith, low) in no)
    spared_then (suc n) b listed bridge low e aligned lines is =
        ap is_some (spared_by_bus x s c can.system can.nested b listed e lines j)
        ∙ spared_then_at b listed bridge e aligned lines (λ f leads. (let below = lower x s c can.system can.nested e f b.slot.bus leads in spared_then n f leads.0 leads.1 (omega (arith, below, low)) (held_by x s c b e) aligned (lines_behind q (window_part c b)))) (range_then x s j (window_part c b))
        (ap (λ o. is_some (spared_if q t c (spared_within q t c 256) (now b) e lines k o)) (sym (window_same c b listed bridge))
        ∙ sym (ap is_some (spared_by_bus q t c start.needs.system start.needs.nested (now b) (in_now b listed) e lines k)) ∙ is)

    -- The law: what had no room has none.
    pub none_then : (b : Function) → Contains s b → is_bridge b ≡ true → (e : Extent) → 0 < e.alignment → is_some (spared_behind x s c b e j) ≡ false → is_some (spared_behind q t c (now b) e k) ≡ false
    none_then b listed bridge e aligned none = false_from_ne_true (is_some (spared_behind q t c (now b) e k)) (λ some.
        both_ways (is_some (spared_behind x s c b e j)) none (spared_then (suc b.slot.bus) b listed bridge (omega arith) e aligned [] some))
