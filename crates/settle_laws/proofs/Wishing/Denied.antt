-- A spare that is denied is denied once more is kept free, too.
use Rattle.std.proofs.Common.{◌≡◌, ◌&&◌, ℕ, zero, suc, ◌+◌, ◌-◌, ◌%◌, ◌<◌, ◌≤◌, ◌⊎◌, List, ◌++◌, Bool, true, false, cond, not, arith, refl, sym, ◌∙◌, ap, subst, Option, None, Some}
use Rattle.std.specs.Bool.{nat_le}
use Rattle.std.specs.List.{Contains}
use Rattle.std.specs.Option.{is_some, option_map}
use Rattle.std.proofs.lemmas.Bool.{both_ways, leb-true, le-leb}
use Rattle.pci_spec.specs.Decoded.{Range}
use Rattle.pci_spec.specs.Window.{WindowKind, has_window, page_size}
use Rattle.pci_spec.specs.System.{System, Function, is_bridge, window_space}
use Rattle.pci_spec.specs.Bus.{secondary, is_root, LeadsTo}
use Rattle.plan_spec.specs.Place.{range_from}
use Rattle.plan_spec.proofs.Planning.Placement.{IsMultiple}
use Rattle.settle_spec.specs.FirstPlace.{Extent, is_place, first_spot, first_place}
use Rattle.judge_spec.specs.ToldRegion.{ToldRegion, told_regions}
use Rattle.settle_spec.specs.Lines.{lines_behind}
use Rattle.settle_spec.specs.Lists.{Request, class_ranges}
use Rattle.settle_spec.specs.Parts.{bridge_over}
use Rattle.settle_spec.specs.Stands.{is_fixed_part, window_part}
use Rattle.settle_spec.specs.Items.{highest_in}
use Rattle.settle_spec.specs.Kept.{Kept}
use Rattle.settle_spec.specs.Wishes.{range_then, taken_then, with_bridge, ending_at, end_over, ending_within, Spared, spot_behind, spared_at, spared_above, held_by, opened_at, spared_if, spared_within}
use Rattle.settle_spec.proofs.BridgeOver.{over_leads}
use Rattle.settle_spec.proofs.FirstPlace.{first_is, none_is, some_place}
use Rattle.settle_spec.proofs.FirstSpot.{least_spot, spot_from, spot_gives}
use Rattle.settle_spec.proofs.LastSpot.{place_gives, place_from}
use Rattle.settle_laws.specs.Keeping.PlacesLaws.{CanSettle}
use Rattle.settle_laws.proofs.Wishing.ByBus.{spared_by_bus}
use Rattle.settle_laws.proofs.Wishing.Later.{AreAlike, Change, Same, Longer, Opened, Changes, lower}
use Rattle.settle_laws.proofs.Wishing.Longer.{ended_before, ends_before, off_taken}
use Rattle.settle_laws.proofs.Wishing.Spare.{IsSpare, spared_off}
use Rattle.settle_laws.proofs.Wishing.Wider.{KeepsAll}
use Rattle.settle_laws.proofs.Told.Behind.{window_is_behind}

abbrev spared_with : ℕ → Kept → Spared
spared_with a k = record { at = a; kept = k }

pub some_map : {A B : Type 0} (f : A → B) (o : Option A) → is_some (option_map f o) ≡ is_some o
some_map f None = refl
some_map f (Some x) = refl

-- a place is there for an extent where there is one
pub place_some : (ranges taken : List Range) (e : Extent) (a : ℕ) (u : Range) → 0 < e.alignment → Contains ranges u → is_place u taken e a ≡ true → is_some (first_place ranges taken e) ≡ true
place_some ranges taken e a u pos has place = by (first_place ranges taken e) refl
  where
    by : (o : Option ℕ) → first_place ranges taken e ≡ o → is_some (first_place ranges taken e) ≡ true
    by (Some b) is = ap is_some is
    by None none = absurd (both_ways (is_place u taken e a) ((none_is ranges taken e pos).0 none u has a) place)

module _ (q : Request) (forward : (x : ToldRegion) → Contains (told_regions q.told) x → x.told.first ≤ x.told.last) (s : System) (c : WindowKind) (spare : Extent) (fine : IsSpare c spare) where
  alike_fine : (e : Extent) → AreAlike e spare → IsSpare c e
  alike_fine e alike = record {
    some = subst (λ n. 0 < n) (sym alike.size) fine.some;
    whole = ap (λ n. n % page_size c) alike.size ∙ fine.whole;
    pages = subst (λ n. IsMultiple n (page_size c)) (sym alike.alignment) fine.pages;
    aligned = subst (λ n. 0 < n) (sym alike.alignment) fine.aligned;
  }

  held_alike : (b : Function) (e : Extent) → AreAlike e spare → AreAlike (held_by q s c b e) spare
  held_alike b e alike = record { size = alike.size; alignment = alike.alignment }

  -- ---- for extents that differ in their highest addresses alone

  module _ (k : Kept) (can : CanSettle q s k) where
    -- an extent has room where a like one has, by its highest address
    room_for_like : (n : ℕ) (b : Function) → Contains s b → is_bridge b ≡ true → b.slot.bus < n → (x e : Extent) → AreAlike x spare → AreAlike e spare → (lines : List Range) (found : Spared) → spared_within q s c 256 b x lines k ≡ Some found
        → found.at + (spare.size - 1) ≤ e.highest → is_some (spared_within q s c 256 b e lines k) ≡ true
    room_for_like zero b listed bridge low x e is_x is_e lines found could high = absurd (let no : ⊥ = omega (arith, low) in no)
    room_for_like (suc n) b listed bridge low x e is_x is_e lines found could high =
        ap is_some (spared_by_bus q s c can.system can.nested b listed e lines k)
        ∙ by (range_then q s k (window_part c b)) refl (sym (spared_by_bus q s c can.system can.nested b listed x lines k) ∙ could)
        (λ d leads y z is_y is_z at could high. (let below = lower q s c can.system can.nested spare d b.slot.bus leads in room_for_like n d leads.0 leads.1 (omega (arith, below, low)) y z is_y is_z own_lines at could high))
      where
        own_lines : List Range
        own_lines = lines_behind q (window_part c b)

        Above : Type 0
        Above = (d : Function) → LeadsTo s d b.slot.bus → (y z : Extent) → AreAlike y spare → AreAlike z spare → (at : Spared) → spared_within q s c 256 d y own_lines k ≡ Some at → at.at + (spare.size - 1) ≤ z.highest → is_some (spared_within q s c 256 d z own_lines k) ≡ true

        size : x.size ≡ e.size
        size = is_x.size ∙ sym is_e.size

        alignment : x.alignment ≡ e.alignment
        alignment = is_x.alignment ∙ sym is_e.alignment

        -- in an open window
        same_spot : (w : Range) → spot_behind q s c b x lines k w ≡ spot_behind q s c b e lines k w
        same_spot w = λ i. first_spot w.first (lines ++ taken_then q s k (window_space c) (secondary b)) record { size = size i; alignment = alignment i; highest = e.highest }

        open_at : (w : Range) (t : Bool) (o : Option Kept) → ending_within q s c 256 b (range_from (spot_behind q s c b x lines k w) x.size).last k ≡ o
            → cond t (option_map (spared_with (spot_behind q s c b x lines k w)) o) None ≡ Some found → is_some (spared_at q s c b e k (spot_behind q s c b e lines k w)) ≡ true
        open_at w false o at is = absurd (let no : ⊥ = cc in no)
        open_at w true None at is = absurd (let no : ⊥ = cc in no)
        open_at w true (Some j) at is =
            let made : Spared = record { at = spot_behind q s c b x lines k w; kept = j } in
            let one : made ≡ found = cc in
            let spot : spot_behind q s c b e lines k w ≡ found.at = sym (same_spot w) ∙ ap (λ (y : Spared). y.at) one in
            let its = is_e.size in
            let ends : ending_within q s c 256 b (range_from (spot_behind q s c b e lines k w) e.size).last k ≡ Some j =
            (λ i. ending_within q s c 256 b (range_from (sym (same_spot w) i) (sym size i)).last k) ∙ at in
            ap (λ t. is_some (cond t (option_map (spared_with (spot_behind q s c b e lines k w)) (ending_within q s c 256 b (range_from (spot_behind q s c b e lines k w) e.size).last k)) None))
            (le-leb (range_from (spot_behind q s c b e lines k w) e.size).last e.highest (omega (arith, spot, its, high)))
            ∙ some_map (spared_with (spot_behind q s c b e lines k w)) (ending_within q s c 256 b (range_from (spot_behind q s c b e lines k w) e.size).last k) ∙ ap is_some ends

        -- in a closed one
        low_enough : found.at + (spare.size - 1) ≤ highest_in c b.probe → found.at + (spare.size - 1) ≤ (held_by q s c b e).highest
        low_enough under = omega (arith, high, under)

        on_root : (o : Option ℕ) → first_place (class_ranges q c b.slot.bus) (own_lines ++ taken_then q s k (window_space c) b.slot.bus) (held_by q s c b x) ≡ o
            → option_map (opened_at q s c b x) (option_map (λ at. spared_with at k) o) ≡ Some found → is_some (first_place (class_ranges q c b.slot.bus) (own_lines ++ taken_then q s k (window_space c) b.slot.bus) (held_by q s c b e)) ≡ true
        on_root None at is = absurd (let no : ⊥ = cc in no)
        on_root (Some a) at is =
            let ranges = class_ranges q c b.slot.bus in
            let taken = own_lines ++ taken_then q s k (window_space c) b.slot.bus in
            let made : Spared = record { at = a; kept = k } in
            let one : opened_at q s c b x made ≡ found = cc in
            let spot : a ≡ found.at = ap (λ (y : Spared). y.at) one in
            let there = some_place ranges taken (held_by q s c b x) a ((first_is ranges taken (held_by q s c b x) a (alike_fine x is_x).aligned).0 at) in
            let place = place_gives there.0 taken (held_by q s c b x) a there.2 in
            let its = is_x.size in
            let top = place.highest in
            place_some ranges taken (held_by q s c b e) a there.0 (alike_fine e is_e).aligned there.1
            (place_from there.0 taken (held_by q s c b e) a record {
              multiple = subst (λ n. a % n ≡ 0) alignment place.multiple;
              from = place.from;
              free = λ t has. subst (λ n. (a + (n - 1) < t.first) ⊎ (t.last < a)) size (place.free t has);
              last = (let at_last = place.last in omega (arith, at_last, size));
              highest = (let most = low_enough (omega (arith, top, its, spot)) in omega (arith, most, spot, is_e.size));
            })

        behind : Above → (d : Function) → LeadsTo s d b.slot.bus → (o : Option Spared) → spared_within q s c 256 d (held_by q s c b x) own_lines k ≡ o → option_map (opened_at q s c b x) o ≡ Some found → is_some (spared_within q s c 256 d (held_by q s c b e) own_lines k) ≡ true
        behind above d leads None at is = absurd (let no : ⊥ = cc in no)
        behind above d leads (Some y) at is =
            let one : opened_at q s c b x y ≡ found = cc in
            let spot : y.at ≡ found.at = ap (λ (z : Spared). z.at) one in
            let spared = (spared_off q s c 256 k can d leads.0 leads.1 (held_by q s c b x) (alike_fine (held_by q s c b x) (held_alike b x is_x)) own_lines (window_is_behind q s can.system can.nested d leads.0 leads.1 c b listed bridge leads.2) y at).spared in
            let top = spared.high in
            let its = is_x.size in
            let most = low_enough (omega (arith, top, its, spot)) in
            above d leads (held_by q s c b x) (held_by q s c b e) (held_alike b x is_x) (held_alike b e is_e) y at (omega (arith, most, spot))

        over : Above → (o : Option Function) → bridge_over s b.slot.bus ≡ o → option_map (opened_at q s c b x) (with_bridge (λ d. spared_within q s c 256 d (held_by q s c b x) own_lines k) o) ≡ Some found → is_some (with_bridge (λ d. spared_within q s c 256 d (held_by q s c b e) own_lines k) o) ≡ true
        over above None at is = absurd (let no : ⊥ = cc in no)
        over above (Some d) at is = behind above d (over_leads s b.slot.bus d at) (spared_within q s c 256 d (held_by q s c b x) own_lines k) refl is

        place_above : Above → (y : Bool) → option_map (opened_at q s c b x) (cond y (option_map (λ at. spared_with at k) (first_place (class_ranges q c b.slot.bus) (own_lines ++ taken_then q s k (window_space c) b.slot.bus) (held_by q s c b x)))
            (with_bridge (λ d. spared_within q s c 256 d (held_by q s c b x) own_lines k) (bridge_over s b.slot.bus))) ≡ Some found
            → is_some (cond y (option_map (λ at. spared_with at k) (first_place (class_ranges q c b.slot.bus) (own_lines ++ taken_then q s k (window_space c) b.slot.bus) (held_by q s c b e)))
            (with_bridge (λ d. spared_within q s c 256 d (held_by q s c b e) own_lines k) (bridge_over s b.slot.bus))) ≡ true
        place_above above true is =
            some_map (λ at. spared_with at k) (first_place (class_ranges q c b.slot.bus) (own_lines ++ taken_then q s k (window_space c) b.slot.bus) (held_by q s c b e))
            ∙ on_root (first_place (class_ranges q c b.slot.bus) (own_lines ++ taken_then q s k (window_space c) b.slot.bus) (held_by q s c b x)) refl is
        place_above above false is = over above (bridge_over s b.slot.bus) refl is

        closed : Above → (t : Bool) → cond t (option_map (opened_at q s c b x) (spared_above q s c (spared_within q s c 256) b (held_by q s c b x) k)) None ≡ Some found
            → is_some (cond t (option_map (opened_at q s c b e) (spared_above q s c (spared_within q s c 256) b (held_by q s c b e) k)) None) ≡ true
        closed above false is = absurd (let no : ⊥ = cc in no)
        closed above true is = some_map (opened_at q s c b e) (spared_above q s c (spared_within q s c 256) b (held_by q s c b e) k) ∙ place_above above (is_root q.roots b.slot.bus) is

        by : (o : Option Range) → range_then q s k (window_part c b) ≡ o → spared_if q s c (spared_within q s c 256) b x lines k o ≡ Some found → Above → is_some (spared_if q s c (spared_within q s c 256) b e lines k o) ≡ true
        by None none is above = closed above (has_window c b.probe && not (is_fixed_part q (window_part c b))) is
        by (Some w) ends is above =
            open_at w (nat_le (range_from (spot_behind q s c b x lines k w) x.size).last x.highest) (ending_within q s c 256 b (range_from (spot_behind q s c b x lines k w) x.size).last k) refl is

  -- ---- once more is kept free

  module _ (k j : Kept) (can : CanSettle q s k) (next : CanSettle q s j) (keeps : KeepsAll q s k j) (changes : Changes q s c can.system can.nested spare k j) where
    at_parts : (t : Bool) (a : ℕ) (o : Option Kept) → is_some (cond t (option_map (spared_with a) o) None) ≡ true → (t ≡ true) × (is_some o ≡ true)
    at_parts true a (Some i) is = (refl, refl)
    at_parts true a None is = absurd (both_ways false refl is)
    at_parts false a o is = absurd (both_ways false refl is)

    parts_at : (t : Bool) (a : ℕ) (o : Option Kept) → t ≡ true → is_some o ≡ true → is_some (cond t (option_map (spared_with a) o) None) ≡ true
    parts_at true a (Some i) so some = refl
    parts_at true a None so some = absurd (both_ways false refl some)
    parts_at false a o so some = absurd (both_ways false refl so)

    module _ (b : Function) (listed : Contains s b) (bridge : is_bridge b ≡ true) (e : Extent) (alike : AreAlike e spare) (lines : List Range) where
      abbrev before : List Range
      before = lines ++ taken_then q s k (window_space c) (secondary b)

      abbrev later : List Range
      later = lines ++ taken_then q s j (window_space c) (secondary b)

      abbrev own_lines : List Range
      own_lines = lines_behind q (window_part c b)

      -- in an open window
      open_before : (w v : Range) → range_then q s k (window_part c b) ≡ Some w → v.first ≡ w.first → is_some (spared_at q s c b e j (spot_behind q s c b e lines j v)) ≡ true → is_some (spared_at q s c b e k (spot_behind q s c b e lines k w)) ≡ true
      open_before w v ends same is =
          let a = spot_behind q s c b e lines j v in
          let d = spot_behind q s c b e lines k w in
          let parts = at_parts (nat_le (range_from a e.size).last e.highest) a (ending_within q s c 256 b (range_from a e.size).last j) is in
          let high = leb-true (range_from a e.size).last e.highest parts.0 in
          let pos = (alike_fine e alike).aligned in
          let spot = spot_gives v.first later e a (least_spot v.first later e pos).free in
          let from = spot.from in
          let first : d ≤ a = (least_spot w.first before e pos).least a
          (spot_from w.first before e a record { multiple = spot.multiple; from = omega (arith, from, same); free = off_taken q s k j next keeps (window_space c) (secondary b) lines (range_from a e.size) spot.free }) in
          let could = ended_before q forward s c spare k j can next keeps changes (suc b.slot.bus) b listed bridge (omega arith) w ends (range_from a e.size).last parts.1 in
          parts_at (nat_le (range_from d e.size).last e.highest) d (ending_within q s c 256 b (range_from d e.size).last k)
          (le-leb (range_from d e.size).last e.highest (omega (arith, high, first)))
          (ends_before q forward s c (suc b.slot.bus) k can b listed bridge (omega arith) (range_from a e.size).last (range_from d e.size).last (omega (arith, first)) could)

      -- in a closed one
      root_before : is_some (first_place (class_ranges q c b.slot.bus) (own_lines ++ taken_then q s j (window_space c) b.slot.bus) (held_by q s c b e)) ≡ true → is_some (first_place (class_ranges q c b.slot.bus) (own_lines ++ taken_then q s k (window_space c) b.slot.bus) (held_by q s c b e)) ≡ true
      root_before = by (first_place ranges then held) refl
        where
          ranges : List Range
          ranges = class_ranges q c b.slot.bus

          then : List Range
          then = own_lines ++ taken_then q s j (window_space c) b.slot.bus

          held : Extent
          held = held_by q s c b e

          by : (o : Option ℕ) → first_place ranges then held ≡ o → is_some o ≡ true → is_some (first_place ranges (own_lines ++ taken_then q s k (window_space c) b.slot.bus) held) ≡ true
          by None at is = absurd (both_ways false refl is)
          by (Some a) at is =
              let pos = (alike_fine e alike).aligned in
              let there = some_place ranges then held a ((first_is ranges then held a pos).0 at) in
              let place = place_gives there.0 then held a there.2 in
              place_some ranges (own_lines ++ taken_then q s k (window_space c) b.slot.bus) held a there.0 pos there.1
              (place_from there.0 (own_lines ++ taken_then q s k (window_space c) b.slot.bus) held a record {
                multiple = place.multiple;
                from = place.from;
                free = off_taken q s k j next keeps (window_space c) b.slot.bus own_lines (range_from a e.size) place.free;
                last = place.last;
                highest = place.highest;
              })

      module _ (rest : (d : Function) → LeadsTo s d b.slot.bus → (y : Extent) → AreAlike y spare → is_some (spared_within q s c 256 d y own_lines j) ≡ true → is_some (spared_within q s c 256 d y own_lines k) ≡ true) where
        over_before : (o : Option Function) → bridge_over s b.slot.bus ≡ o → is_some (with_bridge (λ d. spared_within q s c 256 d (held_by q s c b e) own_lines j) o) ≡ true → is_some (with_bridge (λ d. spared_within q s c 256 d (held_by q s c b e) own_lines k) o) ≡ true
        over_before None at is = absurd (both_ways false refl is)
        over_before (Some d) at is = rest d (over_leads s b.slot.bus d at) (held_by q s c b e) (held_alike b e alike) is

        above_before : (y : Bool)
            → is_some (cond y (option_map (λ at. spared_with at j) (first_place (class_ranges q c b.slot.bus) (own_lines ++ taken_then q s j (window_space c) b.slot.bus) (held_by q s c b e))) (with_bridge (λ d. spared_within q s c 256 d (held_by q s c b e) own_lines j) (bridge_over s b.slot.bus))) ≡ true
            → is_some (cond y (option_map (λ at. spared_with at k) (first_place (class_ranges q c b.slot.bus) (own_lines ++ taken_then q s k (window_space c) b.slot.bus) (held_by q s c b e))) (with_bridge (λ d. spared_within q s c 256 d (held_by q s c b e) own_lines k) (bridge_over s b.slot.bus))) ≡ true
        above_before true is =
            some_map (λ at. spared_with at k) (first_place (class_ranges q c b.slot.bus) (own_lines ++ taken_then q s k (window_space c) b.slot.bus) (held_by q s c b e))
            ∙ root_before (sym (some_map (λ at. spared_with at j) (first_place (class_ranges q c b.slot.bus) (own_lines ++ taken_then q s j (window_space c) b.slot.bus) (held_by q s c b e))) ∙ is)
        above_before false is = over_before (bridge_over s b.slot.bus) refl is

        closed_before : (t : Bool) → is_some (cond t (option_map (opened_at q s c b e) (spared_above q s c (spared_within q s c 256) b (held_by q s c b e) j)) None) ≡ true
            → is_some (cond t (option_map (opened_at q s c b e) (spared_above q s c (spared_within q s c 256) b (held_by q s c b e) k)) None) ≡ true
        closed_before false is = absurd (both_ways false refl is)
        closed_before true is =
            some_map (opened_at q s c b e) (spared_above q s c (spared_within q s c 256) b (held_by q s c b e) k)
            ∙ above_before (is_root q.roots b.slot.bus) (sym (some_map (opened_at q s c b e) (spared_above q s c (spared_within q s c 256) b (held_by q s c b e) j)) ∙ is)

        at_both : (o n : Option Range) → range_then q s k (window_part c b) ≡ o → range_then q s j (window_part c b) ≡ n → Change q s c can.system can.nested spare k j b
            → is_some (spared_if q s c (spared_within q s c 256) b e lines j n) ≡ true → is_some (spared_if q s c (spared_within q s c 256) b e lines k o) ≡ true
        at_both None None ends then change is = closed_before (has_window c b.probe && not (is_fixed_part q (window_part c b))) is
        at_both (Some w) None ends then (Same same) is = (let no_w : None ≡ Some w = sym then ∙ same ∙ ends in absurd (let no : ⊥ = cc in no))
        at_both (Some w) None ends then (Longer u last at after more could) is = (let no_w : None ≡ Some (ending_at u (end_over c u last)) = sym then ∙ after in absurd (let no : ⊥ = cc in no))
        at_both (Some w) None ends then (Opened x over found like at after could) is = (let no_w : None ≡ Some w = sym at ∙ ends in absurd (let no : ⊥ = cc in no))
        at_both (Some w) (Some v) ends then (Same same) is =
            let one : Some v ≡ Some w = sym then ∙ same ∙ ends in
            open_before w v ends (let e : v.first ≡ w.first = cc in e) is
        at_both (Some w) (Some v) ends then (Longer u last at after more could) is =
            let one : Some v ≡ Some (ending_at u (end_over c u last)) = sym then ∙ after in
            let two : Some u ≡ Some w = sym at ∙ ends in
            let first : v.first ≡ u.first = cc in
            let second : u.first ≡ w.first = cc in
            open_before w v ends (first ∙ second) is
        at_both (Some w) (Some v) ends then (Opened x over found like at after could) is = (let no_w : None ≡ Some w = sym at ∙ ends in absurd (let no : ⊥ = cc in no))
        at_both None (Some v) ends then (Same same) is = (let no_v : Some v ≡ None = sym then ∙ same ∙ ends in absurd (let no : ⊥ = cc in no))
        at_both None (Some v) ends then (Longer u last at after more could) is = (let no_u : None ≡ Some u = sym ends ∙ at in absurd (let no : ⊥ = cc in no))
        at_both None (Some v) ends then (Opened x over found like at after could) is =
            let one : Some v ≡ Some (range_from found.at x.size) = sym then ∙ after in
            let first : v.first ≡ found.at = cc in
            let a = spot_behind q s c b e lines j v in
            let parts = at_parts (nat_le (range_from a e.size).last e.highest) a (ending_within q s c 256 b (range_from a e.size).last j) is in
            let high = leb-true (range_from a e.size).last e.highest parts.0 in
            let from = (spot_gives v.first later e a (least_spot v.first later e (alike_fine e alike).aligned).free).from in
            let size = alike.size in
            ap (λ o. is_some (spared_if q s c (spared_within q s c 256) b e over k o)) (sym ends)
            ∙ sym (ap is_some (spared_by_bus q s c can.system can.nested b listed e over k))
            ∙ room_for_like k can (suc b.slot.bus) b listed bridge (omega arith) x e like alike over found could (omega (arith, high, from, first, size))

    -- The law: what has room once more is kept free had room before.
    pub room_before : (n : ℕ) (b : Function) → Contains s b → is_bridge b ≡ true → b.slot.bus < n → (e : Extent) → AreAlike e spare → (lines : List Range) → is_some (spared_within q s c 256 b e lines j) ≡ true → is_some (spared_within q s c 256 b e lines k) ≡ true
    room_before zero b listed bridge low e alike lines is = absurd (let no : ⊥ = omega (arith, low) in no)
    room_before (suc n) b listed bridge low e alike lines is =
        ap is_some (spared_by_bus q s c can.system can.nested b listed e lines k)
        ∙ at_both b listed bridge e alike lines
        (λ d leads y like some. (let below = lower q s c can.system can.nested spare d b.slot.bus leads in room_before n d leads.0 leads.1 (omega (arith, below, low)) y like (lines_behind q (window_part c b)) some))
        (range_then q s k (window_part c b)) (range_then q s j (window_part c b)) refl refl (changes b listed bridge)
        (sym (ap is_some (spared_by_bus q s c next.system next.nested b listed e lines j)) ∙ is)
