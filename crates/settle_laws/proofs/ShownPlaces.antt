-- A plan's registers show the places of its tables, so everything lies in its pool and in the windows above it, and apart.
use Rattle.std.proofs.Common.{◌≡◌, ◌&&◌, ℕ, ◌+◌, ◌-◌, ◌<◌, inl, inr, List, [], ◌∷◌, ◌++◌, map, true, false, cond, not, arith, refl, sym, ◌∙◌, ap, subst, None, Some}
use Rattle.std.specs.Bool.{nat_lt}
use Rattle.std.specs.List.{Contains, AllZip, range_with_len}
use Rattle.std.specs.List.Sorted.{IsStrictlyIncreasing}
use Rattle.std.proofs.lemmas.Bool.{and_from, and_parts, cases_Bool, eqb-true, ltb-true, not_from_false}
use Rattle.std.proofs.lemmas.List.Elements.{Contains-append_left, Contains-append_right}
use Rattle.pci_spec.specs.Header.{layout, bar_count}
use Rattle.pci_spec.specs.Bar.{has_bar}
use Rattle.pci_spec.specs.Rom.{has_rom}
use Rattle.pci_spec.specs.Window.{WindowKind, has_window, is_closed}
use Rattle.pci_spec.specs.Decoded.{Range, window_range}
use Rattle.pci_spec.specs.System.{System, Function, Part, Bar, Rom, Window, is_bridge, is_implemented, bars_and_rom}
use Rattle.pci_spec.proofs.Members.{in_head, in_tail, in_filter_from, in_map_from, in_range_from}
use Rattle.plan_spec.specs.Plan.{Pools, IsMoved, IsPlanned, class_of, has_behind, is_open, same_class, window_size}
use Rattle.plan_spec.specs.Place.{IsPlaced, first_of, part_item, place_of, range_from, window_item}
use Rattle.plan_spec.specs.Planning.Layout.{range_of, is_item, IsLaidOut}
use Rattle.plan_spec.specs.Planning.Numbers.{place_at}
use Rattle.plan_spec.specs.Planning.Plannable.{IsPlannable}
use Rattle.plan_spec.specs.Planning.Table.{need_behind, is_placed, size_in, IsShown, IsTable}
use Rattle.plan_spec.proofs.Planning.Classes.{class_stays}
use Rattle.plan_spec.proofs.Planning.LaidOut.{opening}
use Rattle.plan_spec.proofs.Planning.Moved.{bridge_same, layout_same}
use Rattle.plan_spec.proofs.Planning.NeededWindows.{needed_window}
use Rattle.plan_spec.proofs.Planning.NumbersFit.{is_decodable, is_function, need_same}
use Rattle.plan_spec.proofs.Planning.OtherRules.{has_rom_same}
use Rattle.plan_spec.proofs.Planning.PlacedItems.{same_class_is}
use Rattle.plan_spec.proofs.Planning.Planned.{has_behind_same}
use Rattle.plan_spec.proofs.Planning.Plannings.{tables_of_plannable}
use Rattle.plan_spec.proofs.Planning.Reach.{need_is_behind}
use Rattle.plan_spec.proofs.Planning.SameNeeds.{size_stays}
use Rattle.plan_spec.proofs.Planning.SamePlaces.{part_same, place_same, window_same}
use Rattle.plan_spec.proofs.Planning.Tables.{class_itself, laid_out_by_table}

-- of pairs what follows for each that is listed
zip_listed : (R Q : Function → Function → Type 0) (xs ys : List Function) → ((f g : Function) → Contains xs f → Contains ys g → R f g → Q f g) → AllZip R xs ys → AllZip Q xs ys
zip_listed R Q [] [] step pairs = tt
zip_listed R Q [] (y ∷ ys) step pairs = absurd pairs
zip_listed R Q (x ∷ xs) [] step pairs = absurd pairs
zip_listed R Q (x ∷ xs) (y ∷ ys) step (first, rest) =
    (step x y (in_head x xs) (in_head y ys) first, zip_listed R Q xs ys (λ f g in_f in_g. step f g (in_tail x xs f in_f) (in_tail y ys g in_g)) rest)

-- ---- implemented parts

bar_listed : (f : Function) (n : ℕ) → n < bar_count (layout f.image) → has_bar f.probe n ≡ true → Contains (bars_and_rom f) (Bar n)
bar_listed f n inside there =
    let bars = map Bar (range_with_len 0 (bar_count (layout f.image))) in
    in_filter_from (is_implemented f) (bars ++ Rom ∷ []) (Bar n)
    (Contains-append_left bars (Rom ∷ []) (Bar n) (in_map_from Bar (range_with_len 0 (bar_count (layout f.image))) n (in_range_from 0 (bar_count (layout f.image)) n (omega arith) (omega (arith, inside))))) there

rom_listed : (f : Function) → has_rom f.image f.probe ≡ true → Contains (bars_and_rom f) Rom
rom_listed f there =
    let bars = map Bar (range_with_len 0 (bar_count (layout f.image))) in
    in_filter_from (is_implemented f) (bars ++ Rom ∷ []) Rom (Contains-append_right bars (Rom ∷ []) Rom (in_head Rom [])) there

-- ---- windows with a range

pub record IsOpenAt (b : Function) (c : WindowKind) (r : Range) : Type 0 where
  pub is : range_of b (Window c) ≡ r
  pub opened : is_closed c b.image ≡ false

open_at : (b : Function) (c : WindowKind) (r : Range) → window_range c b.image ≡ Some r → IsOpenAt b c r
open_at b c r e = elim (cases_Bool (is_closed c b.image)) [
  | inl closed ↦
      let none : None ≡ Some r = sym (ap (λ x. cond x None (Some (range_of b (Window c)))) closed) ∙ e in
      cc
  | inr opened ↦
      let some : Some (range_of b (Window c)) ≡ Some r = sym (ap (λ x. cond x None (Some (range_of b (Window c)))) opened) ∙ e in
      let same : range_of b (Window c) ≡ r = cc in
      record { is = same; opened = opened }
]

module _ (roots : List ℕ) (s t : System) (pools : Pools) (p : IsPlannable roots s pools) (rising : IsStrictlyIncreasing roots) (planned : IsPlanned s t pools) (placed : IsPlaced roots t pools) where
  abbrev place : Function → Part → ℕ
  place f part = place_at roots s pools f part

  tables : (c : WindowKind) → IsTable roots s pools c (place_at roots s pools)
  tables c = tables_of_plannable roots s pools p rising c

  module _ (f g : Function) (in_f : Contains s f) (in_g : Contains t g) (m : IsMoved f g) where
    abbrev class : Part → WindowKind
    class part = class_of s pools f part

    -- ---- BARs and ROMs

    first_is : (part : Part) → Contains (bars_and_rom g) part → first_of g part ≡ place_of roots s pools (class part) (part_item f part)
    first_is part there =
        placed.parts g part in_g there
        ∙ ap (λ c. place_of roots t pools c (part_item g part)) (class_stays s t p.system planned.moved pools f g m part)
        ∙ place_same s t p.system planned.moved pools (class part) roots (part_item f part) (part_item g part) (part_same s t p.system planned.moved pools (class part) f g in_f m part)

    was_bar : (n : ℕ) → is_item g (Bar n) ≡ true → is_item f (Bar n) ≡ true
    was_bar n item =
        ap (λ k. nat_lt n (bar_count k) && has_bar f.probe n) (sym (layout_same f g m (is_function roots s pools p tables f in_f).image))
        ∙ ap (λ probe. nat_lt n (bar_count (layout g.image)) && has_bar probe n) (sym m.probe) ∙ item

    is_bar : (n : ℕ) → is_item f (Bar n) ≡ true → is_item g (Bar n) ≡ true
    is_bar n item =
        ap (λ k. nat_lt n (bar_count k) && has_bar g.probe n) (layout_same f g m (is_function roots s pools p tables f in_f).image)
        ∙ ap (λ probe. nat_lt n (bar_count (layout f.image)) && has_bar probe n) m.probe ∙ item

    bar_shows : (n : ℕ) → is_item f (Bar n) ≡ true → range_of g (Bar n) ≡ range_from (place f (Bar n)) (size_in s pools (class (Bar n)) f (Bar n))
    bar_shows n item =
        let parts = and_parts (nat_lt n (bar_count (layout g.image))) (has_bar g.probe n) (is_bar n item) in
        let first = first_is (Bar n) (bar_listed g n (ltb-true n (bar_count (layout g.image)) parts.0) parts.1) in
        let size = size_stays s t p.system planned.moved pools (class (Bar n)) f g in_f m (Bar n) in
        (λ i. range_from (first i) (size i))

    rom_shows : has_rom f.image f.probe ≡ true → range_of g Rom ≡ range_from (place f Rom) (size_in s pools (class Rom) f Rom)
    rom_shows there =
        let first = first_is Rom (rom_listed g (has_rom_same f g m (is_function roots s pools p tables f in_f).image ∙ there)) in
        let size = size_stays s t p.system planned.moved pools (class Rom) f g in_f m Rom in
        (λ i. range_from (first i) (size i))

    -- ---- windows

    is_now : is_bridge g ≡ is_bridge f
    is_now = bridge_same f g m (is_function roots s pools p tables f in_f).image

    behind_is : (c : WindowKind) → is_bridge f ≡ true → has_behind t pools c g ≡ nat_lt 0 (need_behind s pools c f)
    behind_is c bridge = has_behind_same s t p.system planned.moved pools c f g in_f m bridge ∙ need_is_behind roots s pools p (place_at roots s pools) tables f c in_f bridge

    window_there : (c : WindowKind) → is_bridge f ≡ true → nat_lt 0 (need_behind s pools c f) ≡ true → has_window c g.probe ≡ true
    window_there c bridge need =
        let d = is_decodable roots s pools p tables f in_f in
        ap (has_window c) m.probe
        ∙ needed_window roots s pools p.system p.nested p.can.windows c (λ b listed is. (tables c).small b listed is) f in_f bridge (d.windows c (eqb-true (layout f.image) 1 bridge)) (ltb-true 0 (need_behind s pools c f) need)

    window_shows : (c : WindowKind) → is_bridge f ≡ true → nat_lt 0 (need_behind s pools c f) ≡ true → IsOpenAt g c (range_from (place f (Window c)) (window_size c (need_behind s pools c f)))
    window_shows c bridge need =
        let same = window_same s t p.system planned.moved pools c f g in_f m bridge in
        let at = place_same s t p.system planned.moved pools c roots (window_item s pools c f) (window_item t pools c g) same in
        let size : (window_item t pools c g).size ≡ window_size c (need_behind s pools c f) = same.size ∙ ap (window_size c) (need_same roots s pools p tables f in_f c bridge) in
        open_at g c (range_from (place f (Window c)) (window_size c (need_behind s pools c f)))
        (placed.opened g c in_g (is_now ∙ bridge) (window_there c bridge need) (behind_is c bridge ∙ need) ∙ (λ i. Some (range_from (at i) (size i))))

    window_opens : (c : WindowKind) → is_bridge f ≡ true → nat_lt 0 (need_behind s pools c f) ≡ true → is_open g c ≡ true
    window_opens c bridge need =
        and_from (is_bridge g && has_window c g.probe) (not (is_closed c g.image)) (and_from (is_bridge g) (has_window c g.probe) (is_now ∙ bridge) (window_there c bridge need))
        (not_from_false (is_closed c g.image) (window_shows c bridge need).opened)

    -- ---- so the function shows its places, and nothing else

    record IsPlacedWindow (c kind : WindowKind) : Type 0 where
      bridge : is_bridge f ≡ true
      class_is : kind ≡ c
      need : nat_lt 0 (need_behind s pools c f) ≡ true

    placed_window : (c kind : WindowKind) → is_placed s pools c f (Window kind) ≡ true → IsPlacedWindow c kind
    placed_window c kind there =
        let outer = and_parts (is_bridge f && same_class c kind) (nat_lt 0 (need_behind s pools c f)) there in
        let inner = and_parts (is_bridge f) (same_class c kind) outer.0 in
        record { bridge = inner.0; class_is = same_class_is c kind inner.1; need = outer.1 }

    shows : (c : WindowKind) (part : Part) → is_placed s pools c f part ≡ true → range_of g part ≡ record { first = place f part; last = place f part + (size_in s pools c f part - 1) }
    shows c (Bar n) there = bar_shows n (and_parts (is_item f (Bar n)) (same_class c (class (Bar n))) there).0
    shows c Rom there = rom_shows (and_parts (is_item f Rom) (same_class c (class Rom)) there).0
    shows c (Window kind) there =
        let w = placed_window c kind there in
        subst (λ k. range_of g (Window k) ≡ record { first = place f (Window k); last = place f (Window k) + (window_size c (need_behind s pools c f) - 1) }) (sym w.class_is)
        (window_shows c w.bridge w.need).is

    only : (part : Part) → is_item g part ≡ true → is_placed s pools (class_of t pools g part) f part ≡ true
    only (Bar n) item =
        ap (λ c. is_placed s pools c f (Bar n)) (class_stays s t p.system planned.moved pools f g m (Bar n))
        ∙ and_from (is_item f (Bar n)) (same_class (class (Bar n)) (class (Bar n))) (was_bar n item) (class_itself (class (Bar n)))
    only Rom item = and_from (has_rom f.image f.probe) true (sym (has_rom_same f g m (is_function roots s pools p tables f in_f).image) ∙ item) refl
    only (Window c) opened =
        let is = opening g c opened in
        let bridge : is_bridge f ≡ true = sym is_now ∙ is.bridge in
        and_from (is_bridge f && same_class c c) (nat_lt 0 (need_behind s pools c f)) (and_from (is_bridge f) (same_class c c) bridge (class_itself c))
        (sym (behind_is c bridge) ∙ sym (planned.windows g c in_g is.bridge is.there) ∙ opened)

    function_shows : IsShown s t pools (place_at roots s pools) f g
    function_shows = record {
      moved = m;
      shows = shows;
      opens = λ c there. let w = placed_window c c there in window_opens c w.bridge w.need;
      only = only;
    }

  -- The law: everything lies in its pool or window, and apart.
  pub plan_is_laid_out : IsLaidOut roots t pools
  plan_is_laid_out =
      laid_out_by_table roots s t pools p.system p.nested (place_at roots s pools) (zip_listed IsMoved (IsShown s t pools (place_at roots s pools)) s t function_shows planned.moved) tables
