-- Before the first row is gone over tables tell of no part that it has grown.
use Rattle.std.proofs.Common.{◌≡◌, ℕ, ◌+◌, ◌*◌, ◌<◌, ◌⊎◌, inl, inr, List, length, get_or, Bool, true, false, arith, refl, ap, sym, ◌∙◌, Option, None, Some}
use Rattle.std.specs.Bool.{if◌then◌else◌}
use Rattle.std.specs.List.{Contains}
use Rattle.std.specs.Option.{option_map, is_some}
use Rattle.std.proofs.lemmas.Bool.{cases_Bool, cases_lt, and_parts, both_ways, false_from_ne_true}
use Rattle.std.proofs.lemmas.List.{get_or_past}
use Rattle.pci_spec.specs.Window.{IoWindow, MemoryWindow, PrefetchWindow}
use Rattle.pci_spec.specs.Decoded.{Range as DecodedRange}
use Rattle.pci_spec.specs.System.{System, Function, Part, Bar, Rom, Window, IsSystem, has_part, is_bridge}
use Rattle.pci_spec.specs.Bus.{is_root, IsNested}
use Rattle.plan_spec.proofs.Planning.Safe.{slots_of}
use Rattle.settle_spec.specs.Lists.{Request}
use Rattle.settle_spec.specs.Parts.{FunctionPart, system_parts, header_parts, addresses}
use Rattle.settle_spec.specs.Stands.{part_space, window_part, stands}
use Rattle.settle_spec.specs.Items.{has_room_behind}
use Rattle.settle_laws.proofs.ItemForms.{header_has}
use Rattle.settle_laws.specs.Order.{level}
use Rattle.settle_laws.proofs.Standing.{part_of, stands_by_itself, window_listed}
use Rattle.settle_laws.proofs.There.{stands_where_holds}
use Rattle.pci_base.specs.declared.range.Range.{Range}
use Rattle.pci_base.specs.declared.window_kind.ByKind.{ByKind}
use Rattle.pci_base.specs.Ranges.{decoded_range_of}
use Rattle.pci_kept.specs.Tables.{index_of, stands_in}
use Rattle.pci_kept.proofs.Indexes.{table_at}
use Rattle.pci_kept.proofs.Rooms.{part_there}
use Rattle.pci_first_fit.specs.declared.place.Places.{Places}
use Rattle.pci_first_fit.specs.PlaceTables.{part_place, no_place, placed, ArePlaceless}
use Rattle.pci_first_fit.specs.Tables.{untold}
use Rattle.pci_grow.specs.There.{Tables, by_class, grown_in, with_own, grown_told, there_told}
use Rattle.pci_grow.specs.Telling.{part_row_number, AreToldFrom, IsNothingGrown}
use Rattle.pci_grow.proofs.Ranked.{at_index}
use Rattle.pci_grow.proofs.Told.{row_high, level_root, level_off}
use Rattle.pci_grow.proofs.Untold.{at_untold}

none_in : (p : Part) (table : List (ByKind (Option Range))) (k : ℕ) → get_or table k untold ≡ untold → grown_in table k p ≡ None
none_in (Bar n) table k is = refl
none_in Rom table k is = refl
none_in (Window IoWindow) table k is = ap (λ (b : ByKind (Option Range)). option_map decoded_range_of (by_class b IoWindow)) is
none_in (Window MemoryWindow) table k is = ap (λ (b : ByKind (Option Range)). option_map decoded_range_of (by_class b MemoryWindow)) is
none_in (Window PrefetchWindow) table k is = ap (λ (b : ByKind (Option Range)). option_map decoded_range_of (by_class b PrefetchWindow)) is

no_places : (p : Part) → part_place no_place p ≡ None
no_places (Bar n) = refl
no_places Rom = refl
no_places (Window IoWindow) = refl
no_places (Window MemoryWindow) = refl
no_places (Window PrefetchWindow) = refl

at_placeless : (table : List Places) → ArePlaceless table → (k : ℕ) (p : Part) → placed table k p ≡ None
at_placeless table none k p = elim (cases_lt k (length table)) [
  | inl less ↦ none k no_place less p
  | inr past ↦ ap (λ (x : Places). part_place x p) (get_or_past table k no_place past) ∙ no_places p
]

module _ (q : Request) (s : System) (system : IsSystem s) (nested : IsNested q.roots s) (t : Tables) (begun : IsNothingGrown q s t) where
  grown_none : (r : FunctionPart) → grown_told s t r ≡ None
  grown_none r = none_in r.part t.grown (index_of s r.function.slot) (at_untold t.grown begun.untold (index_of s r.function.slot))

  there_kept : (r : FunctionPart) → there_told s t r ≡ (if stands_in s t.kept r then Some (addresses r) else None)
  there_kept r = ap (λ o. with_own o (stands_in s t.kept r) (addresses r)) (grown_none r)

  kept_is : (r : FunctionPart) → Contains s r.function → has_part r.function r.part ≡ true → stands_in s t.kept r ≡ has_room_behind q s r
  kept_is r listed there =
      let m = listed.0 in
      let at_m = at_index s r.function listed in
      table_at s system t.kept m r.function r.part at_m ∙ begun.holding.each m r.function r.part at_m there

  kept_off : (f : Function) (p : Part) → Contains s f → Contains (header_parts f) p → stands q s (record { function = f; part = p }) ≡ false → stands_in s t.kept (record { function = f; part = p }) ≡ false
  kept_off f (Window c) listed header off = false_from_ne_true (stands_in s t.kept (window_part c f)) (λ on.
      let opens = begun.holding.opens c f listed on in
      let bridge : is_bridge f ≡ true = (and_parts (is_bridge f) _ (and_parts _ _ opens).0).0 in
      both_ways (stands q s (window_part c f)) off (stands_where_holds q s (window_part c f) (sym (kept_is (window_part c f) listed bridge) ∙ on)))
  kept_off f (Bar n) listed header off =
      kept_is (record { function = f; part = Bar n }) listed (header_has f (Bar n) header refl)
      ∙ false_from_ne_true (has_room_behind q s (record { function = f; part = Bar n })) (λ holds. both_ways (stands q s (record { function = f; part = Bar n })) off (stands_where_holds q s (record { function = f; part = Bar n }) holds))
  kept_off f Rom listed header off =
      kept_is (record { function = f; part = Rom }) listed refl
      ∙ false_from_ne_true (has_room_behind q s (record { function = f; part = Rom })) (λ holds. both_ways (stands q s (record { function = f; part = Rom })) off (stands_where_holds q s (record { function = f; part = Rom }) holds))

  -- each row is of a bus below 256
  few_rows : (r : FunctionPart) → Contains (system_parts q s) r → part_row_number q r < 514
  few_rows r listed =
      let small = (slots_of s system r.function (part_of q s r listed).listed).0 in
      let high = row_high (level q r.function.slot.bus) (part_space r) in
      by (cases_Bool (is_root q.roots r.function.slot.bus)) small high
    where
      by : (is_root q.roots r.function.slot.bus ≡ true) ⊎ (is_root q.roots r.function.slot.bus ≡ false) → r.function.slot.bus < 256 → part_row_number q r < 2 * level q r.function.slot.bus + 2 → part_row_number q r < 514
      by (inl root) small high = let e = level_root q r.function.slot.bus root in omega (arith, high, e)
      by (inr off) small high = let e = level_off q r.function.slot.bus off in omega (arith, high, e, small)

  pub begun_told : AreToldFrom q s 514 t
  begun_told = record {
    kept = begun.holding.count;
    grown = begun.grown;
    places = begun.places;
    off = λ r listed header off. record { grown_is = grown_none r; there_is = there_kept r ∙ ap (λ b. if b then Some (addresses r) else None) (kept_off r.function r.part listed header off) };
    each = λ r listed stand is. absurd (let few = few_rows r listed in let no : ⊥ = omega (arith, is, few) in no);
    rest = λ r listed stand never. record {
      grown_is = grown_none r;
      there_is = there_kept r ∙ ap (λ b. if b then Some (addresses r) else None) (kept_is r (part_of q s r listed).listed (part_there q s r listed));
    };
    keeps = λ m g p at_m there.
        sym (table_at s system t.kept m g p at_m)
        ∙ sym (ap is_some (there_kept (record { function = g; part = p })) ∙ some_if (stands_in s t.kept (record { function = g; part = p })) (addresses (record { function = g; part = p })));
    around = λ c b r listed stand under is. absurd (let few = few_rows (window_part c b) (window_listed q s c b listed ((stands_by_itself q s nested).only (window_part c b) listed stand)) in let no : ⊥ = omega (arith, is, few) in no);
    unplaced = λ c b r listed under never. at_placeless t.places begun.placeless (index_of s r.function.slot) r.part;
  }
    where
      some_if : (b : Bool) (x : DecodedRange) → is_some (if b then Some x else None) ≡ b
      some_if true x = refl
      some_if false x = refl
