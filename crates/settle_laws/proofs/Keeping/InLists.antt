-- What ends on a root without wishes lies in a range of the lists that the root has.
use Rattle.std.proofs.Common.{◌≡◌, inl, inr, List, [], Bool, true, false, cond, sym, ◌∙◌, ap, subst, Some}
use Rattle.std.specs.List.{Contains}
use Rattle.std.proofs.lemmas.Bool.{cases_Bool}
use Rattle.std.proofs.lemmas.List.Elements.{Contains-append_cases}
use Rattle.pci_spec.specs.Decoded.{Range}
use Rattle.pci_spec.specs.Window.{WindowKind, IoWindow, MemoryWindow, PrefetchWindow}
use Rattle.pci_spec.specs.System.{System, Function, Memory, Part, has_part, space_of, window_space}
use Rattle.pci_spec.specs.Bus.{is_root}
use Rattle.pci_spec.proofs.Members.{in_nil}
use Rattle.plan_spec.specs.Planning.Layout.{IsInside}
use Rattle.plan_spec.proofs.Planning.Behind.{any_from}
use Rattle.settle_spec.specs.FirstPlace.{is_high}
use Rattle.settle_spec.specs.Lists.{Request, class_ranges}
use Rattle.settle_spec.specs.Parts.{FunctionPart, lies_within, bridge_over}
use Rattle.settle_spec.specs.Stands.{is_in_lists}
use Rattle.settle_spec.specs.Items.{PlacingItem, taken_by}
use Rattle.settle_spec.specs.Places.{placed_of, root_ranges, wide_ranges}
use Rattle.settle_spec.specs.Keeping.Places.{new_place, taken_at}
use Rattle.settle_spec.specs.Wishes.{place_then}
use Rattle.settle_laws.specs.Keeping.PlacesLaws.{CanSettle}
use Rattle.settle_laws.proofs.Keeping.BusPlaced.{placed_bus}
use Rattle.settle_laws.proofs.HeaderParts.{is_part_of}
use Rattle.settle_laws.proofs.InWindows.{place_inside}
use Rattle.settle_laws.proofs.Keeping.InWindows.{kept_range, placed_range, place_of_range}
use Rattle.settle_laws.proofs.PartClasses.{space_of_class}
use Rattle.settle_laws.proofs.Keeping.PartPlaces.{new_place_is}
use Rattle.settle_laws.proofs.Keeping.PlacedBus.{window_ranges, places}
use Rattle.settle_spec.specs.Kept.{Kept}
use Rattle.settle_laws.proofs.Keeping.Kept.{stays_listed}
use Rattle.settle_laws.proofs.InLists.{listed_in, within_from}

module _ (q : Request) (s : System) (k : Kept) (can : CanSettle q s k) where
  in_range_list : (i : PlacingItem) (u r : Range) → Contains (root_ranges q i) u → IsInside r u → is_in_lists q i.region.function.slot.bus r (window_space i.class) ≡ true
  in_range_list i u r has inside =
      let bus = i.region.function.slot.bus in
      let by = λ (c : WindowKind) (listed : Contains (class_ranges q c bus) u). listed_in q bus r c (any_from (lies_within r) (class_ranges q c bus) u listed (within_from r u inside)) in
      elim (Contains-append_cases (class_ranges q i.class bus) (cond (is_high i.extent) (wide_ranges q i.class bus) []) u has) [
        | inl own ↦ by i.class own
        | inr more ↦ wide i.class (if_wide (is_high i.extent) (wide_ranges q i.class bus) more) (λ listed. by PrefetchWindow listed)
      ]
    where
      if_wide : (w : Bool) (xs : List Range) → Contains (cond w xs []) u → Contains xs u
      if_wide true xs listed = listed
      if_wide false xs listed = absurd (in_nil u listed)

      wide : (c : WindowKind) → Contains (wide_ranges q c i.region.function.slot.bus) u → (Contains (class_ranges q PrefetchWindow i.region.function.slot.bus) u → is_in_lists q i.region.function.slot.bus r Memory ≡ true)
          → is_in_lists q i.region.function.slot.bus r (window_space c) ≡ true
      wide IoWindow listed by = absurd (in_nil u listed)
      wide MemoryWindow listed by = by listed
      wide PrefetchWindow listed by = absurd (in_nil u listed)

  -- The law: it lies in one of them.
  pub placed_on_root : (f : Function) (p : Part) (listed : Contains s f) (there : has_part f p ≡ true) → is_root q.roots f.slot.bus ≡ true → (u : Range) → place_then q s k record { function = f; part = p } ≡ Some u → is_in_lists q f.slot.bus u (space_of f p) ≡ true
  placed_on_root f p listed there root u ends = elim (cases_Bool (k.stays r)) [
    | inl keeps ↦
        let is : Some (k.range r) ≡ Some u = sym (kept_range q s k r keeps) ∙ ends in
        let same : k.range r ≡ u = cc in
        subst (λ w. is_in_lists q f.slot.bus w (space_of f p) ≡ true) same
        (can.sound.apart.lists r (stays_listed q s k can f p listed (is_part_of f p there).there keeps) keeps root)
    | inr moves_it ↦
        let x = place_of_range q s k (new_place q s k r) u (sym (placed_range q s k r moves_it) ∙ ends) in
        let is = new_place_is q s k can f p listed there x.0 x.1 in
        let here = placed_bus q s k can (space_of f p) f listed in
        let own = here.are.each x.0 (subst (λ xs. Contains xs x.0) (ap placed_of here.is) is.listed) in
        let bus : x.0.item.region.function.slot.bus ≡ f.slot.bus = ap (λ (i : PlacingItem). i.region.function.slot.bus) is.item in
        let class : window_space x.0.item.class ≡ space_of f p = ap (λ (i : PlacingItem). window_space i.class) is.item ∙ space_of_class q s f p in
        let in_list : Contains (root_ranges q x.0.item) own.0 = subst (λ rs. Contains rs own.0) (ap (λ b. cond b (root_ranges q x.0.item) (window_ranges q s k (places q s k can (space_of f p)) x.0.item.class (bridge_over s x.0.item.region.function.slot.bus))) (ap (is_root q.roots) bus ∙ root)) own.1 in
        let in_it = in_range_list x.0.item own.0 (taken_by x.0.item x.0.at) in_list (place_inside own.0 (taken_at q s k (space_of f p) f.slot.bus) x.0 own.2) in
        subst (λ w. is_in_lists q f.slot.bus w (space_of f p) ≡ true) x.2
        (subst (λ sp. is_in_lists q f.slot.bus (taken_by x.0.item x.0.at) sp ≡ true) class (subst (λ n. is_in_lists q n (taken_by x.0.item x.0.at) (window_space x.0.item.class) ≡ true) bus in_it))
  ]
    where
      r : FunctionPart
      r = record { function = f; part = p }
