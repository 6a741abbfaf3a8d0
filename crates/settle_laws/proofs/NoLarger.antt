-- A new window is no larger than planning's, and its alignment divides that.
use Rattle.std.proofs.Common.{◌≡◌, ◌&&◌, ℕ, zero, suc, ◌+◌, ◌*◌, ◌%◌, ◌^◌, ◌≤◌, List, [], map, Bool, true, false, cond, arith, refl, sym, ◌∙◌, ap, subst, None, Some}
use Rattle.std.specs.Bool.{nat_lt}
use Rattle.std.specs.List.{Contains, flat_map, list_any, sum_by}
use Rattle.pci_spec.specs.Slot.{same_slot}
use Rattle.std.proofs.lemmas.Bool.{false_from_ne_true, both_ways}
use Rattle.std.proofs.lemmas.List.Sums.{sum-map}
use Rattle.pci_spec.specs.Window.{WindowKind, page_size}
use Rattle.pci_spec.specs.System.{System, Function, IsSystem, Part, Bar, Rom, Window, is_bridge, is_window}
use Rattle.pci_spec.specs.Bus.{is_root, are_siblings, secondary, IsNested}
use Rattle.pci_spec.proofs.Members.{in_nil, in_map_to, in_map_from, IsMade}
use Rattle.plan_spec.specs.Plan.{Pools, class_of}
use Rattle.plan_spec.specs.Planning.Placing.{IsPower}
use Rattle.plan_spec.specs.Planning.Table.{need_behind, size_in}
use Rattle.plan_spec.proofs.Planning.Needed.{contained_le_sum}
use Rattle.plan_spec.proofs.Planning.Placement.{mod_of_multiple, power_multiple, power_pos, step_power, window_least}
use Rattle.plan_spec.proofs.Planning.Room.{raised}
use Rattle.plan_spec.proofs.Planning.Safe.{slots_of, order_of}
use Rattle.plan_spec.proofs.Planning.Sizes.{sum_on_bus}
use Rattle.plan_spec.proofs.Planning.Tallies.{greatest_least}
use Rattle.settle_spec.specs.FirstPlace.{Extent}
use Rattle.settle_spec.specs.Lists.{Request, wanted_in}
use Rattle.settle_spec.specs.Spares.{spare_extent, with_spare}
use Rattle.settle_spec.specs.Parts.{FunctionPart, class_in}
use Rattle.settle_spec.specs.Items.{PlacingItem, items_of, bus_items, nothing, laid_out, end_of, highest_in, extent_around, window_around, new_window}
use Rattle.settle_spec.proofs.Nested.{at_secondary, is_no_root, on_it}
use Rattle.settle_spec.proofs.NewWindows.{window_is_around}
use Rattle.settle_laws.proofs.ItemForms.{extent_by, IsPlaceable, IsOwnPart, IsNewWindow, IsItemOf, items_are, own_power, new_window_power}
use Rattle.settle_laws.proofs.OneByOne.{IsSetAside, AreSetAside, laid_ends}
use Rattle.settle_laws.proofs.PlannedSizes.{planned, items_below}
use Rattle.settle_laws.proofs.TurnFalls.{turn_falls}

module _ (q : Request) (s : System) (pools : Pools) (c : WindowKind) (system : IsSystem s) (nested : IsNested q.roots s)
    (classes : (f : Function) (p : Part) → class_in q s f p ≡ class_of s pools f p)
    (small : (b : Function) → Contains s b → is_bridge b ≡ true → need_behind s pools c b ≤ 2 ^ 65) where
  abbrev size : PlacingItem → ℕ
  size i = planned s pools c i

  own_aside : (f : Function) (p : Part) → is_window p ≡ false → IsSetAside (extent_by (new_window q s) f p) (size_in s pools c f p)
  own_aside f (Bar n) plain = let power = own_power (new_window q s) f (Bar n) plain in record { power = power; aligned = power; even = omega arith; holds = omega arith }
  own_aside f Rom plain = let power = own_power (new_window q s) f Rom plain in record { power = power; aligned = power; even = omega arith; holds = omega arith }
  own_aside f (Window kind) plain = absurd (both_ways true plain refl)

  -- an item's place is set aside, where that of windows is
  pub item_aside : (bus : ℕ) (i : PlacingItem) → IsItemOf q s (new_window q s) c bus i
      → ((b : Function) → Contains s b → is_bridge b ≡ true → are_siblings q.roots bus b.slot.bus ≡ true → IsSetAside (new_window q s c b) (size_in s pools c b (Window c)))
      → IsSetAside i.extent (size i)
  item_aside bus i is windows = subst (λ (j : PlacingItem). IsSetAside j.extent (size j)) is.is (by is.can)
    where
      by : IsPlaceable q s c is.f is.p → IsSetAside (extent_by (new_window q s) is.f is.p) (size_in s pools c is.f is.p)
      by (IsOwnPart plain part) = own_aside is.f is.p plain
      by (IsNewWindow window bridge has) = subst (λ p. IsSetAside (extent_by (new_window q s) is.f p) (size_in s pools c is.f p)) (sym window) (windows is.f is.listed bridge is.beside)

  -- the items of a bus
  pub items_aside : (keeps : FunctionPart → Bool) (start bus : ℕ)
      → ((b : Function) → Contains s b → is_bridge b ≡ true → are_siblings q.roots bus b.slot.bus ≡ true → IsSetAside (new_window q s c b) (size_in s pools c b (Window c)))
      → ((i : PlacingItem) → Contains (bus_items q s c keeps (new_window q s c) bus) i → start % i.extent.alignment ≡ 0)
      → AreSetAside size start (bus_items q s c keeps (new_window q s c) bus)
  items_aside keeps start bus windows even = record {
    each = λ i listed. item_aside bus i (items_are q s (new_window q s) c keeps bus i listed) windows;
    even = even;
    falling = turn_falls (flat_map (λ f. cond (are_siblings q.roots bus f.slot.bus) (items_of q s c keeps (new_window q s c) f) []) s);
  }

  -- a window around items without a spare
  abbrev around_items : Function → List PlacingItem → Extent
  around_items b items = extent_around (page_size c) (highest_in c b.probe) (map (λ (i : PlacingItem). i.extent) items)

  -- one around items that are set aside
  around_aside : (b : Function) (items : List PlacingItem) → AreSetAside size 0 items → sum_by size items ≤ need_behind s pools c b → need_behind s pools c b ≤ 2 ^ 65
      → IsPower (around_items b items).alignment → IsSetAside (around_items b items) (size_in s pools c b (Window c))
  around_aside b items aside within less power =
      let least = window_least c (need_behind s pools c b) less in
      let n = size_in s pools c b (Window c) in
      let enough = least.enough in
      let steps = least.steps in
      let end = laid_ends size 0 [] items aside (λ t listed. absurd (in_nil t listed)) in
      let whole = raised (page_size c) (end_of (laid_out [] (map (λ (i : PlacingItem). i.extent) items))) (power_pos (page_size c) (step_power c)) in
      let pages = whole.least n (mod_of_multiple n (page_size c) (power_multiple n (page_size c) least.power (step_power c) steps)) (omega (arith, end, within, enough)) in
      let alignments = map (λ (e : Extent). e.alignment) (map (λ (i : PlacingItem). i.extent) items) in
      let total = sum-map size items in
      let most = greatest_least n alignments (λ x has.
      let e : IsMade (λ (e : Extent). e.alignment) (map (λ (i : PlacingItem). i.extent) items) x = in_map_to (λ (e : Extent). e.alignment) (map (λ (i : PlacingItem). i.extent) items) x has in
      let i : IsMade (λ (i : PlacingItem). i.extent) items e.from = in_map_to (λ (i : PlacingItem). i.extent) items e.from e.has in
      let fine = (aside.each i.from i.has).even in
      let one = contained_le_sum (map size items) (size i.from) (in_map_from size items i.from i.has) in
      let same : i.from.extent.alignment ≡ x = ap (λ (e : Extent). e.alignment) i.is ∙ e.is in
      omega (arith, fine, one, same, total, within, enough)) in
      record {
        power = least.power;
        aligned = power;
        even = omega (arith, most, steps);
        holds = pages;
      }

  no_rest : (m : ℕ) → 0 % m ≡ 0
  no_rest m = mod_of_multiple 0 m (0, let none : 0 ≡ 0 * m = omega arith in none)

  -- without slots no window has a spare
  module _ (none : q.slots ≡ []) where
    without_spare : (b : Function) (items : List PlacingItem) → window_around q c b items ≡ around_items b items
    without_spare b items = ap
        (λ slots. extent_around (page_size c) (highest_in c b.probe)
        (with_spare (cond (list_any (same_slot b.slot) slots && is_bridge b && nat_lt 0 (wanted_in q.spares c)) (Some (spare_extent c (wanted_in q.spares c) (highest_in c b.probe))) None)
        (map (λ (i : PlacingItem). i.extent) items))) none

    fits_by : (b : Function) → Contains s b → is_bridge b ≡ true
        → ((d : Function) → Contains s d → is_bridge d ≡ true → are_siblings q.roots (secondary b) d.slot.bus ≡ true → IsSetAside (new_window q s c d) (size_in s pools c d (Window c)))
        → IsSetAside (new_window q s c b) (size_in s pools c b (Window c))
    fits_by b listed bridge inner =
        let bus = secondary b in
        let items = bus_items q s c nothing (new_window q s c) bus in
        let around = window_is_around q s c system nested b listed bridge ∙ without_spare b items in
        let off : is_root q.roots bus ≡ false = false_from_ne_true (is_root q.roots bus) (is_no_root q.roots s system nested b bus listed bridge (at_secondary q.roots s system nested b bus listed bridge refl)) in
        let below = items_below q s pools c classes system nested small nothing (new_window q s c) bus in
        let same = sum_on_bus s pools c q.roots system nested bus off in
        let aside = items_aside nothing 0 bus inner (λ i has. no_rest i.extent.alignment) in
        subst (λ e. IsSetAside e (size_in s pools c b (Window c))) (sym around)
        (around_aside b items aside (omega (arith, below, same)) (small b listed bridge) (subst (λ (e : Extent). IsPower e.alignment) around (new_window_power q s c b)))

    windows_fit : (n : ℕ) (b : Function) → Contains s b → is_bridge b ≡ true → 256 ≤ secondary b + n → IsSetAside (new_window q s c b) (size_in s pools c b (Window c))
    windows_fit zero b listed bridge far = fits_by b listed bridge (λ d in_d is_d beside.
        let at = on_it q.roots s system nested b d.slot.bus listed bridge beside in
        let low = (slots_of s system d in_d).0 in
        absurd (let no : ⊥ = omega (arith, at, low, far) in no))
    windows_fit (suc n) b listed bridge far = fits_by b listed bridge (λ d in_d is_d beside.
        let at = on_it q.roots s system nested b d.slot.bus listed bridge beside in
        let up = order_of q.roots s nested d in_d is_d in
        windows_fit n d in_d is_d (omega (arith, at, up, far)))

    pub window_fits : (b : Function) → Contains s b → is_bridge b ≡ true → IsSetAside (new_window q s c b) (size_in s pools c b (Window c))
    window_fits b listed bridge = windows_fit 256 b listed bridge (omega arith)
