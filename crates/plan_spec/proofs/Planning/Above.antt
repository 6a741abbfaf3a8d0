-- The window that leads to a bus is placed before what is on the bus.
use Rattle.std.proofs.Common.{◌≡◌, ℕ, ◌<◌, inl, inr, List, ◌++◌, true, false, cond, arith, sym, ◌∙◌, ap, subst, length, get_or}
use Rattle.std.specs.Bool.{if◌then◌else◌}
use Rattle.std.specs.List.{Contains, sum}
use Rattle.std.specs.List.Sorted.{IsPermutation}
use Rattle.std.proofs.lemmas.Bool.{cases_Bool, lt-ltb}
use Rattle.std.proofs.lemmas.List.{get_or_default}
use Rattle.std.proofs.lemmas.List.Elements.{Contains-get_or}
use Rattle.std.proofs.lemmas.List.Sorted.{IsPermutation-sym, Contains-permutation}
use Rattle.std.proofs.lemmas.Nat.{pow_pos}
use Rattle.pci_spec.specs.Number.{lowest_one}
use Rattle.pci_spec.specs.Bar.{bar_at, is_io, whole_bar}
use Rattle.pci_spec.specs.Window.{WindowKind}
use Rattle.pci_spec.specs.Rom.{rom_at}
use Rattle.pci_spec.specs.System.{System, Function, IsSystem, is_bridge}
use Rattle.pci_spec.specs.Bus.{secondary, is_root, LeadsTo, IsNested}
use Rattle.plan_spec.specs.Plan.{Pools, sizes_in, window_size, limited, items_on}
use Rattle.plan_spec.specs.Place.{Item, window_item, own_items, start_of, place_of}
use Rattle.plan_spec.specs.Planning.Table.{need_behind}
use Rattle.plan_spec.specs.Planning.Sorted.{all_items, group_of, item_group, IsInOrder}
use Rattle.pci_spec.proofs.Members.{IsInPiece, in_map_from, in_flat_map_to, in_flat_map_from}
use Rattle.plan_spec.proofs.Planning.Safe.{order_of}
use Rattle.plan_spec.proofs.Planning.Needed.{contained_le_sum}
use Rattle.plan_spec.proofs.Planning.Behind.{behind_by_test}
use Rattle.plan_spec.proofs.Planning.Placement.{power_pos, window_least}
use Rattle.plan_spec.proofs.Planning.Starts.{start_of_window}
use Rattle.plan_spec.proofs.Planning.OwnItems.{of_bar, of_window, of_rom, own_cases, own_function, window_owned}
use Rattle.plan_spec.proofs.Planning.Places.{above_zero, earlier_by_group}
use Rattle.plan_spec.proofs.Planning.Sizes.{item_sizes, window_sizes, own_permutes}
use Rattle.plan_spec.proofs.Planning.Greatest.{size_on_from}

pub size_some : (s : System) (pools : Pools) (c : WindowKind) (f : Function) (i : Item) → Contains (own_items s pools c f) i → 0 < i.size
size_some s pools c f i own = elim (own_cases s pools c f i own) [
  | of_bar bar ↦ subst (λ (j : Item). 0 < j.size) bar.is (pow_pos (lowest_one (if is_io (bar_at f.probe bar.n) then 2 else 4) (whole_bar f.probe f.probe bar.n)))
  | of_rom rom ↦ subst (λ (j : Item). 0 < j.size) rom.is (pow_pos (lowest_one 0 (rom_at f.image f.probe)))
  | of_window window ↦
      let n = limited (need_behind s pools c f) in
      subst (λ (j : Item). 0 < j.size) window.is (power_pos (window_size c n) (window_least c n (omega arith)).power)
]

-- The bridge that leads to the bus of the k-th item: its window is before that item, and the bus starts there.
pub record HasWindowBefore (roots : List ℕ) (s : System) (pools : Pools) (c : WindowKind) (sorted : List Item) (k bus : ℕ) : Type 0 where
  pub bridge : Function
  pub listed : Contains s bridge
  pub is : is_bridge bridge ≡ true
  pub leads : secondary bridge ≡ bus
  pub j : ℕ
  pub before : j < k
  pub window : (d : Item) → get_or sorted j d ≡ window_item s pools c bridge
  pub starts_there : start_of roots s pools c bus ≡ place_of roots s pools c (window_item s pools c bridge)

module _ (roots : List ℕ) (s : System) (pools : Pools) (c : WindowKind) (system : IsSystem s) (nested : IsNested roots s) where
  -- an item makes need on its bus
  item_needed : (f : Function) (i : Item) → Contains s f → Contains (own_items s pools c f) i → 0 < sum (items_on s pools c f.slot.bus)
  item_needed f i listed own =
      let sizes = sizes_in s pools c f ++ window_sizes s pools c f in
      let size = in_map_from (λ (j : Item). j.size) (own_items s pools c f) i own in
      let there = Contains-permutation (item_sizes (own_items s pools c f)) sizes i.size (IsPermutation-sym sizes (item_sizes (own_items s pools c f)) (own_permutes s pools c roots system nested f listed)) size in
      let below = contained_le_sum (items_on s pools c f.slot.bus) i.size (size_on_from roots s pools c system nested f i.size listed there) in
      let some = size_some s pools c f i own in
      omega (arith, below, some)

  lower_group : (b f : Function) → Contains s b → Contains s f → is_bridge b ≡ true → secondary b ≡ f.slot.bus → is_root roots f.slot.bus ≡ false → group_of roots b.slot.bus < group_of roots f.slot.bus
  lower_group b f in_b in_f bridge leads off =
      let up = order_of roots s nested b in_b bridge in
      let some = above_zero roots s nested f in_f off in
      let here : group_of roots f.slot.bus ≡ f.slot.bus = ap (λ t. cond t 0 f.slot.bus) off in
      elim (cases_Bool (is_root roots b.slot.bus)) [
        | inl root ↦ (let e : group_of roots b.slot.bus ≡ 0 = ap (λ t. cond t 0 b.slot.bus) root in omega (arith, e, here, some))
        | inr other ↦ (let e : group_of roots b.slot.bus ≡ b.slot.bus = ap (λ t. cond t 0 b.slot.bus) other in omega (arith, e, here, up, leads))
      ]

  module _ (sorted : List Item) (same : IsPermutation (all_items s pools c) sorted) (ordered : IsInOrder roots sorted) where
    before_of : (k : ℕ) (d : Item) (f b : Function) → (get_or sorted k d).function ≡ f → Contains s f → is_root roots f.slot.bus ≡ false → 0 < sum (items_on s pools c f.slot.bus)
        → LeadsTo s b f.slot.bus → HasWindowBefore roots s pools c sorted k f.slot.bus
    before_of k d f b at_f listed off some leads =
        let need : 0 < need_behind s pools c b = subst (λ bus. 0 < sum (items_on s pools c bus)) (sym leads.2) some in
        let behind = behind_by_test roots s pools c system nested b leads.0 leads.1 ∙ lt-ltb 0 (need_behind s pools c b) need in
        let window = window_item s pools c b in
        let found = Contains-permutation (all_items s pools c) sorted window same (in_flat_map_from (own_items s pools c) s b window leads.0 (window_owned s pools c b leads.1 behind)) in
        let lower = lower_group b f leads.0 listed leads.1 leads.2 off in
        let at_k = ap (λ (g : Function). group_of roots g.slot.bus) at_f in
        let at_j = ap (item_group roots) found.2 in
        record {
          bridge = b;
          listed = leads.0;
          is = leads.1;
          leads = leads.2;
          j = found.0;
          before = earlier_by_group roots s nested pools c sorted same ordered found.0 k window d found.1 (omega (arith, lower, at_k, at_j));
          window = λ e. get_or_default sorted found.0 e window found.1 ∙ found.2;
          starts_there = ap (start_of roots s pools c) (sym leads.2) ∙ start_of_window roots s pools c nested system b leads.0 leads.1;
        }

    -- Where an item of the list stands on no root, the window of the bridge above it is before it in the list.
    pub window_before : (k : ℕ) (d : Item) → k < length sorted → is_root roots (get_or sorted k d).function.slot.bus ≡ false
        → HasWindowBefore roots s pools c sorted k (get_or sorted k d).function.slot.bus
    window_before k d l off =
        let i = get_or sorted k d in
        let has = Contains-permutation sorted (all_items s pools c) i (IsPermutation-sym (all_items s pools c) sorted same) (Contains-get_or sorted k d l) in
        let piece : IsInPiece (own_items s pools c) s i = in_flat_map_to (own_items s pools c) s i has in
        let f = piece.of in
        let at_f : i.function ≡ f = own_function s pools c f i piece.piece in
        let off_f = subst (λ (g : Function). is_root roots g.slot.bus ≡ false) at_f off in
        let one = nested.one f piece.has off_f in
        subst (λ (g : Function). HasWindowBefore roots s pools c sorted k g.slot.bus) (sym at_f) (before_of k d f one.0 at_f piece.has off_f (item_needed f i piece.has piece.piece) one.1)
