-- What an item of a bus is: a BAR or ROM of a class, or a new window, and its region tells all of it.
use Rattle.std.proofs.Common.{◌≡◌, ℕ, ◌*◌, ◌%◌, ◌⊎◌, inl, inr, List, [], ◌∷◌, map, Bool, true, false, cond, ◌&&◌, not, arith, refl, sym, ◌∙◌, ap, subst, zero, suc, Option, None, Some}
use Rattle.std.specs.List.{Contains, filter, flat_map}
use Rattle.std.specs.Bool.{◌==◌, nat_lt, if◌then◌else◌}
use Rattle.std.proofs.lemmas.Bool.{and_from, both_ways, cond_both, lt-ltb}
use Rattle.std.proofs.lemmas.List.Elements.{Contains-append_cases, Contains-append_left, Contains-append_right}
use Rattle.std.proofs.Math.Nat.{pow-succ'}
use Rattle.std.proofs.lemmas.List.Sorted.{Contains-permutation}
use Rattle.pci_spec.specs.Number.{lowest_one}
use Rattle.pci_spec.specs.Slot.{slot_number}
use Rattle.pci_spec.specs.Header.{layout, bar_count}
use Rattle.pci_spec.specs.Bar.{bar_at, is_io, whole_bar}
use Rattle.pci_spec.specs.Rom.{rom_at}
use Rattle.pci_spec.specs.Window.{WindowKind, IoWindow, MemoryWindow, PrefetchWindow, page_size}
use Rattle.pci_spec.specs.System.{System, Function, IsSystem, Part, Bar, Rom, Window, has_part, is_bridge, is_window, register_of}
use Rattle.pci_spec.specs.Bus.{are_siblings, secondary}
use Rattle.pci_spec.proofs.Members.{in_nil, in_cons_cases, in_head, in_flat_map_from, in_map_to, in_map_from, IsMade, in_filter_from}
use Rattle.pci_spec.proofs.Nesting.{one_function}
use Rattle.pci_spec.proofs.Regions.{register_of-lt, part_same}
use Rattle.plan_spec.specs.Plan.{raised_to, same_class}
use Rattle.plan_spec.specs.Planning.Placing.{IsPower}
use Rattle.plan_spec.proofs.Planning.Placement.{step_power}
use Rattle.settle_spec.specs.FirstPlace.{Extent}
use Rattle.settle_spec.specs.Lists.{Request, wanted_in}
use Rattle.settle_spec.specs.Spares.{has_slot, doubled_in, spare_extent, with_spare}
use Rattle.settle_spec.specs.Parts.{FunctionPart, is_part, parts_of, header_parts, function_parts, class_in}
use Rattle.settle_spec.specs.Stands.{rank, window_part}
use Rattle.settle_spec.specs.Items.{PlacingItem, in_turn, own_extent, own_item, is_own, has_of, items_of, bus_items, highest_in, spare_of, window_around, window_within, new_window}
use Rattle.settle_spec.proofs.InTurn.{turn_same}
use Rattle.settle_spec.proofs.ItemsOn.{each_on}
use Rattle.settle_laws.proofs.HeaderParts.{part_cases}
use Rattle.settle_laws.proofs.Powers.{greatest_power}

pub header_has : (f : Function) (p : Part) → Contains (header_parts f) p → is_window p ≡ false → has_part f p ≡ true
header_has f p listed plain = elim (part_cases f p listed) [
  | inl bar ↦ subst (λ o. has_part f o ≡ true) bar.is (lt-ltb bar.n (bar_count (layout f.image)) bar.inside)
  | inr (inl window) ↦ absurd (both_ways true (ap is_window window.is ∙ plain) refl)
  | inr (inr rom) ↦ subst (λ o. has_part f o ≡ true) rom refl
]

-- the extent of a part, by how large new windows are
abbrev pub extent_by : (WindowKind → Function → Extent) → Function → Part → Extent
extent_by new f (Bar n) = own_extent (record { function = f; part = Bar n })
extent_by new f Rom = own_extent (record { function = f; part = Rom })
extent_by new f (Window kind) = new kind f

pub own_by_part : (new : WindowKind → Function → Extent) (f : Function) (p : Part) → is_window p ≡ false → own_extent (record { function = f; part = p }) ≡ extent_by new f p
own_by_part new f (Bar n) plain = refl
own_by_part new f Rom plain = refl
own_by_part new f (Window kind) plain = absurd (both_ways true plain refl)

pub own_power : (new : WindowKind → Function → Extent) (f : Function) (p : Part) → is_window p ≡ false → IsPower (extent_by new f p).alignment
own_power new f (Bar n) plain = (lowest_one (if is_io (bar_at f.probe n) then 2 else 4) (whole_bar f.probe f.probe n), refl)
own_power new f Rom plain = (lowest_one 0 (rom_at f.image f.probe), refl)
own_power new f (Window kind) plain = absurd (both_ways true plain refl)

-- the item of a part in a class
abbrev pub item_by : (WindowKind → Function → Extent) → WindowKind → Function → Part → PlacingItem
item_by new c f p = record { region = record { function = f; part = p }; class = c; extent = extent_by new f p }

-- a BAR or ROM that is looked at, or the window of a bridge with one of the class behind it
pub data IsPlaceable (q : Request) (s : System) (c : WindowKind) (f : Function) (p : Part) : Type 0 where
  IsOwnPart : (plain : is_window p ≡ false) → (part : is_part q s f p ≡ true) → IsPlaceable q s c f p
  IsNewWindow : (window : p ≡ Window c) → (bridge : is_bridge f ≡ true) → (has : has_of q s c f ≡ true) → IsPlaceable q s c f p

pub record IsItemOf (q : Request) (s : System) (new : WindowKind → Function → Extent) (c : WindowKind) (bus : ℕ) (i : PlacingItem) : Type 0 where
  pub f : Function
  pub p : Part
  pub listed : Contains s f
  pub beside : are_siblings q.roots bus f.slot.bus ≡ true
  pub there : has_part f p ≡ true
  pub class : class_in q s f p ≡ c
  pub is : item_by new c f p ≡ i
  pub can : IsPlaceable q s c f p

module _ (q : Request) (s : System) (new : WindowKind → Function → Extent) (c : WindowKind) (keeps : FunctionPart → Bool) (bus : ℕ) where
  abbrev kept : FunctionPart → Bool
  kept r = is_own q s c r && not (keeps r)

  abbrev opens : Function → Bool
  opens f = is_bridge f && has_of q s c f && not (keeps (window_part c f))

  abbrev window : Function → PlacingItem
  window f = record { region = window_part c f; class = c; extent = new c f }

  abbrev own : Function → List PlacingItem
  own f = map (own_item c) (filter kept (function_parts q s f))

  abbrev later : Function → List PlacingItem
  later f = cond (opens f) (window f ∷ []) []

  pub items_are : (i : PlacingItem) → Contains (bus_items q s c keeps (new c) bus) i → IsItemOf q s new c bus i
  items_are = each_on q s c keeps (new c) bus (IsItemOf q s new c bus)
      (λ f on p is. record {
        f = f;
        p = p;
        listed = on.listed;
        beside = on.beside;
        there = header_has f p is.there is.plain;
        class = is.class;
        is = ap (λ e. record { region = record { function = f; part = p }; class = c; extent = e }) (sym (own_by_part new f p is.plain));
        can = IsOwnPart is.plain is.part;
      })
      (λ f on is. record {
        f = f;
        p = Window c;
        listed = on.listed;
        beside = on.beside;
        there = is.bridge;
        class = refl;
        is = refl;
        can = IsNewWindow refl is.bridge is.has;
      })

  abbrev on_bus : Function → List PlacingItem
  on_bus f = cond (are_siblings q.roots bus f.slot.bus) (items_of q s c keeps (new c) f) []

  put : (f : Function) (i : PlacingItem) → Contains s f → are_siblings q.roots bus f.slot.bus ≡ true → Contains (items_of q s c keeps (new c) f) i → Contains (bus_items q s c keeps (new c) bus) i
  put f i listed beside has =
      let all = flat_map on_bus s in
      Contains-permutation all (in_turn all) i (turn_same all)
      (in_flat_map_from on_bus s f i listed (subst (λ b. Contains (cond b (items_of q s c keeps (new c) f) []) i) (sym beside) has))

  -- each part of the class that isn't kept is an item
  pub own_in : (f : Function) (p : Part) → Contains s f → are_siblings q.roots bus f.slot.bus ≡ true → Contains (header_parts f) p → is_part q s f p ≡ true → is_window p ≡ false → class_in q s f p ≡ c
      → keeps record { function = f; part = p } ≡ false → Contains (bus_items q s c keeps (new c) bus) (item_by new c f p)
  own_in f p listed beside there part plain class moves =
      let r : FunctionPart = record { function = f; part = p } in
      let same : same_class c (class_in q s f p) ≡ true = ap (same_class c) class ∙ itself c in
      put f (item_by new c f p) listed beside
      (Contains-append_left (own f) (later f) (item_by new c f p)
      (subst (λ e. Contains (own f) (record { region = r; class = c; extent = e })) (own_by_part new f p plain)
      (in_map_from (own_item c) (filter kept (function_parts q s f)) r
      (in_filter_from kept (function_parts q s f) r (in_map_from (λ p. record { function = f; part = p }) (parts_of q s f) p (in_filter_from (is_part q s f) (header_parts f) p there part))
      (and_from (is_own q s c r) (not (keeps r)) (and_from (not (is_window p)) (same_class c (class_in q s f p)) (ap not plain) same) (ap not moves))))))
    where
      itself : (d : WindowKind) → same_class d d ≡ true
      itself IoWindow = refl
      itself MemoryWindow = refl
      itself PrefetchWindow = refl

  pub window_in : (f : Function) → Contains s f → are_siblings q.roots bus f.slot.bus ≡ true → is_bridge f ≡ true → has_of q s c f ≡ true → keeps (window_part c f) ≡ false
      → Contains (bus_items q s c keeps (new c) bus) (item_by new c f (Window c))
  window_in f listed beside bridge has moves =
      let now : opens f ≡ true = and_from (is_bridge f && has_of q s c f) (not (keeps (window_part c f))) (and_from (is_bridge f) (has_of q s c f) bridge has) (ap not moves) in
      put f (item_by new c f (Window c)) listed beside
      (Contains-append_right (own f) (later f) (window f) (subst (λ b. Contains (cond b (window f ∷ []) []) (window f)) (sym now) (in_head (window f) [])))

  -- and none that is
  pub item_moves : (i : PlacingItem) → Contains (bus_items q s c keeps (new c) bus) i → keeps i.region ≡ false
  item_moves = each_on q s c keeps (new c) bus (λ i. keeps i.region ≡ false) (λ f on p is. is.moves) (λ f on is. is.moves)

-- ---- alignments are powers of two

-- those of items, where those of windows are
pub item_power : (q : Request) (s : System) (new : WindowKind → Function → Extent) (c : WindowKind) (bus : ℕ) (i : PlacingItem) → ((b : Function) → IsPower (new c b).alignment) → IsItemOf q s new c bus i → IsPower i.extent.alignment
item_power q s new c bus i power is = subst (λ (j : PlacingItem). IsPower j.extent.alignment) is.is (by is.can)
  where
    by : IsPlaceable q s c is.f is.p → IsPower (extent_by new is.f is.p).alignment
    by (IsOwnPart plain part) = own_power new is.f is.p plain
    by (IsNewWindow window bridge has) = subst (λ o. IsPower (extent_by new is.f o).alignment) (sym window) (power is.f)

-- that of a spare
pub doubled_power : (n times size : ℕ) → IsPower size → IsPower (doubled_in n times size)
unfolding doubled_in
doubled_power n zero size power = power
doubled_power n (suc times) size (k, is) =
    cond_both (n % (2 * size) == 0) (doubled_in n times (2 * size)) size IsPower
    (λ even. doubled_power n times (2 * size) (suc k, ap (λ m. 2 * m) is ∙ sym (pow-succ' 2 k))) (λ odd. (k, is))

abbrev alignment_or : Option Extent → ℕ
alignment_or None = 1
alignment_or (Some e) = e.alignment

spare_power : (q : Request) (c : WindowKind) (b : Function) → IsPower (alignment_or (spare_of q c b))
spare_power q c b =
    let spare = spare_extent c (wanted_in q.spares c) (highest_in c b.probe) in
    cond_both (has_slot q b && nat_lt 0 (wanted_in q.spares c)) (Some spare) None (λ o. IsPower (alignment_or o))
    (λ some. doubled_power (raised_to (page_size c) (wanted_in q.spares c)) 64 1 (0, refl)) (λ none. (0, refl))

-- and its highest address is the window's
abbrev pub highest_or : ℕ → Option Extent → ℕ
highest_or other None = other
highest_or other (Some e) = e.highest

pub spare_highest : (q : Request) (c : WindowKind) (b : Function) → highest_or (highest_in c b.probe) (spare_of q c b) ≡ highest_in c b.probe
spare_highest q c b =
    cond_both (has_slot q b && nat_lt 0 (wanted_in q.spares c)) (Some (spare_extent c (wanted_in q.spares c) (highest_in c b.probe))) None
    (λ o. highest_or (highest_in c b.probe) o ≡ highest_in c b.probe) (λ some. refl) (λ none. refl)

-- what is laid out is an extent, or the spare behind all
pub with_spare_cases : (o : Option Extent) (extents : List Extent) (e : Extent) → Contains (with_spare o extents) e → Contains extents e ⊎ (o ≡ Some e)
with_spare_cases None extents e has = inl has
with_spare_cases (Some x) extents e has = elim (Contains-append_cases extents (x ∷ []) e has) [
  | inl before ↦ inl before
  | inr last ↦ elim (in_cons_cases x [] e last) [
    | inl is ↦ inr (ap Some is)
    | inr none ↦ absurd (in_nil e none)
  ]
]

pub in_with_spare : (o : Option Extent) (extents : List Extent) (e : Extent) → Contains extents e → Contains (with_spare o extents) e
in_with_spare None extents e has = has
in_with_spare (Some x) extents e has = Contains-append_left extents (x ∷ []) e has

module _ (q : Request) (s : System) where
  around_power : (c : WindowKind) (b : Function) (items : List PlacingItem) → ((i : PlacingItem) → Contains items i → IsPower i.extent.alignment) → IsPower (window_around q c b items).alignment
  around_power c b items each =
      let extents = map (λ (i : PlacingItem). i.extent) items in
      let all = with_spare (spare_of q c b) extents in
      greatest_power (page_size c) (map (λ (e : Extent). e.alignment) all) (step_power c)
      (λ x has.
      let e : IsMade (λ (e : Extent). e.alignment) all x = in_map_to (λ (e : Extent). e.alignment) all x has in
      elim (with_spare_cases (spare_of q c b) extents e.from e.has) [
        | inl own ↦
            let i : IsMade (λ (i : PlacingItem). i.extent) items e.from = in_map_to (λ (i : PlacingItem). i.extent) items e.from own in
            subst IsPower (ap (λ (e : Extent). e.alignment) i.is ∙ e.is) (each i.from i.has)
        | inr spare ↦ subst IsPower (ap alignment_or spare ∙ e.is) (spare_power q c b)
      ])

  window_power : (c : WindowKind) (keeps : FunctionPart → Bool) (depth : ℕ) (b : Function) → IsPower (window_within q s c depth b).alignment
  unfolding window_within
  window_power c keeps zero b = around_power c b [] (λ i has. absurd (in_nil i has))
  window_power c keeps (suc depth) b =
      around_power c b (bus_items q s c nothing_kept (window_within q s c depth) (secondary b))
      (λ i has. item_power q s (λ d. window_within q s c depth) c (secondary b) i (window_power c keeps depth) (items_are q s (λ d. window_within q s c depth) c nothing_kept (secondary b) i has))
    where
      nothing_kept : FunctionPart → Bool
      nothing_kept r = false

  pub new_window_power : (c : WindowKind) (b : Function) → IsPower (new_window q s c b).alignment
  new_window_power c b = window_power c (λ r. false) 256 b

  -- ---- the items of a space

  -- a rank names one item
  pub item_of_rank : IsSystem s → (c : WindowKind) (bus : ℕ) (i : PlacingItem) → IsItemOf q s (new_window q s) c bus i → (f : Function) (p : Part) → Contains s f → has_part f p ≡ true → rank i.region ≡ rank record { function = f; part = p }
      → i ≡ item_by (new_window q s) (class_in q s f p) f p
  item_of_rank system c bus i o f p listed there ranks =
      let own : rank record { function = o.f; part = o.p } ≡ rank record { function = f; part = p } = ap (λ (j : PlacingItem). rank j.region) o.is ∙ ranks in
      let low = register_of-lt o.f o.p o.there in
      let high = register_of-lt f p there in
      let slot : slot_number o.f.slot ≡ slot_number f.slot = omega (arith, own, low, high) in
      let one : o.f ≡ f = one_function s system o.f f o.listed listed slot in
      let register : register_of o.f o.p ≡ register_of f p = omega (arith, own, slot) in
      let part : o.p ≡ p = part_same f o.p p (subst (λ g. has_part g o.p ≡ true) one o.there) there (sym (ap (λ g. register_of g o.p) one) ∙ register) in
      sym o.is ∙ sym (ap (λ c. item_by (new_window q s) c o.f o.p) o.class) ∙ ap (λ g. item_by (new_window q s) (class_in q s g o.p) g o.p) one ∙ ap (λ o. item_by (new_window q s) (class_in q s f o) f o) part
