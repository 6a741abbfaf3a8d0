-- Registers that show the places of a table have everything in its place.
use Rattle.std.proofs.Common.{◌≡◌, ℕ, ◌+◌, ◌-◌, ◌%◌, ◌^◌, ◌<◌, ◌≤◌, ◌⊎◌, inl, inr, List, refl, true, ◌&&◌, arith, sym, ◌∙◌, ap, subst, map, length, get_or}
use Rattle.std.specs.Bool.{nat_lt, if◌then◌else◌}
use Rattle.std.specs.List.{Contains, AllZip, sum}
use Rattle.std.proofs.lemmas.Bool.{and_parts, and_from, cases_Bool, cases_order, both_ways, lt-ltb}
use Rattle.std.proofs.lemmas.List.{get_or-map, length-map}
use Rattle.std.proofs.lemmas.Nat.{pow_pos}
use Rattle.pci_spec.specs.Number.{lowest_one}
use Rattle.pci_spec.specs.Bar.{bar_at, is_io, whole_bar}
use Rattle.pci_spec.specs.Window.{WindowKind, IoWindow, MemoryWindow, PrefetchWindow}
use Rattle.pci_spec.specs.Rom.{rom_at}
use Rattle.pci_spec.specs.Slot.{Slot, same_slot}
use Rattle.pci_spec.specs.Header.{layout, rom_register}
use Rattle.pci_spec.specs.System.{System, Function, IsSystem, Part, Bar, Rom, Window, is_bridge, register_of}
use Rattle.pci_spec.specs.Bus.{secondary, LeadsTo, IsNested, is_root}
use Rattle.plan_spec.specs.Plan.{Pools, pool_of, same_class, items_on, class_of}
use Rattle.pci_spec.proofs.BusRanges.{root_means}
use Rattle.plan_spec.specs.Planning.Layout.{range_of, is_item, IsInside, LieApart, AreBeside, AreTwo, IsLaidOut}
use Rattle.plan_spec.specs.Planning.Placing.{starts, IsPlacedFrom}
use Rattle.plan_spec.specs.Planning.Room.{root_items}
use Rattle.plan_spec.specs.Planning.Table.{Item, need_behind, is_placed, size_in, size_at, IsOnSide, IsPlacedOn, IsTable, IsShown}
use Rattle.plan_spec.proofs.Planning.Kept.{images_of}
use Rattle.pci_spec.proofs.Pairs.{member_back}
use Rattle.pci_spec.proofs.SameSlot.{slot_itself}
use Rattle.plan_spec.proofs.Planning.Moved.{bridge_same, secondary_same, layout_same}
use Rattle.plan_spec.proofs.Planning.Placement.{placed, power_pos, window_least}
use Rattle.plan_spec.proofs.Planning.Needed.{needed, size_power}

pub class_itself : (c : WindowKind) → same_class c c ≡ true
class_itself IoWindow = refl
class_itself MemoryWindow = refl
class_itself PrefetchWindow = refl

pub register_same : (f g : Function) (p : Part) → layout g.image ≡ layout f.image → register_of g p ≡ register_of f p
register_same f g (Bar n) e = refl
register_same f g Rom e = ap rom_register e
register_same f g (Window kind) e = refl

-- ---- one place in a list

pub record IsAt (start size first total : ℕ) : Type 0 where
  pub low : start ≤ first
  pub high : first + size ≤ start + total
  pub multiple : first % size ≡ 0

module _ (s : System) (pools : Pools) (c : WindowKind) (first : Function → Part → ℕ) (Side : Function → Type 0) (total start : ℕ) (items : List Item)
    (on : IsPlacedOn (IsOnSide s pools c Side) (size_at s pools c) first total start items) where
  abbrev sizes : List ℕ
  sizes = map (size_at s pools c) items

  all_placed : IsPlacedFrom start sizes (starts start sizes)
  all_placed = placed start sizes on.falling (λ some. on.aligned (let l = length-map items (size_at s pools c) in omega (arith, l, some)))

  -- the place of a part
  record At (f : Function) (p : Part) : Type 0 where
    k : ℕ
    within : k < length items
    is : (d : Item) → get_or items k d ≡ record { function = f; part = p }
    size : get_or sizes k 0 ≡ size_in s pools c f p
    first_is : get_or (starts start sizes) k 0 ≡ first f p

  at : (f : Function) (p : Part) → Contains s f → Side f → is_placed s pools c f p ≡ true → At f p
  at f p listed side there =
      let found = on.all f p (listed, side, there) in
      let k = found.0 in
      let item : Item = record { function = f; part = p } in
      record {
        k = k;
        within = found.1;
        is = found.2;
        size = get_or-map (size_at s pools c) items k item 0 found.1 ∙ ap (size_at s pools c) (found.2 item);
        first_is = sym (on.at k item found.1) ∙ ap (λ (i : Item). first i.function i.part) (found.2 item);
      }

  within_sizes : (f : Function) (p : Part) (a : At f p) → a.k < length sizes
  within_sizes f p a = let l = length-map items (size_at s pools c) in let w = a.within in omega (arith, l, w)

  pub is_at : (f : Function) (p : Part) → Contains s f → Side f → is_placed s pools c f p ≡ true → IsAt start (size_in s pools c f p) (first f p) total
  is_at f p listed side there =
      let a = at f p listed side there in
      let inside = within_sizes f p a in
      let low = all_placed.low a.k inside in
      let high = all_placed.high a.k inside in
      let e = a.size in
      let g = a.first_is in
      let sums = on.sums in
      record {
        low = omega (arith, low, g);
        high = omega (arith, high, e, g, sums);
        multiple = sym (ap (λ x. x % size_in s pools c f p) g) ∙ sym (ap (λ y. get_or (starts start sizes) a.k 0 % y) e) ∙ all_placed.aligned a.k inside;
      }

  pub some_items : (f : Function) (p : Part) → Contains s f → Side f → is_placed s pools c f p ≡ true → 0 < length items
  some_items f p listed side there = let a = at f p listed side there in let w = a.within in omega (arith, w)

  -- two parts have two places
  pub two_places : (f g : Function) (p q : Part) → Contains s f → Contains s g → Side f → Side g → is_placed s pools c f p ≡ true → is_placed s pools c g q ≡ true → AreTwo f p g q
      → (first f p + size_in s pools c f p ≤ first g q) ⊎ (first g q + size_in s pools c g q ≤ first f p)
  two_places f g p q in_f in_g side_f side_g there_f there_g two =
      let a = at f p in_f side_f there_f in
      let b = at g q in_g side_g there_g in
      let ea = a.size in
      let eb = b.size in
      let fa = a.first_is in
      let fb = b.first_is in
      elim (cases_order a.k b.k) [
        | inl same ↦
            let item : Item = record { function = f; part = p } in
            let one : record { function = g; part = q } ≡ item = sym (b.is item) ∙ ap (λ k. get_or items k item) (sym same) ∙ a.is item in
            absurd (elim two [
              | inl slots ↦ both_ways (same_slot f.slot g.slot) slots (ap (λ (i : Item). same_slot f.slot i.function.slot) one ∙ slot_itself f.slot)
              | inr registers ↦ registers (sym (ap (λ (i : Item). register_of i.function i.part) one))
            ])
        | inr (inl less) ↦ let apart = all_placed.apart a.k b.k less (within_sizes g q b) in inl (omega (arith, apart, ea, fa, fb))
        | inr (inr more) ↦ let apart = all_placed.apart b.k a.k more (within_sizes f p a) in inr (omega (arith, apart, eb, fa, fb))
      ]

-- ---- the whole

module _ (roots : List ℕ) (s t : System) (pools : Pools) (system : IsSystem s) (nested : IsNested roots s) (first : Function → Part → ℕ)
    (shown : AllZip (IsShown s t pools first) s t) (tables : (c : WindowKind) → IsTable roots s pools c first) where
  record Old (g : Function) : Type 0 where
    f : Function
    listed : Contains s f
    shows : IsShown s t pools first f g

  old : (g : Function) → Contains t g → Old g
  old g in_g = let found = member_back (IsShown s t pools first) s t shown g in_g in record { f = found.0; listed = found.1; shows = found.2 }

  bus_of : (g : Function) (o : Old g) → g.slot.bus ≡ o.f.slot.bus
  bus_of g o = ap (λ (x : Slot). x.bus) o.shows.moved.slot

  small_all : (c : WindowKind) (b : Function) → Contains s b → is_bridge b ≡ true → need_behind s pools c b ≤ 2 ^ 65
  small_all c b listed bridge = (tables c).small b listed bridge

  size_some : (c : WindowKind) (f : Function) (p : Part) → Contains s f → is_placed s pools c f p ≡ true → 0 < size_in s pools c f p
  size_some c f (Bar n) listed there = pow_pos (lowest_one (if is_io (bar_at f.probe n) then 2 else 4) (whole_bar f.probe f.probe n))
  size_some c f Rom listed there = pow_pos (lowest_one 0 (rom_at f.image f.probe))
  size_some c f (Window kind) listed there =
      let outer = and_parts (is_bridge f && same_class c kind) (nat_lt 0 (need_behind s pools c f)) there in
      let inner = and_parts (is_bridge f) (same_class c kind) outer.0 in
      power_pos (size_in s pools c f (Window kind)) (size_power s pools c f (Window kind) (small_all c f listed inner.0))

  -- in the pool of its class
  pool_there : (g : Function) (p : Part) → Contains t g → is_item g p ≡ true → Contains roots g.slot.bus → IsInside (range_of g p) (pool_of pools (class_of t pools g p))
  pool_there g p in_g item root =
      let o = old g in_g in
      let f = o.f in
      let c = class_of t pools g p in
      let there = o.shows.only p item in
      let table = tables c in
      let side : Contains roots f.slot.bus = subst (Contains roots) (bus_of g o) root in
      let a = is_at s pools c first (λ h. Contains roots h.slot.bus) (sum (root_items roots s pools c)) table.start table.placed_roots table.on_roots f p o.listed side there in
      let room = table.high (some_items s pools c first (λ h. Contains roots h.slot.bus) (sum (root_items roots s pools c)) table.start table.placed_roots table.on_roots f p o.listed side there) in
      let some = size_some c f p o.listed there in
      let low = a.low in
      let high = a.high in
      let from = table.low (some_items s pools c first (λ h. Contains roots h.slot.bus) (sum (root_items roots s pools c)) table.start table.placed_roots table.on_roots f p o.listed side there) in
      subst (λ r. IsInside r (pool_of pools c)) (sym (o.shows.shows c p there)) (omega (arith, low, from), omega (arith, high, room, some))

  -- ---- the bridge that leads to a bus

  need_above : (c : WindowKind) (f : Function) (p : Part) → Contains s f → is_placed s pools c f p ≡ true → (b : Function) → secondary b ≡ f.slot.bus → 0 < need_behind s pools c b
  need_above c f p listed there b to = subst (λ bus. 0 < sum (items_on s pools c bus)) (sym to) (needed s pools c roots system nested f p listed there (small_all c))

  window_placed : (c : WindowKind) (b : Function) → is_bridge b ≡ true → 0 < need_behind s pools c b → is_placed s pools c b (Window c) ≡ true
  window_placed c b bridge need =
      and_from (is_bridge b && same_class c c) (nat_lt 0 (need_behind s pools c b))
      (and_from (is_bridge b) (same_class c c) bridge (class_itself c)) (lt-ltb 0 (need_behind s pools c b) need)

  window_there : (g d : Function) (p : Part) → Contains t g → is_item g p ≡ true → LeadsTo t d g.slot.bus
      → (is_item d (Window (class_of t pools g p)) ≡ true) × IsInside (range_of g p) (range_of d (Window (class_of t pools g p)))
  window_there g d p in_g item (in_d, bridge, to) =
      let o = old g in_g in
      let u = old d in_d in
      let f = o.f in
      let b = u.f in
      let c = class_of t pools g p in
      let there = o.shows.only p item in
      let was_bridge : is_bridge b ≡ true = sym (bridge_same b d u.shows.moved (images_of s system b u.listed)) ∙ bridge in
      let leads : secondary b ≡ f.slot.bus = sym (secondary_same b d u.shows.moved (images_of s system b u.listed) was_bridge) ∙ to ∙ bus_of g o in
      let need = need_above c f p o.listed there b leads in
      let table = tables c in
      let on = table.behind b u.listed was_bridge need in
      let a = is_at s pools c first (λ h. h.slot.bus ≡ secondary b) (need_behind s pools c b) (first b (Window c)) (table.behind_items b) on f p o.listed (sym leads) there in
      let window = window_placed c b was_bridge need in
      let least = window_least c (need_behind s pools c b) (small_all c b u.listed was_bridge) in
      let some = size_some c f p o.listed there in
      let low = a.low in
      let high = a.high in
      let enough = least.enough in (
        u.shows.opens c window,
        subst (λ r. IsInside r (range_of d (Window c))) (sym (o.shows.shows c p there))
            (subst (λ r. IsInside record { first = first f p; last = first f p + (size_in s pools c f p - 1) } r) (sym (u.shows.shows c (Window c) window))
            (omega (arith, low), omega (arith, high, some, enough))),
      )

  -- ---- apart

  apart_there : (g h : Function) (p q : Part) → Contains t g → Contains t h → is_item g p ≡ true → is_item h q ≡ true → AreBeside roots g h
      → class_of t pools g p ≡ class_of t pools h q → AreTwo g p h q → LieApart (range_of g p) (range_of h q)
  apart_there g h p q in_g in_h item_g item_h beside same two =
      let o = old g in_g in
      let u = old h in_h in
      let f = o.f in
      let e = u.f in
      let c = class_of t pools g p in
      let there_f = o.shows.only p item_g in
      let there_e : is_placed s pools c e q ≡ true = subst (λ k. is_placed s pools k e q ≡ true) (sym same) (u.shows.only q item_h) in
      let image_f = images_of s system f o.listed in
      let image_e = images_of s system e u.listed in
      let register_f : register_of g p ≡ register_of f p = register_same f g p (layout_same f g o.shows.moved image_f) in
      let register_e : register_of h q ≡ register_of e q = register_same e h q (layout_same e h u.shows.moved image_e) in
      let was_two : AreTwo f p e q = elim two [
        | inl slots ↦ inl (ap (λ (x : Slot). same_slot x e.slot) (sym o.shows.moved.slot) ∙ ap (λ (x : Slot). same_slot g.slot x) (sym u.shows.moved.slot) ∙ slots)
        | inr registers ↦ inr (λ r. registers (register_f ∙ r ∙ sym register_e))
      ] in
      let some_f = size_some c f p o.listed there_f in
      let some_e = size_some c e q u.listed there_e in
      let gap : ((first f p + size_in s pools c f p ≤ first e q) ⊎ (first e q + size_in s pools c e q ≤ first f p)) → LieApart (range_of g p) (range_of h q) = λ way.
      subst (λ r. LieApart r (range_of h q)) (sym (o.shows.shows c p there_f))
      (subst (λ r. LieApart record { first = first f p; last = first f p + (size_in s pools c f p - 1) } r) (sym (u.shows.shows c q there_e))
      (elim way [
        | inl before ↦ inl (omega (arith, before, some_f))
        | inr after ↦ inr (omega (arith, after, some_e))
      ])) in
      let table = tables c in
      let on_roots : Contains roots f.slot.bus → Contains roots e.slot.bus → LieApart (range_of g p) (range_of h q) = λ root_f root_e.
      gap (two_places s pools c first (λ x. Contains roots x.slot.bus) (sum (root_items roots s pools c)) table.start table.placed_roots table.on_roots f e p q o.listed u.listed root_f root_e there_f there_e was_two) in
      elim beside [
        | inr both ↦ on_roots (subst (Contains roots) (bus_of g o) both.0) (subst (Contains roots) (bus_of h u) both.1)
        | inl one_bus ↦
            let bus : f.slot.bus ≡ e.slot.bus = sym (bus_of g o) ∙ one_bus ∙ bus_of h u in
            elim (cases_Bool (is_root roots f.slot.bus)) [
              | inl root ↦ let r = (root_means roots f.slot.bus).0 root in on_roots r (subst (Contains roots) bus r)
              | inr off ↦
                  let one = nested.one f o.listed off in
                  let b = one.0 in
                  let leads = one.1 in
                  let need = need_above c f p o.listed there_f b leads.2 in
                  let on = table.behind b leads.0 leads.1 need in
                  gap (two_places s pools c first (λ x. x.slot.bus ≡ secondary b) (need_behind s pools c b) (first b (Window c)) (table.behind_items b) on f e p q o.listed u.listed
                  (sym leads.2) (sym bus ∙ sym leads.2) there_f there_e was_two)
            ]
      ]

  pub laid_out_by_table : IsLaidOut roots t pools
  laid_out_by_table = record { pool = pool_there; window = window_there; apart = apart_there }
