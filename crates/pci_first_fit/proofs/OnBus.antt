-- The items of a bus, record by record.
use Rattle.std.proofs.Common.{◌≡◌, ℕ, zero, suc, ◌+◌, ◌-◌, ◌<◌, ◌≤◌, inl, inr, List, [], ◌∷◌, ◌++◌, map, length, take, get_or, refl, Bool, true, false, cond, ◌&&◌, ◌||◌, not, add-zero, arith, sym, ◌∙◌, ap, subst, Option, Some, None}
use Rattle.std.specs.Bool.{IsTrue, ◌==◌}
use Rattle.std.specs.Option.{is_some, IfSome}
use Rattle.std.specs.List.{All, AllWithin, Contains, filter, flat_map, slice_get}
use Rattle.std.proofs.lemmas.Bool.{cases_Bool, cases_eq, cases_lt, both_ways, eqb-true, or_left, or_right, eq-eqb}
use Rattle.std.proofs.lemmas.List.{map-append, append-nil, take_more, take_all, get_or_past}
use Rattle.std.proofs.lemmas.List.Concat.{flat_map-append}
use Rattle.std.proofs.lemmas.List.Elements.{All-nil, All-cons, All-append, All-map, Contains-append_cases}
use Rattle.std.proofs.lemmas.List.Sorted.{IsPermutation-refl, IsPermutation-append}
use Rattle.std.proofs.lemmas.Option.{slice_get_within, slice_get-get_or, get_or_from_slice_get}
use Rattle.pci_spec.specs.Number.{number_at}
use Rattle.pci_spec.specs.Slot.{Slot, IsSlot, slot_number}
use Rattle.pci_spec.specs.Window.{WindowKind, MemoryWindow}
use Rattle.pci_spec.specs.System.{System, Function, Part, Window, IsSystem, is_bridge}
use Rattle.pci_spec.specs.Bus.{secondary, is_root, are_siblings}
use Rattle.pci_spec.specs.Decoded.{HasRecords}
use Rattle.pci_spec.specs.Decoded as decoded
use Rattle.pci_spec.proofs.Members.{in_nil, pairs_nil, pairs_append}
use Rattle.plan_spec.specs.Plan.{same_class}
use Rattle.plan_spec.proofs.Planning.AllItems.{slots_rise}
use Rattle.plan_spec.proofs.Planning.Safe.{slots_of}
use Rattle.settle_spec.specs.FirstPlace.{Extent as ExtentValue}
use Rattle.settle_spec.specs.Lists.{Request}
use Rattle.settle_spec.specs.Items.{PlacingItem as ItemValue, highest_of_bar, has_of, items_of}
use Rattle.settle_spec.specs.PlacingLaws.{HasLowerRank}
use Rattle.pci_image.specs.declared.rom.Rom.{Rom as CodeRom}
use Rattle.pci_function.specs.declared.record.Bridge.{Bridge}
use Rattle.pci_function.specs.declared.record.Record.{Record}
use Rattle.pci_function.specs.Values.{record_value}
use Rattle.pci_tree.proofs.Lifting.{same_bridge, same_slot_of}
use Rattle.pci_tree.proofs.RegionParts.{same_bridge_of}
use Rattle.pci_place.specs.declared.above.Above.{Above}
use Rattle.pci_place.specs.Above.{AreAboves}
use Rattle.pci_place.specs.Items.{no_function}
use Rattle.pci_place.specs.Records.{IsRecordInSystem}
use Rattle.pci_place.proofs.Records.{FunctionAt, same_count, function_at}
use Rattle.pci_first_fit.specs.declared.extent.Extent.{Extent}
use Rattle.pci_first_fit.specs.declared.item.Item.{Item}
use Rattle.pci_first_fit.specs.declared.item.Part.TheVariants as parts
use Rattle.pci_first_fit.specs.declared.kept.Kept.{Kept}
use Rattle.pci_first_fit.specs.declared.over.Over.{Over}
use Rattle.pci_first_fit.specs.Kept.{kept_of, nothing_kept}
use Rattle.pci_first_fit.specs.Over.{no_windows, IsOverBus}
use Rattle.pci_first_fit.specs.Own.{is_own_bar, extent_of_size, asked_bar_item, asked_bar_items, rom_item, asked_rom_items, asked_window_items, Situation, situation, asked_record_items, asked_item_value, IsWindowOf, IsAskedFor, AreByRank}
use Rattle.pci_first_fit.specs.Spots.{IsExtent}
use Rattle.pci_first_fit.specs.Turns.{HasExtent}
use Rattle.pci_first_fit.specs.Buses.{window_behind, AreWindows, AreBehind, Listing, items_of_function, AreOnBusTo, AreBelow, AreItemsOnBus}
use Rattle.pci_first_fit.proofs.Ranks.{first_rank, items_by_rank, items_in_slot}

-- the record at a place
record_at : (records : List Record) (k : ℕ) → k < length records → (r : Record) × (slice_get records k ≡ Some r)
record_at [] k inside = absurd (let no : ⊥ = omega (arith, inside) in no)
record_at (r ∷ records) k inside = (get_or (r ∷ records) k r, slice_get-get_or (r ∷ records) k r inside)

-- the functions on the bus of one that is no root
own_bus : (roots : List ℕ) (bus other : ℕ) → is_root roots bus ≡ false → are_siblings roots bus other ≡ true → bus ≡ other
own_bus roots bus other none beside = elim (cases_Bool (bus == other)) [
  | inl same ↦ eqb-true bus other same
  | inr differ ↦
      let apart : are_siblings roots bus other ≡ false = ap (λ b. b || (is_root roots bus && is_root roots other)) differ ∙ ap (λ b. b && is_root roots other) none in
      absurd (both_ways (are_siblings roots bus other) apart beside)
]

-- a bus is beside itself
pub itself_beside : (roots : List ℕ) (bus : ℕ) → are_siblings roots bus bus ≡ true
itself_beside roots bus = or_left (bus == bus) (is_root roots bus && is_root roots bus) (eq-eqb bus bus refl)

-- all roots are one bus, and other buses are not on it
pub roots_beside : (roots : List ℕ) (bus other : ℕ) → is_root roots bus ≡ true → is_root roots other ≡ true → are_siblings roots bus other ≡ true
roots_beside roots bus other root there = or_right (bus == other) (is_root roots bus && is_root roots other) (ap (λ b. b && is_root roots other) root ∙ there)

pub roots_apart : (roots : List ℕ) (bus other : ℕ) → is_root roots bus ≡ true → is_root roots other ≡ false → are_siblings roots bus other ≡ false
roots_apart roots bus other root none = elim (cases_Bool (bus == other)) [
  | inl same ↦
      let e = eqb-true bus other same in
      absurd (both_ways (is_root roots other) none (ap (is_root roots) (sym e) ∙ root))
  | inr differ ↦ ap (λ b. b || (is_root roots bus && is_root roots other)) differ ∙ ap (λ b. b && is_root roots other) root ∙ none
]

-- the record at a place is that of a function
pub record_of_place : (s : System) (records : List Record) (has : HasRecords s (map record_value records)) (k : ℕ) (r : Record) (inside : k < length records) (is_at : r ≡ get_or records k r)
    → IsRecordInSystem s (function_at s records has k r (slice_get-get_or records k r inside ∙ ap Some (sym is_at))).f r
record_of_place s records has k r inside is_at = (function_at s records has k r (slice_get-get_or records k r inside ∙ ap Some (sym is_at))).is

-- the slots of records
pub slots_in : (s : System) → IsSystem s → (records : List Record) → HasRecords s (map record_value records) → All (λ r. IsSlot r.slot) records
slots_in s system records has k d inside =
    let found = function_at s records has k (get_or records k d) (slice_get-get_or records k d inside) in
    subst IsSlot (sym (same_slot_of (get_or records k d) found.f found.is.value)) (slots_of s system found.f found.is.listed)

-- a function is below those after it
later_above : (s : System) → IsSystem s → (k j : ℕ) (f g : Function) → slice_get s k ≡ Some f → slice_get s j ≡ Some g → k < j → first_rank f + 256 ≤ first_rank g
later_above s system k j f g at_k at_j up =
    let pair : slot_number (get_or s k f).slot < slot_number (get_or s j f).slot = slots_rise s system k j f up (slice_get_within s j g at_j) in
    let less = subst (λ (x : Function). slot_number x.slot < slot_number (get_or s j f).slot) (get_or_from_slice_get s k f f at_k) pair in
    let both = subst (λ (x : Function). slot_number f.slot < slot_number x.slot) (get_or_from_slice_get s j g f at_j) less in
    omega (arith, both)

-- ---- extents

own_lawful : (first last highest : ℕ) → IsExtent (extent_of_size first last highest)
own_lawful first last highest = record { size = omega arith; alignment = omega arith }

window_lawful_if : (k : ℕ) (keep : Bool) (e : Extent) → IsExtent e → All HasExtent (cond keep [] (record { function = k; part = parts.Window; extent = e } ∷ []))
window_lawful_if k true e lawful = All-nil HasExtent
window_lawful_if k false e lawful = All-cons HasExtent record { function = k; part = parts.Window; extent = e } [] lawful (All-nil HasExtent)

window_lawful : (k : ℕ) (c : WindowKind) (kept : Kept) (window : Option Extent) → IfSome window IsExtent → All HasExtent (asked_window_items k c kept window)
window_lawful k c kept None lawful = All-nil HasExtent
window_lawful k c kept (Some e) lawful = window_lawful_if k (kept_of kept (Window c)) e lawful

rom_lawful_if : (k : ℕ) (b : Bool) (rom : CodeRom) → All HasExtent (cond b (rom_item k rom ∷ []) [])
rom_lawful_if k true rom = All-cons HasExtent (rom_item k rom) [] (own_lawful rom.first rom.last 0xffff_ffff) (All-nil HasExtent)
rom_lawful_if k false rom = All-nil HasExtent

rom_lawful : (k : ℕ) (c : WindowKind) (kept : Kept) (o : Option CodeRom) → All HasExtent (asked_rom_items k c kept o)
rom_lawful k c kept None = All-nil HasExtent
rom_lawful k c kept (Some rom) = rom_lawful_if k (rom.on && same_class c MemoryWindow && not kept.rom) rom

record_lawful : (o : Situation) (r : Record) → IfSome o.window IsExtent → All HasExtent (asked_record_items o r)
record_lawful o r lawful =
    let own = filter (is_own_bar o.class o.over o.terms o.kept) r.bars.items in
    All-append HasExtent (asked_bar_items o.place o.probe o.class o.over o.terms o.kept r.bars.items) (asked_window_items o.place o.class o.kept o.window ++ asked_rom_items o.place o.class o.kept r.rom)
    (All-map HasExtent (asked_bar_item o.place o.probe) own (λ n d within. own_lawful (get_or own n d).first (get_or own n d).last (highest_of_bar (number_at o.probe (get_or own n d).reg 4))))
    (All-append HasExtent (asked_window_items o.place o.class o.kept o.window) (asked_rom_items o.place o.class o.kept r.rom) (window_lawful o.place o.class o.kept o.window lawful) (rom_lawful o.place o.class o.kept r.rom))

behind_lawful : (windows : List (Option Extent)) → AreWindows windows → (b : Option Bridge) → IfSome (window_behind windows b) IsExtent
behind_lawful windows lawful None = tt
behind_lawful windows lawful (Some b) = elim (cases_lt b.secondary (length windows)) [
  | inl within ↦ lawful b.secondary None within
  | inr past ↦ subst (λ o. IfSome o IsExtent) (sym (get_or_past windows b.secondary None past)) tt
]

-- ---- one function after another

more : (make : Function → List ItemValue) (s : System) (k : ℕ) (f : Function) → slice_get s k ≡ Some f → flat_map make (take (k + 1) s) ≡ flat_map make (take k s) ++ make f
more make s k f at =
    ap (flat_map make) (take_more s k f (slice_get_within s k f at) ∙ ap (λ g. take k s ++ g ∷ []) (get_or_from_slice_get s k f f at))
    ∙ flat_map-append make (take k s) (f ∷ [])
    ∙ ap (λ xs. flat_map make (take k s) ++ xs) (append-nil (make f))

module _ (l : Listing) (system : IsSystem l.classing.system) where
  bus_none : AreOnBusTo l 0 []
  bus_none = record {
    all = λ a is. record {
      by_rank = record { same = IsPermutation-refl []; rising = pairs_nil HasLowerRank };
      below = λ j g up at i listed. absurd (in_nil i listed);
    };
    lawful = λ windows_lawful. All-nil HasExtent;
  }

  -- a function of another bus has none
  skip_one : (k : ℕ) (f : Function) → slice_get l.classing.system k ≡ Some f → are_siblings l.classing.roots l.bus f.slot.bus ≡ false → (items : List Item)
      → AreOnBusTo l k items → AreOnBusTo l (k + 1) items
  skip_one k f at apart items before = record {
    all = λ a is. (
        let make = items_of_function a l in
        let apart' : are_siblings a.request.roots l.bus f.slot.bus ≡ false = ap (λ xs. are_siblings xs l.bus f.slot.bus) is.left.rooted ∙ apart in
        let none : make f ≡ [] = ap (λ b. cond b (items_of a.request l.classing.system l.class a.keeps a.extent f) []) apart' in
        let before_it = before.all a is in
        record {
          by_rank = subst (AreByRank (map (asked_item_value l.classing.system l.class) items))
              (sym (more make l.classing.system k f at ∙ ap (λ xs. flat_map make (take k l.classing.system) ++ xs) none ∙ append-nil (flat_map make (take k l.classing.system)))) before_it.by_rank;
          below = λ j g up at_j i listed. before_it.below j g (omega (arith, up)) at_j i listed;
        });
    lawful = before.lawful;
  }

  -- and neither have more of them
  skip_to : (n k : ℕ) (items : List Item) → k + n ≤ length l.classing.system
      → ((j : ℕ) (f : Function) → k ≤ j → j < k + n → slice_get l.classing.system j ≡ Some f → are_siblings l.classing.roots l.bus f.slot.bus ≡ false)
      → AreOnBusTo l k items → AreOnBusTo l (k + n) items
  skip_to zero k items within apart before = subst (λ m. AreOnBusTo l m items) (sym (add-zero k)) before
  skip_to (suc n) k items within apart before =
      let inside : k + n < length l.classing.system = omega (arith, within) in
      let at = slice_get-get_or l.classing.system (k + n) no_function inside in
      let next : k + n + 1 ≡ k + suc n = omega arith in
      subst (λ m. AreOnBusTo l m items) next
      (skip_one (k + n) (get_or l.classing.system (k + n) no_function) at (apart (k + n) _ (omega arith) (omega arith) at) items
      (skip_to n k items (omega (arith, within)) (λ j f up under at_j. apart j f up (omega (arith, under)) at_j) before))

  -- all that stand below an address are all
  below_all : (end : ℕ) (items : List Item) → ((f : Function) → Contains l.classing.system f → are_siblings l.classing.roots l.bus f.slot.bus ≡ true → f.slot.bus < end)
      → AreBelow l end items → AreOnBusTo l (length l.classing.system) items
  below_all end items last below =
      let within = below.within in
      let sum : below.count + (length l.classing.system - below.count) ≡ length l.classing.system = omega (arith, within) in
      subst (λ m. AreOnBusTo l m items) sum
      (skip_to (length l.classing.system - below.count) below.count items (omega (arith, within))
      (λ j f up under at. elim (cases_Bool (are_siblings l.classing.roots l.bus f.slot.bus)) [
        | inl beside ↦
            let listed : Contains l.classing.system f = (j, slice_get_within l.classing.system j f at, get_or_from_slice_get l.classing.system j f f at) in
            let low = last f listed beside in
            let high = below.rest j f up at beside in
            absurd (let no : ⊥ = omega (arith, low, high) in no)
        | inr apart ↦ apart
      ]) below.first)

  pub below_roots : (items : List Item) → AreBelow l 256 items → AreOnBusTo l (length l.classing.system) items
  below_roots items below = below_all 256 items (λ f listed beside. (slots_of l.classing.system system f listed).0) below

  pub below_bus : (items : List Item) → is_root l.classing.roots l.bus ≡ false → AreBelow l (l.bus + 1) items → AreOnBusTo l (length l.classing.system) items
  below_bus items other below = below_all (l.bus + 1) items (λ f listed beside. let same = own_bus l.classing.roots l.bus f.slot.bus other beside in omega (arith, same)) below

  pub all_on_bus : (items : List Item) → AreOnBusTo l (length l.classing.system) items → AreItemsOnBus l items
  all_on_bus items are a is =
      subst (λ fs. AreByRank (map (asked_item_value l.classing.system l.class) items) (flat_map (items_of_function a l) fs))
      (take_all (length l.classing.system) l.classing.system (omega arith)) (are.all a is).by_rank

  -- ---- bus by bus

  pub below_none : AreBelow l 0 []
  below_none = record {
    count = 0;
    within = omega arith;
    lower = λ k f under at. absurd (let no : ⊥ = omega (arith, under) in no);
    rest = λ k f up at beside. omega arith;
    first = bus_none;
  }

  -- nothing of a bus that is no root is on a lower one
  pub below_own : is_root l.classing.roots l.bus ≡ false → AreBelow l l.bus []
  below_own other = record {
    count = 0;
    within = omega arith;
    lower = λ k f under at. absurd (let no : ⊥ = omega (arith, under) in no);
    rest = λ k f up at beside. (let same = own_bus l.classing.roots l.bus f.slot.bus other beside in omega (arith, same));
    first = bus_none;
  }

  pub below_skip : (end : ℕ) (items : List Item) → are_siblings l.classing.roots l.bus end ≡ false → AreBelow l end items → AreBelow l (end + 1) items
  below_skip end items apart below = record {
    count = below.count;
    within = below.within;
    lower = λ k f under at. (let low = below.lower k f under at in omega (arith, low));
    rest = λ k f up at beside. elim (cases_eq f.slot.bus end) [
      | inl same ↦ absurd (both_ways (are_siblings l.classing.roots l.bus end) apart (ap (are_siblings l.classing.roots l.bus) (sym same) ∙ beside))
      | inr differ ↦ (let high = below.rest k f up at beside in omega (arith, high, differ))
    ];
    first = below.first;
  }

module _ (l : Listing) (system : IsSystem l.classing.system) (records : List Record) (has : HasRecords l.classing.system (map record_value records)) where
  -- the record of a function is on its bus
  bus_at : (k : ℕ) (f : Function) → slice_get l.classing.system k ≡ Some f → (r : Record) × (k < length records) × ((get_or records k r).slot.bus ≡ f.slot.bus)
  bus_at k f at =
      let count = same_count l.classing.system records has in
      let within = slice_get_within l.classing.system k f at in
      let inside : k < length records = omega (arith, count, within) in
      let r = record_at records k inside in
      let found = function_at l.classing.system records has k r.0 r.1 in
      let both : Some found.f ≡ Some f = sym found.at ∙ at in
      let one : found.f ≡ f = cc in
      (r.0, inside, ap (λ (x : Record). x.slot.bus) (get_or_from_slice_get records k r.0 r.0 r.1) ∙ ap (λ (x : Slot). x.bus) (same_slot_of r.0 found.f found.is.value) ∙ ap (λ (x : Function). x.slot.bus) one)

  -- those below a bus are those of the functions before its first one
  pub below_first : (end first : ℕ) (items : List Item) → first ≤ length records → AllWithin (λ r. r.slot.bus < end) records 0 first → AllWithin (λ r. end ≤ r.slot.bus) records first (length records)
      → AreBelow l end items → AreOnBusTo l first items
  below_first end first items bound before after below =
      let count = same_count l.classing.system records has in
      let within = below.within in
      let up : below.count ≤ first = elim (cases_lt first below.count) [
        | inl less ↦
            let at = slice_get-get_or l.classing.system first no_function (omega (arith, less, within)) in
            let low = below.lower first _ less at in
            let here = bus_at first _ at in
            let on = here.2 in
            let high = after first here.0 (omega arith) here.1 in
            absurd (let no : ⊥ = omega (arith, low, on, high) in no)
        | inr le ↦ le
      ] in
      let sum : below.count + (first - below.count) ≡ first = omega (arith, up) in
      subst (λ m. AreOnBusTo l m items) sum
      (skip_to l system (first - below.count) below.count items (omega (arith, up, bound, count))
      (λ j f from under at. elim (cases_Bool (are_siblings l.classing.roots l.bus f.slot.bus)) [
        | inl beside ↦
            let high = below.rest j f from at beside in
            let here = bus_at j f at in
            let on = here.2 in
            let low = before j here.0 (omega arith) (omega (arith, under, up)) in
            absurd (let no : ⊥ = omega (arith, low, on, high) in no)
        | inr apart ↦ apart
      ]) below.first)

  pub below_next : (next end : ℕ) (items : List Item) → end ≤ length records → AllWithin (λ r. r.slot.bus < next) records 0 end → AllWithin (λ r. next ≤ r.slot.bus) records end (length records)
      → AreOnBusTo l end items → AreBelow l next items
  below_next next end items bound before after are =
      let count = same_count l.classing.system records has in
      record {
        count = end;
        within = omega (arith, bound, count);
        lower = λ k f under at. (let here = bus_at k f at in let on = here.2 in let low = before k here.0 (omega arith) under in omega (arith, on, low));
        rest = λ k f from at beside. (let here = bus_at k f at in let on = here.2 in let high = after k here.0 from here.1 in omega (arith, on, high));
        first = are;
      }

  module _ (k : ℕ) (r : Record) (inside : k < length records) (is_at : r ≡ get_or records k r) where
    found : FunctionAt l.classing.system r k
    found = function_at l.classing.system records has k r (slice_get-get_or records k r inside ∙ ap Some (sym is_at))

    same_bus : (other : ℕ) → other ≡ r.slot.bus → other ≡ found.f.slot.bus
    same_bus other on = on ∙ ap (λ (x : Slot). x.bus) (same_slot_of r found.f found.is.value)

    new_by : (q : Request) (extent : Function → ExtentValue) → AreBehind q l.classing.system l.class extent l.bus l.windows → IsTrue (are_siblings q.roots l.bus found.f.slot.bus) → (bridge : Option Bridge) → r.bridge ≡ bridge
        → IsWindowOf (is_bridge found.f && has_of q l.classing.system l.class found.f) (extent found.f) (window_behind l.windows bridge)
    new_by q extent behind beside None e =
        let off : is_bridge found.f ≡ false = sym (same_bridge r found.f found.is.value) ∙ ap is_some e in
        ap (λ b. b && has_of q l.classing.system l.class found.f) off
    new_by q extent behind beside (Some b) e =
        let f = found.f in
        let bridge : is_bridge f ≡ true = sym (same_bridge r f found.is.value) ∙ ap is_some e in
        let same : b.secondary ≡ secondary f = ap (λ (x : decoded.Bridge). x.secondary) (same_bridge_of r f b found.is.value e) in
        subst (λ n. IsWindowOf (is_bridge f && has_of q l.classing.system l.class f) (extent f) (get_or l.windows n None)) (sym same)
        (subst (λ d. IsWindowOf (d && has_of q l.classing.system l.class f) (extent f) (get_or l.windows (secondary f) None)) (sym bridge) (behind f found.is.listed beside bridge))

    -- a function of the bus
    pub bus_step : (probe : List ℕ) → (get_or l.classing.system k no_function).probe ≡ probe → (aboves : List Above) → AreAboves l.classing.system aboves → (other : ℕ) → other ≡ r.slot.bus → (d : Above) (over : Over) → over ≡ record { above = get_or aboves other d; windows = get_or l.classing.overs other no_windows }
        → (window : Option Extent) → window ≡ window_behind l.windows r.bridge → (keep : Kept) → ((part : Part) → kept_of keep part ≡ kept_of (get_or l.kept k nothing_kept) part)
        → are_siblings l.classing.roots l.bus other ≡ true → (old next : List Item) → next ≡ old ++ asked_record_items (situation k probe l.class over l.classing.terms window keep) r
        → AreOnBusTo l k old → AreOnBusTo l (k + 1) next
    bus_step probe is_probe aboves are_above other on d over is_over window is_window keep is_kept beside old next e before =
        let f = found.f in
        let at = same_bus other on in
        let new = asked_record_items (situation k probe l.class over l.classing.terms window keep) r in
        record {
          all = λ a is. (
              let beside' : are_siblings a.request.roots l.bus f.slot.bus ≡ true = ap (λ xs. are_siblings xs l.bus f.slot.bus) is.left.rooted ∙ ap (are_siblings l.classing.roots l.bus) (sym at) ∙ beside in
              let over_at : IsOverBus a.request l.classing.system f.slot.bus record { above = get_or aboves f.slot.bus d; windows = get_or l.classing.overs f.slot.bus no_windows } =
              record { above = are_above f d found.is.listed; windows_are = is.left.overs_are f found.is.listed } in
              let o = situation k probe l.class over l.classing.terms window keep in
              let asked : IsAskedFor a l.classing.system f o r = record {
                terms = is.left.terms;
                is = found.is;
                here = get_or_from_slice_get l.classing.system k f no_function found.at;
                probe_is = sym is_probe ∙ ap (λ (x : Function). x.probe) (get_or_from_slice_get l.classing.system k f no_function found.at);
                over_is = subst (IsOverBus a.request l.classing.system f.slot.bus) (sym is_over) (subst (λ n. IsOverBus a.request l.classing.system f.slot.bus record { above = get_or aboves n d; windows = get_or l.classing.overs n no_windows }) (sym at) over_at);
                new = subst (IsWindowOf (is_bridge f && has_of a.request l.classing.system l.class f) (a.extent f)) (sym is_window) (new_by a.request a.extent is.behind beside' r.bridge refl);
                keeps_is = λ part there. is_kept part ∙ is.keeps_is k f part found.at there;
              } in
              let make = items_of_function a l in
              let own : make f ≡ items_of a.request l.classing.system l.class a.keeps a.extent f = ap (λ b. cond b (items_of a.request l.classing.system l.class a.keeps a.extent f) []) beside' in
              let all_are : flat_map make (take (k + 1) l.classing.system) ≡ flat_map make (take k l.classing.system) ++ items_of a.request l.classing.system l.class a.keeps a.extent f = more make l.classing.system k f found.at ∙ ap (λ xs. flat_map make (take k l.classing.system) ++ xs) own in
              let values_are : map (asked_item_value l.classing.system l.class) next ≡ map (asked_item_value l.classing.system l.class) old ++ map (asked_item_value l.classing.system l.class) new = ap (map (asked_item_value l.classing.system l.class)) e ∙ map-append (asked_item_value l.classing.system l.class) old new in
              let before_it = before.all a is in
              let here = items_by_rank a l.classing.system f o r asked in
              let in_slot = items_in_slot a l.classing.system f o r asked in
              record {
                by_rank = subst (λ xs. AreByRank xs (flat_map make (take (k + 1) l.classing.system))) (sym values_are)
                    (subst (AreByRank (map (asked_item_value l.classing.system l.class) old ++ map (asked_item_value l.classing.system l.class) new)) (sym all_are) record {
                      same = IsPermutation-append (map (asked_item_value l.classing.system l.class) old) (flat_map make (take k l.classing.system)) (map (asked_item_value l.classing.system l.class) new) (items_of a.request l.classing.system l.class a.keeps a.extent f) before_it.by_rank.same here.same;
                      rising = pairs_append HasLowerRank (map (asked_item_value l.classing.system l.class) old) (map (asked_item_value l.classing.system l.class) new) before_it.by_rank.rising here.rising
                          (λ i j at_old at_new. let under = before_it.below k f (omega arith) found.at i at_old in let from = (in_slot j at_new).0 in omega (arith, under, from));
                    });
                below = λ j g up at_j i listed. (
                    let above_it = later_above l.classing.system system k j f g found.at at_j (omega (arith, up)) in
                    elim (Contains-append_cases (map (asked_item_value l.classing.system l.class) old) (map (asked_item_value l.classing.system l.class) new) i (subst (λ xs. Contains xs i) values_are listed)) [
                      | inl at_old ↦ before_it.below j g (omega (arith, up)) at_j i at_old
                      | inr at_new ↦ (let to = (in_slot i at_new).1 in omega (arith, to, above_it))
                    ]);
              });
          lawful = λ windows_lawful.
              subst (All HasExtent) (sym e) (All-append HasExtent old new (before.lawful windows_lawful)
              (record_lawful (situation k probe l.class over l.classing.terms window keep) r (subst (λ o. IfSome o IsExtent) (sym is_window) (behind_lawful l.windows windows_lawful r.bridge))));
        }
