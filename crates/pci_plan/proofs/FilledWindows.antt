-- The windows of a filling, by its record.
use Rattle.std.proofs.Common.{◌≡◌, ℕ, zero, suc, ◌+◌, ◌-◌, ◌^◌, ◌<◌, ◌≤◌, inl, inr, List, refl, Bool, true, false, ◌&&◌, arith, sym, ◌∙◌, ap, Some, None, if◌then◌else◌}
use Rattle.std.specs.Bool.{nat_lt}
use Rattle.std.specs.List.{slice_index}
use Rattle.std.specs.Option.{is_some}
use Rattle.std.proofs.lemmas.Bool.{and_from, eqb-true, not-false, lt-ltb}
use Rattle.std.proofs.lemmas.List.Elements.{All-contains}
use Rattle.pci_spec.specs.Header.{layout}
use Rattle.pci_spec.specs.Window.{WindowKind, IoWindow, MemoryWindow, PrefetchWindow, Bounds, bounds_at, page_bits, has_window, is_wide_window, is_zero, bounds_for, closed_bounds}
use Rattle.pci_spec.specs.Decoded.{DecodedWindow, optional_window, decoded_window, bridge_of}
use Rattle.pci_spec.specs.Decoded as decoded
use Rattle.pci_spec.specs.System.{Function, IsFunction, Window, is_bridge}
use Rattle.pci_spec.specs.Bus.{secondary}
use Rattle.plan_spec.specs.Plan.{same_class, limited, need_of, has_behind, window_size}
use Rattle.plan_spec.specs.Plan as plan
use Rattle.plan_spec.specs.Place.{nibble_of}
use Rattle.plan_spec.specs.Planning.Table.{need_behind}
use Rattle.plan_spec.specs.Planning.Numbers.{place_at, new_bounds}
use Rattle.pci_spec.proofs.Records.{memory_window_there}
use Rattle.pci_spec.proofs.ReadBacks.{AreZero, are_zero, window_rules}
use Rattle.plan_spec.proofs.Planning.Tables.{class_itself}
use Rattle.plan_spec.proofs.Planning.Reach.{IsReached, need_is_behind}
use Rattle.plan_spec.proofs.Planning.NumbersFit.{window_room, parts_fit}
use Rattle.plan_spec.proofs.Planning.WindowFits.{few_nibbles, by_absent, by_open, by_closed}
use Rattle.pci_base.specs.WindowKinds.{kind_value, by_kind}
use Rattle.pci_image.specs.Windows.{window_of}
use Rattle.pci_function.specs.declared.record.Bridge.{Bridge}
use Rattle.pci_function.specs.Values.{bridge_value}
use Rattle.pci_tree.proofs.Lifting.{same_bridge}
use Rattle.pci_tree.proofs.RegionParts.{same_bridge_of}
use Rattle.pci_base.specs.declared.window_kind.WindowKind.{WindowKind as CodeKind}
use Rattle.pci_base.specs.declared.window_kind.WindowKind.TheVariants.{Io, Memory, Prefetchable}
use Rattle.pci_place.specs.declared.need.Needs.{Needs}
use Rattle.pci_plan.specs.declared.numbers.Filling.{Filling}
use Rattle.pci_place.specs.Needs.{AreNeeds, AreAllNeeds}
use Rattle.pci_place.specs.Places.{first_in}
use Rattle.pci_base.specs.Bounds.{address_bits}
use Rattle.pci_plan.specs.Fillings.{FillingOf}

-- ---- kinds

-- how far a window can go
pub reached_bits : (class : CodeKind) (n end : ℕ) → IsReached (kind_value class) n end → end ≤ 2 ^ address_bits class
reached_bits Io n end h = h
reached_bits Memory n end h = h
reached_bits Prefetchable n end h = h.0

pub address_bits_few : (class : CodeKind) → 2 ^ address_bits class ≤ 2 ^ 64
address_bits_few Io = omega arith
address_bits_few Memory = omega arith
address_bits_few Prefetchable = omega arith

-- ---- needs

needs_of : (roots : List ℕ) (s : Rattle.pci_spec.specs.System.System) (pools : plan.Pools) (needs : Rattle.pci_base.specs.declared.window_kind.ByKind.ByKind Needs) (class : CodeKind)
    → AreAllNeeds roots s pools needs → AreNeeds roots s pools (kind_value class) (by_kind needs class)
needs_of roots s pools needs Io all = all.io
needs_of roots s pools needs Memory all = all.memory
needs_of roots s pools needs Prefetchable all = all.prefetch

-- a limit hides no need
some_limited : (n : ℕ) → nat_lt 0 (limited n) ≡ nat_lt 0 n
some_limited zero = refl
some_limited (suc n) = lt-ltb 0 (limited (suc n)) (omega arith) ∙ sym (lt-ltb 0 (suc n) (omega arith))

-- ---- windows that aren't there

no_page : (kind : WindowKind) (n : ℕ) → page_bits kind + n ≡ 0 → ⊥
no_page IoWindow n e = omega (arith, e)
no_page MemoryWindow n e = omega (arith, e)
no_page PrefetchWindow n e = omega (arith, e)

zero_bounds : (b : Bounds) → AreZero b → b ≡ record { base = 0; limit = 0; base_upper = 0; limit_upper = 0 }
zero_bounds b z =
    let one : b ≡ record { base = 0; limit = b.limit; base_upper = b.base_upper; limit_upper = b.limit_upper } = ap (λ n. record b { base = n }) z.base in
    let two : b ≡ record { base = 0; limit = 0; base_upper = b.base_upper; limit_upper = b.limit_upper } = one ∙ ap (λ n. record b { base = 0; limit = n }) z.limit in
    let three : b ≡ record { base = 0; limit = 0; base_upper = 0; limit_upper = b.limit_upper } = two ∙ ap (λ n. record b { base = 0; limit = 0; base_upper = n }) z.base_upper in
    three ∙ ap (λ n. record b { base = 0; limit = 0; base_upper = 0; limit_upper = n }) z.limit_upper

some_if : (b : Bool) (w : DecodedWindow) → is_some (if b then Some w else None) ≡ b
some_if true w = refl
some_if false w = refl

wide_if : (b : Bool) (v w : DecodedWindow) → Some w ≡ (if b then Some v else None) → w ≡ v
wide_if true v w e = cc
wide_if false v w e = cc

module _ (filling : Filling) (of : FillingOf filling) where
  pub function_is : IsFunction of.function
  function_is = All-contains IsFunction of.system of.function of.plannable.system.each of.recorded.listed

  -- the record is of a bridge where the function is one
  pub bridge_is : is_some filling.record.now.bridge ≡ is_bridge of.function
  bridge_is = same_bridge filling.record.now of.function of.recorded.value

  -- the upper halves of I/O have 16 bits
  pub io_uppers : is_bridge of.function ≡ true → ((new_bounds of.roots of.system of.pools of.function IoWindow).base_upper < 2 ^ 16) × ((new_bounds of.roots of.system of.pools of.function IoWindow).limit_upper < 2 ^ 16)
  io_uppers bridge = let parts = parts_fit of.roots of.system of.pools of.plannable of.tables of.function of.recorded.listed bridge IoWindow in (parts.base_upper_small, parts.limit_upper_small)

  module _ (bridge : Bridge) (there_is : filling.record.now.bridge ≡ Some bridge) where
    pub is_a_bridge : is_bridge of.function ≡ true
    is_a_bridge = sym bridge_is ∙ ap is_some there_is

    same : bridge_value bridge ≡ bridge_of of.function.image of.function.probe
    same = same_bridge_of filling.record.now of.function bridge of.recorded.value there_is

    secondary_is : bridge.secondary ≡ secondary of.function
    secondary_is = ap (λ (b : decoded.Bridge). b.secondary) same

    -- the window of a class is there where the function has one
    window_is : (class : CodeKind) → window_of bridge.windows (kind_value class) ≡ optional_window (kind_value class) of.function.image of.function.probe
    window_is Io = ap (λ (b : decoded.Bridge). b.windows.io) same
    window_is Memory =
        let f = of.function in
        let there : has_window MemoryWindow f.probe ≡ true = memory_window_there f.image f.probe (of.recorded.decodable.windows MemoryWindow (eqb-true (layout f.image) 1 is_a_bridge)) in
        ap (λ (b : decoded.Bridge). Some b.windows.memory) same ∙ sym (ap (λ t. if t then Some (decoded_window MemoryWindow f.image f.probe) else None) there)
    window_is Prefetchable = ap (λ (b : decoded.Bridge). b.windows.prefetch) same

    pub window_there : (class : CodeKind) → is_some (window_of bridge.windows (kind_value class)) ≡ has_window (kind_value class) of.function.probe
    window_there class =
        let f = of.function in
        ap is_some (window_is class) ∙ some_if (has_window (kind_value class) f.probe) (decoded_window (kind_value class) f.image f.probe)

    pub window_wide : (class : CodeKind) (w : DecodedWindow) → window_of bridge.windows (kind_value class) ≡ Some w → w.wide ≡ is_wide_window (kind_value class) of.function.probe
    window_wide class w is =
        let f = of.function in
        ap (λ (v : DecodedWindow). v.wide) (wide_if (has_window (kind_value class) f.probe) (decoded_window (kind_value class) f.image f.probe) w (sym is ∙ window_is class))

    -- what the bus behind needs
    pub need_is : (class : CodeKind) → slice_index (by_kind filling.needs.now class).of_bus bridge.secondary ≡ need_of of.system of.pools (kind_value class) (secondary of.function)
    need_is class =
        let f = of.function in
        let small : secondary f < 256 = function_is.image.bytes 0x19 in
        ap (slice_index (by_kind filling.needs.now class).of_bus) secondary_is
        ∙ (needs_of of.roots of.system of.pools filling.needs.now class of.needs).need (secondary f) small

    pub open_is : (class : CodeKind) → nat_lt 0 (slice_index (by_kind filling.needs.now class).of_bus bridge.secondary) ≡ has_behind of.system of.pools (kind_value class) of.function
    open_is class =
        let f = of.function in
        ap (nat_lt 0) (need_is class) ∙ some_limited (need_behind of.system of.pools (kind_value class) f)
        ∙ sym (need_is_behind of.roots of.system of.pools of.plannable (place_at of.roots of.system of.pools) of.tables f (kind_value class) of.recorded.listed is_a_bridge)

    -- ---- its registers

    pub nibble_few : (class : CodeKind) → nibble_of (kind_value class) of.function ≤ 1
    nibble_few class = few_nibbles of.function is_a_bridge (kind_value class)

    -- the size of a window around what the bus behind needs
    abbrev pub size : CodeKind → ℕ
    size class = window_size (kind_value class) (need_of of.system of.pools (kind_value class) (secondary of.function))

    pub absent_bounds : (class : CodeKind) → has_window (kind_value class) of.function.probe ≡ false
        → new_bounds of.roots of.system of.pools of.function (kind_value class) ≡ record { base = 0; limit = 0; base_upper = 0; limit_upper = 0 }
    absent_bounds class none =
        let f = of.function in
        let kind = kind_value class in
        let mask = are_zero (bounds_at kind f.probe) (not-false (is_zero (bounds_at kind f.probe)) none) in
        let as_they_are = by_absent f is_a_bridge kind (has_behind of.system of.pools kind f) (place_at of.roots of.system of.pools f (Window kind)) (size class) none in
        elim (window_rules kind f.image f.probe (of.recorded.decodable.windows kind (eqb-true (layout f.image) 1 is_a_bridge))) [
          | inl narrow ↦ absurd (no_page kind 0 (sym narrow.base ∙ mask.base))
          | inr other ↦ elim other [
            | inl wide ↦ absurd (no_page kind 1 (sym wide.1.base ∙ mask.base))
            | inr absent ↦ as_they_are ∙ zero_bounds (bounds_at kind f.image) absent.1.value_zero
          ]
        ]

    pub closed_is : (class : CodeKind) → has_window (kind_value class) of.function.probe ≡ true
        → slice_index (by_kind filling.needs.now class).of_bus bridge.secondary ≡ 0
        → new_bounds of.roots of.system of.pools of.function (kind_value class) ≡ closed_bounds (kind_value class) (nibble_of (kind_value class) of.function)
    closed_is class there none =
        let f = of.function in
        let kind = kind_value class in
        let nothing : has_behind of.system of.pools kind f ≡ false = sym (open_is class) ∙ ap (nat_lt 0) none in
        by_closed f is_a_bridge kind (has_behind of.system of.pools kind f) (place_at of.roots of.system of.pools f (Window kind)) (size class) there nothing

    something : (class : CodeKind) → 0 < slice_index (by_kind filling.needs.now class).of_bus bridge.secondary → has_behind of.system of.pools (kind_value class) of.function ≡ true
    something class need =
        sym (open_is class) ∙ lt-ltb 0 (slice_index (by_kind filling.needs.now class).of_bus bridge.secondary) need

    -- the place of a window that is open
    pub record IsOpenAt (class : CodeKind) : Type 0 where
      pub some : 0 < size class
      pub high : first_in filling.places.now (Window (kind_value class)) + size class ≤ 2 ^ address_bits class
      pub bounds : new_bounds of.roots of.system of.pools of.function (kind_value class)
          ≡ bounds_for (kind_value class) (nibble_of (kind_value class) of.function) (first_in filling.places.now (Window (kind_value class))) (first_in filling.places.now (Window (kind_value class)) + (size class - 1))

    pub open_at : (class : CodeKind) → has_window (kind_value class) of.function.probe ≡ true → 0 < slice_index (by_kind filling.needs.now class).of_bus bridge.secondary → IsOpenAt class
    open_at class there need =
        let f = of.function in
        let kind = kind_value class in
        let n = nibble_of kind f in
        let some = something class need in
        let behind : nat_lt 0 (need_behind of.system of.pools kind f) ≡ true =
        sym (need_is_behind of.roots of.system of.pools of.plannable (place_at of.roots of.system of.pools) of.tables f kind of.recorded.listed is_a_bridge) ∙ some in
        let at = window_room of.roots of.system of.pools of.plannable of.tables f of.recorded.listed kind is_a_bridge some in
        let placed : first_in filling.places.now (Window kind) ≡ place_at of.roots of.system of.pools f (Window kind) =
        of.places (Window kind) (and_from (is_bridge f && same_class kind kind) (nat_lt 0 (need_behind of.system of.pools kind f))
        (and_from (is_bridge f) (same_class kind kind) is_a_bridge (class_itself kind)) behind) in
        let reached = reached_bits class n (place_at of.roots of.system of.pools f (Window kind) + size class) at.reached in
        record {
          some = at.some;
          high = omega (arith, reached, placed);
          bounds = by_open f is_a_bridge kind (has_behind of.system of.pools kind f) (place_at of.roots of.system of.pools f (Window kind)) (size class) there some
              ∙ ap (λ first. bounds_for kind n first (first + (size class - 1))) (sym placed);
        }
