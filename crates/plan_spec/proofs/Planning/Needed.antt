-- What has something on its bus has need there.
use Rattle.std.proofs.Common.{◌≡◌, ℕ, ◌^◌, ◌<◌, ◌≤◌, List, [], ◌∷◌, ◌++◌, refl, true, cond, ◌&&◌, arith, sym, ap, subst, map}
use Rattle.std.specs.Bool.{nat_lt, ◌==◌, if◌then◌else◌}
use Rattle.std.specs.List.{Contains, filter, flat_map, sum, range_with_len}
use Rattle.std.proofs.lemmas.Bool.{and_parts, and_from, eq-eqb, ltb-true, lt-ltb}
use Rattle.std.proofs.lemmas.Nat.{pow_pos}
use Rattle.std.proofs.lemmas.List.Sums.{get_or-le-sum_by}
use Rattle.pci_spec.specs.Number.{lowest_one}
use Rattle.pci_spec.specs.Header.{layout, bar_count}
use Rattle.pci_spec.specs.Window.{WindowKind}
use Rattle.pci_spec.specs.System.{System, Function, IsSystem, Part, Bar, Rom, Window, is_bridge, is_implemented, bars_and_rom}
use Rattle.pci_spec.specs.Bus.{secondary, IsNested}
use Rattle.plan_spec.specs.Plan.{Pools, class_of, same_class, window_size, size_of, sizes_in, items_on, limited, own_sizes, window_over}
use Rattle.std.proofs.lemmas.List.Elements.{Contains-append_left, Contains-append_right}
use Rattle.pci_spec.specs.Bar.{bar_at, is_io, whole_bar}
use Rattle.pci_spec.specs.Rom.{rom_at}
use Rattle.pci_spec.proofs.Members.{in_head, in_range_from, in_flat_map_from, in_filter_from, in_map_from}
use Rattle.plan_spec.specs.Planning.Placing.{IsPower}
use Rattle.plan_spec.specs.Planning.Layout.{is_item}
use Rattle.plan_spec.specs.Planning.Table.{need_behind, is_placed, size_in}
use Rattle.plan_spec.proofs.Planning.Placement.{window_least, power_pos}
use Rattle.plan_spec.proofs.Planning.Needs.{items_by_behind}
use Rattle.plan_spec.proofs.Planning.Safe.{slots_of, order_of}

pub contained_le_sum : (xs : List ℕ) (x : ℕ) → Contains xs x → x ≤ sum xs
contained_le_sum xs x (k, less, is) = let h = get_or-le-sum_by (λ n. n) xs k x less in omega (arith, h, is)

module _ (s : System) (pools : Pools) (c : WindowKind) where
  in_sizes : (f : Function) (p : Part) → Contains (bars_and_rom f) p → same_class c (class_of s pools f p) ≡ true → Contains (sizes_in s pools c f) (size_of f p)
  in_sizes f p listed same =
      in_map_from (size_of f) (filter (λ part. same_class c (class_of s pools f part)) (bars_and_rom f)) p
      (in_filter_from (λ part. same_class c (class_of s pools f part)) (bars_and_rom f) p listed same)

  bar_listed : (f : Function) (n : ℕ) → is_item f (Bar n) ≡ true → Contains (bars_and_rom f) (Bar n)
  bar_listed f n item =
      let parts = and_parts (nat_lt n (bar_count (layout f.image))) _ item in
      in_filter_from (is_implemented f) (map Bar (range_with_len 0 (bar_count (layout f.image))) ++ Rom ∷ []) (Bar n)
      (Contains-append_left (map Bar (range_with_len 0 (bar_count (layout f.image)))) (Rom ∷ []) (Bar n)
      (in_map_from Bar (range_with_len 0 (bar_count (layout f.image))) n
      (let below = ltb-true n (bar_count (layout f.image)) parts.0 in in_range_from 0 (bar_count (layout f.image)) n (omega arith) (omega (arith, below)))))
      parts.1

  rom_listed : (f : Function) → is_item f Rom ≡ true → Contains (bars_and_rom f) Rom
  rom_listed f item =
      in_filter_from (is_implemented f) (map Bar (range_with_len 0 (bar_count (layout f.image))) ++ Rom ∷ []) Rom
      (Contains-append_right (map Bar (range_with_len 0 (bar_count (layout f.image)))) (Rom ∷ []) Rom (in_head Rom [])) item

  module _ (roots : List ℕ) (system : IsSystem s) (nested : IsNested roots s) where
    pub own_needed : (f : Function) (p : Part) → Contains s f → Contains (bars_and_rom f) p → same_class c (class_of s pools f p) ≡ true → 0 < size_of f p → 0 < sum (items_on s pools c f.slot.bus)
    own_needed f p listed there same some =
        let own = flat_map (own_sizes s pools c f.slot.bus) s in
        let windows = flat_map (λ b. window_over c f.slot.bus b (sum (items_on s pools c (secondary b)))) s in
        let here : own_sizes s pools c f.slot.bus f ≡ sizes_in s pools c f = ap (λ t. cond t (sizes_in s pools c f) []) (eq-eqb f.slot.bus f.slot.bus refl) in
        let in_own : Contains own (size_of f p) = in_flat_map_from (own_sizes s pools c f.slot.bus) s f (size_of f p) listed
        (subst (λ xs. Contains xs (size_of f p)) (sym here) (in_sizes f p there same)) in
        let all : Contains (items_on s pools c f.slot.bus) (size_of f p) =
        subst (λ xs. Contains xs (size_of f p)) (sym (items_by_behind s pools c (slots_of s system) (order_of roots s nested) f.slot.bus)) (Contains-append_left own windows (size_of f p) in_own) in
        let below = contained_le_sum (items_on s pools c f.slot.bus) (size_of f p) all in
        omega (arith, below, some)

    -- a bridge's window is among the items of its bus
    pub window_among : (b : Function) → Contains s b → is_bridge b ≡ true → 0 < need_behind s pools c b → window_size c (limited (need_behind s pools c b)) ≤ sum (items_on s pools c b.slot.bus)
    window_among b listed bridge some =
        let n = need_behind s pools c b in
        let size = window_size c (limited n) in
        let own = flat_map (own_sizes s pools c b.slot.bus) s in
        let test : (is_bridge b && b.slot.bus == b.slot.bus && nat_lt 0 n) ≡ true =
        and_from (is_bridge b && b.slot.bus == b.slot.bus) (nat_lt 0 n) (and_from (is_bridge b) (b.slot.bus == b.slot.bus) bridge (eq-eqb b.slot.bus b.slot.bus refl)) (lt-ltb 0 n some) in
        let here : window_over c b.slot.bus b (sum (items_on s pools c (secondary b))) ≡ size ∷ [] = ap (λ t. cond t (size ∷ []) []) test in
        let in_windows = in_flat_map_from (λ g. window_over c b.slot.bus g (sum (items_on s pools c (secondary g)))) s b size listed
        (subst (λ xs. Contains xs size) (sym here) (in_head size [])) in
        let all : Contains (items_on s pools c b.slot.bus) size =
        subst (λ xs. Contains xs size) (sym (items_by_behind s pools c (slots_of s system) (order_of roots s nested) b.slot.bus))
        (Contains-append_right own (flat_map (λ g. window_over c b.slot.bus g (sum (items_on s pools c (secondary g)))) s) size in_windows) in
        contained_le_sum (items_on s pools c b.slot.bus) size all

    pub window_needed : (b : Function) → Contains s b → is_bridge b ≡ true → 0 < need_behind s pools c b → 0 < sum (items_on s pools c b.slot.bus)
    window_needed b listed bridge some =
        let n = need_behind s pools c b in
        let below = window_among b listed bridge some in
        let least = window_least c (limited n) (omega arith) in
        let pos = power_pos (window_size c (limited n)) least.power in
        omega (arith, below, pos)

    -- what is placed on a bus makes need there
    pub needed : (f : Function) (p : Part) → Contains s f → is_placed s pools c f p ≡ true → ((b : Function) → Contains s b → is_bridge b ≡ true → need_behind s pools c b ≤ 2 ^ 65) → 0 < sum (items_on s pools c f.slot.bus)
    needed f (Bar n) listed placed small =
        let parts = and_parts (is_item f (Bar n)) _ placed in
        own_needed f (Bar n) listed (bar_listed f n parts.0) parts.1 (pow_pos (lowest_one (if is_io (bar_at f.probe n) then 2 else 4) (whole_bar f.probe f.probe n)))
    needed f Rom listed placed small =
        let parts = and_parts (is_item f Rom) _ placed in
        own_needed f Rom listed (rom_listed f parts.0) parts.1 (pow_pos (lowest_one 0 (rom_at f.image f.probe)))
    needed f (Window kind) listed placed small =
        let outer = and_parts (is_bridge f && same_class c kind) (nat_lt 0 (need_behind s pools c f)) placed in
        let inner = and_parts (is_bridge f) (same_class c kind) outer.0 in
        window_needed f listed inner.0 (ltb-true 0 (need_behind s pools c f) outer.1)

  -- sizes are powers of two
  pub size_power : (f : Function) (p : Part) → need_behind s pools c f ≤ 2 ^ 65 → IsPower (size_in s pools c f p)
  size_power f (Bar n) small = (lowest_one (if is_io (bar_at f.probe n) then 2 else 4) (whole_bar f.probe f.probe n), refl)
  size_power f Rom small = (lowest_one 0 (rom_at f.image f.probe), refl)
  size_power f (Window kind) small = (window_least c (need_behind s pools c f) small).power
