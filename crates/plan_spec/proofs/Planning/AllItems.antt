-- All items of a class come in the order of slots and registers.
use Rattle.std.proofs.Common.{◌≡◌, ℕ, ◌<◌, ◌≤◌, inl, inr, List, [], ◌∷◌, ◌++◌, refl, Bool, true, false, cond, ◌&&◌, arith, ap, subst, map, get_or}
use Rattle.std.specs.Bool.{◌==◌}
use Rattle.std.specs.List.{AllPairs, filter, range_with_len}
use Rattle.std.proofs.lemmas.Bool.{cases_Bool, eqb-true}
use Rattle.std.proofs.lemmas.List.{get_or-map, length-map}
use Rattle.std.proofs.lemmas.List.Elements.{Contains-append_cases}
use Rattle.pci_spec.specs.Slot.{slot_number}
use Rattle.pci_spec.specs.Header.{layout, bar_count, bar_register, rom_register}
use Rattle.pci_spec.specs.Window.{WindowKind, IoWindow, MemoryWindow, PrefetchWindow, window_register}
use Rattle.pci_spec.specs.System.{System, Function, IsSystem, Part, Bar, Rom, is_bridge, is_implemented, register_of}
use Rattle.plan_spec.specs.Plan.{Pools, class_of, same_class, has_behind}
use Rattle.plan_spec.specs.Place.{Item, part_item, window_item, items_among, own_items}
use Rattle.plan_spec.specs.Planning.Sorted.{all_items, StandsBefore}
use Rattle.pci_spec.proofs.Members.{in_nil, pairs_nil, pairs_cons, pairs_append, pairs_map, pairs_filter, pairs_range, pairs_flat_map}
use Rattle.pci_spec.proofs.Rising.{pairs_of_rising}
use Rattle.plan_spec.proofs.Planning.OwnItems.{bar_parts, window_items, bar_among, window_among, rom_among, own_function}

-- ---- registers

bar_below_rom : (kind n : ℕ) → n < bar_count kind → bar_register n < rom_register kind
bar_below_rom kind n less = elim (cases_Bool (kind == 1)) [
  | inl bridge ↦ (let a : bar_count kind ≡ 2 = ap (λ b. cond b 2 6) bridge in let r : rom_register kind ≡ 0x38 = ap (λ b. cond b 0x38 0x30) bridge in omega (arith, less, a, r))
  | inr device ↦ (let a : bar_count kind ≡ 6 = ap (λ b. cond b 2 6) device in let r : rom_register kind ≡ 0x30 = ap (λ b. cond b 0x38 0x30) device in omega (arith, less, a, r))
]

window_low : (c : WindowKind) → 0x1c ≤ window_register c
window_low IoWindow = omega arith
window_low MemoryWindow = omega arith
window_low PrefetchWindow = omega arith

window_high : (c : WindowKind) → window_register c ≤ 0x24
window_high IoWindow = omega arith
window_high MemoryWindow = omega arith
window_high PrefetchWindow = omega arith

-- of a bridge: its BARs, then its windows, then its ROM
bar_below_window : (c : WindowKind) (kind n : ℕ) → kind ≡ 1 → n < bar_count kind → bar_register n < window_register c
bar_below_window c kind n bridge less =
    let a = ap bar_count bridge in
    let low = window_low c in
    omega (arith, less, a, low)

window_below_rom : (c : WindowKind) (kind : ℕ) → kind ≡ 1 → window_register c < rom_register kind
window_below_rom c kind bridge =
    let a = ap rom_register bridge in
    let high = window_high c in
    omega (arith, a, high)

-- ---- the items of a function

module _ (s : System) (pools : Pools) (c : WindowKind) (f : Function) where
  among_order : (parts : List Part) → AllPairs (λ p q. register_of f p < register_of f q) parts → AllPairs StandsBefore (items_among s pools c f parts)
  among_order parts rise =
      pairs_map StandsBefore (part_item f) (filter (λ part. same_class c (class_of s pools f part)) (filter (is_implemented f) parts))
      (λ i j d lt within. inr (
        refl,
        pairs_filter (λ p q. register_of f p < register_of f q) (λ part. same_class c (class_of s pools f part)) (filter (is_implemented f) parts)
            (pairs_filter (λ p q. register_of f p < register_of f q) (is_implemented f) parts rise) i j d lt within,
      ))

  bars_rise : AllPairs (λ p q. register_of f p < register_of f q) (bar_parts f)
  bars_rise = pairs_map (λ p q. register_of f p < register_of f q) Bar (range_with_len 0 (bar_count (layout f.image)))
      (λ i j d lt within. let up = pairs_range 0 (bar_count (layout f.image)) i j d lt within in omega (arith, up))

  single_order : {X : Type 0} (R : X → X → Type 0) (x : X) → AllPairs R (x ∷ [])
  single_order R x = pairs_cons R x [] (λ y listed. absurd (in_nil y listed)) (pairs_nil R)

  cond_order : (b : Bool) (i : Item) → AllPairs StandsBefore (cond b (i ∷ []) [])
  cond_order true i = single_order StandsBefore i
  cond_order false i = pairs_nil StandsBefore

  -- an item made from one part stands before another of a higher register
  by_register : (p q i j : Item) → p ≡ i → q ≡ j → StandsBefore p q → StandsBefore i j
  by_register p q i j at_i at_j before = subst (λ x. StandsBefore x j) at_i (subst (λ x. StandsBefore p x) at_j before)

  pub own_order : AllPairs StandsBefore (own_items s pools c f)
  own_order =
      pairs_append StandsBefore (items_among s pools c f (bar_parts f)) (window_items s pools c f ++ items_among s pools c f (Rom ∷ []))
      (among_order (bar_parts f) bars_rise)
      (pairs_append StandsBefore (window_items s pools c f) (items_among s pools c f (Rom ∷ []))
      (cond_order (is_bridge f && has_behind s pools c f) (window_item s pools c f))
      (among_order (Rom ∷ []) (single_order (λ p q. register_of f p < register_of f q) Rom))
      (λ i j at_i at_j.
      let window = window_among s pools c f i at_i in
      let rom = rom_among s pools c f j at_j in
      by_register (window_item s pools c f) (part_item f Rom) i j window.is rom.is (inr (refl, window_below_rom c (layout f.image) (eqb-true (layout f.image) 1 window.bridge)))))
      (λ i j at_i at_j.
      let bar = bar_among s pools c f i at_i in
      elim (Contains-append_cases (window_items s pools c f) (items_among s pools c f (Rom ∷ [])) j at_j) [
        | inl at_window ↦
            let window = window_among s pools c f j at_window in
            by_register (part_item f (Bar bar.n)) (window_item s pools c f) i j bar.is window.is (inr (refl, bar_below_window c (layout f.image) bar.n (eqb-true (layout f.image) 1 window.bridge) bar.within))
        | inr at_rom ↦ (let rom = rom_among s pools c f j at_rom in by_register (part_item f (Bar bar.n)) (part_item f Rom) i j bar.is rom.is (inr (refl, bar_below_rom (layout f.image) bar.n bar.within)))
      ])

-- ---- all of them

pub pairs_unmap : {X Y : Type 0} (R : Y → Y → Type 0) (f : X → Y) (xs : List X) → AllPairs R (map f xs) → AllPairs (λ x y. R (f x) (f y)) xs
pairs_unmap R f xs pairs i j d lt within =
    let l = length-map xs f in
    subst (λ y. R (f (get_or xs i d)) y) (get_or-map f xs j d (f d) within)
    (subst (λ y. R y (get_or (map f xs) j (f d))) (get_or-map f xs i d (f d) (omega (arith, lt, within))) (pairs i j (f d) lt (omega (arith, l, within))))

pub slots_rise : (s : System) → IsSystem s → AllPairs (λ (f g : Function). slot_number f.slot < slot_number g.slot) s
slots_rise s system =
    pairs_unmap (λ x y. slot_number x < slot_number y) (λ (f : Function). f.slot) s
    (pairs_unmap (λ x y. x < y) slot_number (map (λ (f : Function). f.slot) s) (pairs_of_rising (map slot_number (map (λ (f : Function). f.slot) s)) system.rising))

pub all_order : (s : System) (pools : Pools) (c : WindowKind) → IsSystem s → AllPairs StandsBefore (all_items s pools c)
all_order s pools c system =
    pairs_flat_map (λ (f g : Function). slot_number f.slot < slot_number g.slot) StandsBefore (own_items s pools c) s (slots_rise s system)
    (λ f listed. own_order s pools c f)
    (λ f g i j in_f in_g less at_i at_j.
    let a = ap (λ (h : Function). slot_number h.slot) (own_function s pools c f i at_i) in
    let b = ap (λ (h : Function). slot_number h.slot) (own_function s pools c g j at_j) in
    inl (omega (arith, less, a, b)))
