-- How far the places of a table go: no further than registers can show.
use Rattle.std.proofs.Common.{◌≡◌, ℕ, ◌+◌, ◌%◌, ◌^◌, ◌<◌, ◌≤◌, inl, inr, List, refl, Bool, true, false, cond, ◌&&◌, ◌||◌, not, arith, sym, ◌∙◌, ap}
use Rattle.std.specs.Bool.{nat_lt, nat_le, ◌==◌, if◌then◌else◌}
use Rattle.std.specs.List.{Contains, list_all, list_any}
use Rattle.std.proofs.lemmas.Bool.{and_parts, and_from, or_parts, cases_Bool, both_ways, lt-ltb, ltb-true, ltb-false, leb-true}
use Rattle.pci_spec.specs.Header.{layout, bar_count}
use Rattle.pci_spec.specs.Bar.{bar_at, bar_kind, is_io, is_wide, is_prefetchable, type_bits, has_bar}
use Rattle.pci_spec.specs.Rom.{has_rom}
use Rattle.pci_spec.specs.Window.{WindowKind, IoWindow, MemoryWindow, PrefetchWindow, has_window, is_wide_window, page_size}
use Rattle.pci_spec.specs.Decoded.{bar_size, rom_size}
use Rattle.pci_spec.specs.System.{System, Function, Part, Bar, Rom, Window, is_bridge, bars_and_rom}
use Rattle.pci_spec.specs.Bus.{is_behind}
use Rattle.plan_spec.specs.Plan.{Pools, pool_of, class_of, same_class, bridges_above, is_served, is_backward, are_bad, window_size, has_behind}
use Rattle.plan_spec.specs.Place.{nibble_of}
use Rattle.plan_spec.specs.Planning.Showing.{reach_of}
use Rattle.plan_spec.specs.Planning.Plannable.{IsPlannable}
use Rattle.plan_spec.specs.Planning.Table.{need_behind, is_placed, IsTable}
use Rattle.pci_spec.proofs.BarLaws.{kind_by}
use Rattle.pci_spec.proofs.Members.{in_filter_from}
use Rattle.plan_spec.proofs.Planning.Placement.{window_least, step_power, power_multiple, multiple_of_mod, multiple_trans, mod_of_multiple}
use Rattle.plan_spec.proofs.Planning.Behind.{Passes, any_gives, all_gives, behind_is_need, listed_plain}
use Rattle.plan_spec.proofs.Planning.NeededWindows.{served_by_class}
use Rattle.plan_spec.proofs.Planning.Tables.{class_itself}
use Rattle.plan_spec.proofs.Planning.InPool.{in_pool}

-- ---- pools that aren't refused

pub record AreGood (pools : Pools) : Type 0 where
  pub io : pools.io.last ≤ 0xffff
  pub memory : pools.memory.last ≤ 0xffff_ffff

pub good_pools : (pools : Pools) → are_bad pools ≡ false → AreGood pools
good_pools pools good =
    let five = or_parts (is_backward pools.io || is_backward pools.memory || is_backward pools.prefetch || nat_lt 0xffff pools.io.last || nat_lt 0xffff_ffff pools.memory.last) _ good in
    let four = or_parts (is_backward pools.io || is_backward pools.memory || is_backward pools.prefetch || nat_lt 0xffff pools.io.last) (nat_lt 0xffff_ffff pools.memory.last) five.0 in
    let three = or_parts (is_backward pools.io || is_backward pools.memory || is_backward pools.prefetch) (nat_lt 0xffff pools.io.last) four.0 in
    record { io = ltb-false 0xffff pools.io.last three.1; memory = ltb-false 0xffff_ffff pools.memory.last four.1 }

pub pool_below : (pools : Pools) → AreGood pools → pools.prefetch.last < 2 ^ 64 → (c : WindowKind) → (pool_of pools c).last < 2 ^ 64
pool_below pools good top IoWindow = let l = good.io in omega (arith, l)
pool_below pools good top MemoryWindow = let l = good.memory in omega (arith, l)
pool_below pools good top PrefetchWindow = top

-- ---- BARs

-- a BAR that is served where prefetchable addresses go beyond 4 GB is of 64 bits
served_wide : (s : System) (pools : Pools) (f : Function) (n : ℕ) → is_served s pools f n ≡ true → nat_le pools.prefetch.last 0xffff_ffff ≡ false → is_wide (bar_at f.probe n) ≡ true
served_wide s pools f n served high =
    let narrow = list_all (λ (d : Function). has_window PrefetchWindow d.probe) (bridges_above s f.slot.bus) in
    let wide = is_wide (bar_at f.probe n) && list_all (λ (d : Function). is_wide_window PrefetchWindow d.probe) (bridges_above s f.slot.bus) in
    (and_parts (is_wide (bar_at f.probe n)) _ (sym (ap (λ t. cond t narrow wide) high) ∙ served)).0

-- and so are the windows above it
pub served_windows : (s : System) (pools : Pools) (f : Function) (n : ℕ) → is_served s pools f n ≡ true → nat_le pools.prefetch.last 0xffff_ffff ≡ false
    → (b : Function) → Contains (bridges_above s f.slot.bus) b → is_wide_window PrefetchWindow b.probe ≡ true
served_windows s pools f n served high b above =
    let narrow = list_all (λ (d : Function). has_window PrefetchWindow d.probe) (bridges_above s f.slot.bus) in
    let wide = is_wide (bar_at f.probe n) && list_all (λ (d : Function). is_wide_window PrefetchWindow d.probe) (bridges_above s f.slot.bus) in
    all_gives (λ (d : Function). is_wide_window PrefetchWindow d.probe) (bridges_above s f.slot.bus) b
    (and_parts (is_wide (bar_at f.probe n)) _ (sym (ap (λ t. cond t narrow wide) high) ∙ served)).1 above

abbrev class_by : Bool → Bool → WindowKind
class_by io pref = if io then IoWindow else if pref then PrefetchWindow else MemoryWindow

memory_reach : (wide narrow : Bool) → 2 ^ 32 ≤ 2 ^ reach_of (kind_by false wide narrow)
memory_reach true narrow = omega arith
memory_reach false true = omega arith
memory_reach false false = omega arith

-- the pool of a BAR ends where the BAR's addresses do
reach_by : (pools : Pools) → AreGood pools → pools.prefetch.last < 2 ^ 64 → (io pref wide narrow : Bool) → (pref ≡ true → nat_le pools.prefetch.last 0xffff_ffff ≡ false → wide ≡ true)
    → (pool_of pools (class_by io pref)).last < 2 ^ reach_of (kind_by io wide narrow)
reach_by pools good top true pref wide narrow h = let l = good.io in omega (arith, l)
reach_by pools good top false false wide narrow h = let l = good.memory in let r = memory_reach wide narrow in omega (arith, l, r)
reach_by pools good top false true true narrow h = top
reach_by pools good top false true false narrow h = elim (cases_Bool (nat_le pools.prefetch.last 0xffff_ffff)) [
  | inl low ↦ (let l = leb-true pools.prefetch.last 0xffff_ffff low in let r = memory_reach false narrow in omega (arith, l, r))
  | inr high ↦ absurd (both_ways false refl (h refl high))
]

bar_wide : (register : ℕ) → is_wide register ≡ true → (type_bits register == 2) ≡ true
bar_wide register wide = (and_parts (not (is_io register)) (type_bits register == 2) wide).1

bar_reach : (s : System) (pools : Pools) → AreGood pools → pools.prefetch.last < 2 ^ 64 → (f : Function) (n : ℕ) → (pool_of pools (class_of s pools f (Bar n))).last < 2 ^ reach_of (bar_kind (bar_at f.probe n))
bar_reach s pools good top f n =
    let register = bar_at f.probe n in
    reach_by pools good top (is_io register) (is_prefetchable register && is_served s pools f n) (type_bits register == 2) (type_bits register == 0)
    (λ pref high. bar_wide register (served_wide s pools f n (and_parts (is_prefetchable register) (is_served s pools f n) pref).1 high))

-- ---- windows

-- how far a window with low nibbles n can go
abbrev pub IsReached : WindowKind → ℕ → ℕ → Type 0
IsReached IoWindow n end = end ≤ 2 ^ 16
IsReached MemoryWindow n end = end ≤ 2 ^ 32
IsReached PrefetchWindow n end = (end ≤ 2 ^ 64) × (n ≡ 0 → end ≤ 2 ^ 32)

pub record IsWindowPlace (kind : WindowKind) (n first size : ℕ) : Type 0 where
  pub some : 0 < size
  pub aligned : first % page_size kind ≡ 0
  pub whole : size % page_size kind ≡ 0
  pub reached : IsReached kind n (first + size)

high_part : (s : System) (pools : Pools) (f b : Function) (part : Part) → Contains (bars_and_rom f) part → same_class PrefetchWindow (class_of s pools f part) ≡ true
    → Contains (bridges_above s f.slot.bus) b → nat_le pools.prefetch.last 0xffff_ffff ≡ false → is_wide_window PrefetchWindow b.probe ≡ true
high_part s pools f b (Bar n) listed same above high =
    served_windows s pools f n (served_by_class (is_io (bar_at f.probe n)) (is_prefetchable (bar_at f.probe n)) (is_served s pools f n) same) high b above
high_part s pools f b Rom listed same above high = absurd (both_ways false refl same)
high_part s pools f b (Window kind) listed same above high = absurd (both_ways true (listed_plain f (Window kind) listed) refl)

-- the prefetchable windows above something of that class go beyond 4 GB only where they have upper halves
high_is_wide : (s : System) (pools : Pools) (b : Function) → Contains s b → is_bridge b ≡ true → has_behind s pools PrefetchWindow b ≡ true → nat_le pools.prefetch.last 0xffff_ffff ≡ false
    → is_wide_window PrefetchWindow b.probe ≡ true
high_is_wide s pools b listed bridge has high =
    let found : Passes (λ g. is_behind b g.slot.bus && list_any (λ part. same_class PrefetchWindow (class_of s pools g part)) (bars_and_rom g)) s =
    any_gives (λ g. is_behind b g.slot.bus && list_any (λ part. same_class PrefetchWindow (class_of s pools g part)) (bars_and_rom g)) s has in
    let f = found.x in
    let is = and_parts (is_behind b f.slot.bus) (list_any (λ part. same_class PrefetchWindow (class_of s pools f part)) (bars_and_rom f)) found.is in
    let part = any_gives (λ part. same_class PrefetchWindow (class_of s pools f part)) (bars_and_rom f) is.1 in
    high_part s pools f b part.x part.listed part.is
    (in_filter_from (λ d. is_bridge d && is_behind d f.slot.bus) s b listed (and_from (is_bridge b) (is_behind b f.slot.bus) bridge is.0)) high

reached_by : (s : System) (pools : Pools) → AreGood pools → pools.prefetch.last < 2 ^ 64 → (b : Function) (kind : WindowKind) → Contains s b → is_bridge b ≡ true → has_behind s pools kind b ≡ true
    → (end : ℕ) → end ≤ (pool_of pools kind).last + 1 → IsReached kind (nibble_of kind b) end
reached_by s pools good top b IoWindow listed bridge has end below = let l = good.io in omega (arith, l, below)
reached_by s pools good top b MemoryWindow listed bridge has end below = let l = good.memory in omega (arith, l, below)
reached_by s pools good top b PrefetchWindow listed bridge has end below = (
  omega (arith, top, below),
  λ none. elim (cases_Bool (nat_le pools.prefetch.last 0xffff_ffff)) [
    | inl low ↦ (let l = leb-true pools.prefetch.last 0xffff_ffff low in omega (arith, l, below))
    | inr high ↦
        let wide = high_is_wide s pools b listed bridge has high in
        let one : nibble_of PrefetchWindow b ≡ 1 = ap (λ t. cond t 1 0) wide in
        absurd (let impossible : ⊥ = omega (arith, none, one) in impossible)
  ],
)

-- ---- the places of a table

module _ (roots : List ℕ) (s : System) (pools : Pools) (p : IsPlannable roots s pools) (first : Function → Part → ℕ) (tables : (c : WindowKind) → IsTable roots s pools c first) where
  good : AreGood pools
  good = good_pools pools p.can.good

  -- a BAR is aligned, and ends where its registers can show
  pub bar_place : (f : Function) (n : ℕ) → Contains s f → n < bar_count (layout f.image) → has_bar f.probe n ≡ true
      → (first f (Bar n) % bar_size f.probe n ≡ 0) × (first f (Bar n) + bar_size f.probe n ≤ 2 ^ reach_of (bar_kind (bar_at f.probe n)))
  bar_place f n listed inside there =
      let c = class_of s pools f (Bar n) in
      let placed : is_placed s pools c f (Bar n) ≡ true =
      and_from (nat_lt n (bar_count (layout f.image)) && has_bar f.probe n) (same_class c c) (and_from (nat_lt n (bar_count (layout f.image))) (has_bar f.probe n) (lt-ltb n (bar_count (layout f.image)) inside) there) (class_itself c) in
      let at = in_pool roots s pools p.system p.nested first c (tables c) f (Bar n) listed placed in
      let end = bar_reach s pools good p.addresses f n in
      let high = at.high in
      (at.multiple, omega (arith, high, end))

  pub rom_place : (f : Function) → Contains s f → has_rom f.image f.probe ≡ true → (first f Rom % rom_size f.image f.probe ≡ 0) × (first f Rom + rom_size f.image f.probe ≤ 2 ^ 32)
  rom_place f listed there =
      let placed : is_placed s pools MemoryWindow f Rom ≡ true = and_from (has_rom f.image f.probe) true there refl in
      let at = in_pool roots s pools p.system p.nested first MemoryWindow (tables MemoryWindow) f Rom listed placed in
      let high = at.high in
      let end = good.memory in
      (at.multiple, omega (arith, high, end))

  -- something is behind a bridge where it needs a window
  pub need_is_behind : (b : Function) (c : WindowKind) → Contains s b → is_bridge b ≡ true → has_behind s pools c b ≡ nat_lt 0 (need_behind s pools c b)
  need_is_behind b c listed bridge = behind_is_need roots s pools c p.system p.nested (tables c).small b listed bridge

  -- a window is of whole pages, and ends where its registers can show
  pub window_place : (b : Function) (kind : WindowKind) → Contains s b → is_bridge b ≡ true → has_behind s pools kind b ≡ true
      → IsWindowPlace kind (nibble_of kind b) (first b (Window kind)) (window_size kind (need_behind s pools kind b))
  window_place b kind listed bridge has =
      let need = ltb-true 0 (need_behind s pools kind b) (sym (need_is_behind b kind listed bridge) ∙ has) in
      let placed : is_placed s pools kind b (Window kind) ≡ true =
      and_from (is_bridge b && same_class kind kind) (nat_lt 0 (need_behind s pools kind b)) (and_from (is_bridge b) (same_class kind kind) bridge (class_itself kind)) (lt-ltb 0 (need_behind s pools kind b) need) in
      let at = in_pool roots s pools p.system p.nested first kind (tables kind) b (Window kind) listed placed in
      let size = window_size kind (need_behind s pools kind b) in
      let least = window_least kind (need_behind s pools kind b) ((tables kind).small b listed bridge) in
      let steps = power_multiple size (page_size kind) least.power (step_power kind) least.steps in
      let aligned = multiple_trans (first b (Window kind)) size (page_size kind) (multiple_of_mod (first b (Window kind)) size at.multiple) steps in
      record {
        some = at.some;
        aligned = mod_of_multiple (first b (Window kind)) (page_size kind) aligned;
        whole = mod_of_multiple size (page_size kind) steps;
        reached = reached_by s pools good p.addresses b kind listed bridge has (first b (Window kind) + size) at.high;
      }
