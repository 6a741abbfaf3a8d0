-- The window that something behind a bridge needs is there.
use Rattle.std.proofs.Common.{◌≡◌, ℕ, ◌%◌, ◌^◌, ◌<◌, ◌≤◌, inl, inr, List, refl, Bool, true, false, cond, ◌&&◌, not, arith, sym, ◌∙◌, ap}
use Rattle.std.specs.Bool.{nat_le, ◌==◌, if◌then◌else◌}
use Rattle.std.specs.List.{Contains, list_any, list_all}
use Rattle.std.proofs.lemmas.Bool.{not_from_false, and_parts, and_from, and_left, cases_Bool, both_ways, eqb-true, ne_eqb, lt-ltb}
use Rattle.pci_spec.specs.Slot.{Slot}
use Rattle.pci_spec.specs.Bar.{bar_at, is_io, is_wide, is_prefetchable}
use Rattle.pci_spec.specs.Window.{WindowKind, IoWindow, MemoryWindow, PrefetchWindow, bounds_at, has_window, is_wide_window, is_zero, breaks_window_rule}
use Rattle.pci_spec.specs.System.{System, Function, IsSystem, Part, Bar, Rom, Window, is_bridge, bars_and_rom}
use Rattle.pci_spec.specs.Bus.{is_behind, IsNested}
use Rattle.plan_spec.specs.Plan.{Pools, class_of, same_class, bridges_above, is_served, is_io_part, has_behind, LacksWindow}
use Rattle.pci_spec.proofs.Members.{in_filter_from}
use Rattle.pci_spec.proofs.Records.{memory_window_there}
use Rattle.plan_spec.specs.Planning.Table.{need_behind}
use Rattle.plan_spec.proofs.Planning.Behind.{Passes, any_gives, any_from, all_gives, behind_is_need, listed_plain}

io_by_class : (io pref served : Bool) → same_class IoWindow (if io then IoWindow else if pref && served then PrefetchWindow else MemoryWindow) ≡ true → io ≡ true
io_by_class true pref served h = refl
io_by_class false true true h = absurd (both_ways false refl h)
io_by_class false true false h = absurd (both_ways false refl h)
io_by_class false false served h = absurd (both_ways false refl h)

pub served_by_class : (io pref served : Bool) → same_class PrefetchWindow (if io then IoWindow else if pref && served then PrefetchWindow else MemoryWindow) ≡ true → served ≡ true
served_by_class true pref served h = absurd (both_ways false refl h)
served_by_class false true true h = refl
served_by_class false true false h = absurd (both_ways false refl h)
served_by_class false false served h = absurd (both_ways false refl h)

-- a window whose low nibble is 1 isn't zero
wide_is_there : (kind : WindowKind) (probe : List ℕ) → is_wide_window kind probe ≡ true → has_window kind probe ≡ true
wide_is_there kind probe wide =
    let b = bounds_at kind probe in
    let one = eqb-true (b.base % 16) 1 wide in
    let some : (b.base == 0) ≡ false = ne_eqb b.base 0 (λ z. let e : b.base % 16 ≡ 0 = ap (λ n. n % 16) z in let impossible : ⊥ = omega (arith, one, e) in impossible) in
    not_from_false (is_zero b)
    (and_left (b.base == 0 && b.limit == 0 && b.base_upper == 0) (b.limit_upper == 0)
    (and_left (b.base == 0 && b.limit == 0) (b.base_upper == 0) (and_left (b.base == 0) (b.limit == 0) some)))

is_wide_served : (s : System) (pools : Pools) (f : Function) (n : ℕ) (b : Function) → Contains (bridges_above s f.slot.bus) b → is_served s pools f n ≡ true → has_window PrefetchWindow b.probe ≡ true
is_wide_served s pools f n b above served = elim (cases_Bool (nat_le pools.prefetch.last 0xffff_ffff)) [
  | inl low ↦
      let all : list_all (λ (d : Function). has_window PrefetchWindow d.probe) (bridges_above s f.slot.bus) ≡ true =
      sym (ap (λ t. cond t (list_all (λ (d : Function). has_window PrefetchWindow d.probe) (bridges_above s f.slot.bus)) (is_wide (bar_at f.probe n) && list_all (λ (d : Function). is_wide_window PrefetchWindow d.probe) (bridges_above s f.slot.bus))) low) ∙ served in
      all_gives (λ (d : Function). has_window PrefetchWindow d.probe) (bridges_above s f.slot.bus) b all above
  | inr high ↦
      let both : (is_wide (bar_at f.probe n) && list_all (λ (d : Function). is_wide_window PrefetchWindow d.probe) (bridges_above s f.slot.bus)) ≡ true =
      sym (ap (λ t. cond t (list_all (λ (d : Function). has_window PrefetchWindow d.probe) (bridges_above s f.slot.bus)) (is_wide (bar_at f.probe n) && list_all (λ (d : Function). is_wide_window PrefetchWindow d.probe) (bridges_above s f.slot.bus))) high) ∙ served in
      wide_is_there PrefetchWindow b.probe (all_gives (λ (d : Function). is_wide_window PrefetchWindow d.probe) (bridges_above s f.slot.bus) b (and_parts (is_wide (bar_at f.probe n)) _ both).1 above)
]

module _ (roots : List ℕ) (s : System) (pools : Pools) (system : IsSystem s) (nested : IsNested roots s) (windows : (slot : Slot) → LacksWindow s slot → ⊥) where
  by_part : (c : WindowKind) (b f : Function) (part : Part) → Contains s f → Contains (bars_and_rom f) part → Contains (bridges_above s f.slot.bus) b → breaks_window_rule c b.image b.probe ≡ false
      → same_class c (class_of s pools f part) ≡ true → has_window c b.probe ≡ true
  by_part IoWindow b f (Bar n) in_f listed above rule same = elim (cases_Bool (has_window IoWindow b.probe)) [
    | inl there ↦ there
    | inr none ↦
        let io = io_by_class (is_io (bar_at f.probe n)) (is_prefetchable (bar_at f.probe n)) (is_served s pools f n) same in
        absurd (windows f.slot (
          f,
          (in_f.0, in_f.1, in_f.2),
          refl,
          any_from (is_io_part f) (bars_and_rom f) (Bar n) listed io,
          any_from (λ (d : Function). not (has_window IoWindow d.probe)) (bridges_above s f.slot.bus) b above (not_from_false (has_window IoWindow b.probe) none),
        ))
  ]
  by_part IoWindow b f Rom in_f listed above rule same = absurd (both_ways false refl same)
  by_part IoWindow b f (Window kind) in_f listed above rule same = absurd (both_ways true (listed_plain f (Window kind) listed) refl)
  by_part MemoryWindow b f part in_f listed above rule same = memory_window_there b.image b.probe rule
  by_part PrefetchWindow b f (Bar n) in_f listed above rule same =
      is_wide_served s pools f n b above (served_by_class (is_io (bar_at f.probe n)) (is_prefetchable (bar_at f.probe n)) (is_served s pools f n) same)
  by_part PrefetchWindow b f Rom in_f listed above rule same = absurd (both_ways false refl same)
  by_part PrefetchWindow b f (Window kind) in_f listed above rule same = absurd (both_ways true (listed_plain f (Window kind) listed) refl)

  pub needed_window : (c : WindowKind) → ((b : Function) → Contains s b → is_bridge b ≡ true → need_behind s pools c b ≤ 2 ^ 65) → (b : Function) → Contains s b → is_bridge b ≡ true
      → breaks_window_rule c b.image b.probe ≡ false → 0 < need_behind s pools c b → has_window c b.probe ≡ true
  needed_window c small b listed bridge rule need =
      let has : has_behind s pools c b ≡ true = behind_is_need roots s pools c system nested small b listed bridge ∙ lt-ltb 0 (need_behind s pools c b) need in
      let found : Passes (λ g. is_behind b g.slot.bus && list_any (λ part. same_class c (class_of s pools g part)) (bars_and_rom g)) s =
      any_gives (λ g. is_behind b g.slot.bus && list_any (λ part. same_class c (class_of s pools g part)) (bars_and_rom g)) s has in
      let f = found.x in
      let in_f = found.listed in
      let is = and_parts (is_behind b f.slot.bus) (list_any (λ part. same_class c (class_of s pools f part)) (bars_and_rom f)) found.is in
      let part = any_gives (λ part. same_class c (class_of s pools f part)) (bars_and_rom f) is.1 in
      by_part c b f part.x (in_f.0, in_f.1, in_f.2) part.listed
      (in_filter_from (λ d. is_bridge d && is_behind d f.slot.bus) s b listed (and_from (is_bridge b) (is_behind b f.slot.bus) bridge is.0)) rule part.is
