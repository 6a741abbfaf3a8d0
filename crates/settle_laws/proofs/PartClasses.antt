-- The class of a part: its windows forward the part's space, and each bridge above has one.
use Rattle.std.proofs.Common.{◌≡◌, ◌&&◌, ◌||◌, ℕ, ◌%◌, ◌⊎◌, inl, inr, List, Bool, true, false, cond, not, arith, refl, sym, ◌∙◌, ap}
use Rattle.std.specs.Bool.{nat_le, ◌==◌, if◌then◌else◌}
use Rattle.std.specs.List.{Contains, list_all, list_any}
use Rattle.std.proofs.lemmas.Bool.{and_parts, and_left, cases_Bool, eqb-true, ne_eqb, not-false, not-true, not_from_false, true≢false}
use Rattle.pci_spec.specs.Bar.{bar_at, is_io, is_prefetchable, is_wide}
use Rattle.pci_spec.specs.Window.{WindowKind, IoWindow, MemoryWindow, PrefetchWindow, bounds_at, is_zero, has_window, is_wide_window}
use Rattle.pci_spec.specs.System.{System, Function, Space, Io, Memory, Part, Bar, Rom, Window, space_of, window_space}
use Rattle.pci_spec.specs.Bus.{is_root}
use Rattle.plan_spec.specs.Plan.{bridges_above, is_served, same_class}
use Rattle.plan_spec.proofs.Planning.Behind.{all_gives}
use Rattle.plan_spec.proofs.Planning.Reach.{served_windows}
use Rattle.settle_spec.specs.Lists.{Request}
use Rattle.settle_spec.specs.Parts.{is_empty, upper_pools, is_in_memory, is_in_prefetch, prefetchable_class, class_in}
use Rattle.settle_laws.proofs.NonePasses.{none_passes}

-- a window with upper halves is there
wide_there : (probe : List ℕ) → is_wide_window PrefetchWindow probe ≡ true → has_window PrefetchWindow probe ≡ true
wide_there probe wide =
    let b = bounds_at PrefetchWindow probe in
    let one = eqb-true (b.base % 16) 1 wide in
    let some : (b.base == 0) ≡ false = ne_eqb b.base 0 (λ z. let no : ⊥ = omega (arith, one, z) in no) in
    not_from_false (is_zero b)
    (and_left (b.base == 0 && b.limit == 0 && b.base_upper == 0) (b.limit_upper == 0)
    (and_left (b.base == 0 && b.limit == 0) (b.base_upper == 0) (and_left (b.base == 0) (b.limit == 0) some)))

-- ---- by tests

abbrev pub of_memory : Bool → WindowKind
of_memory served = if served then PrefetchWindow else MemoryWindow

-- a prefetchable BAR's, by whether it is where no window counts, in which windows it is, and whether it is served
abbrev pub by_windows : Bool → Bool → Bool → Bool → WindowKind
by_windows new memory prefetch served = if new then of_memory served else if memory then MemoryWindow else if prefetch then PrefetchWindow else of_memory served

abbrev pub by_tests : Bool → Bool → WindowKind → WindowKind
by_tests io prefetchable class = if io then IoWindow else if prefetchable then class else MemoryWindow

new_space : (served : Bool) → window_space (of_memory served) ≡ Memory
new_space true = refl
new_space false = refl

windows_space : (new memory prefetch served : Bool) → window_space (by_windows new memory prefetch served) ≡ Memory
windows_space true memory prefetch served = new_space served
windows_space false true prefetch served = refl
windows_space false false true served = refl
windows_space false false false served = new_space served

tests_space : (io prefetchable : Bool) (class : WindowKind) → window_space class ≡ Memory → window_space (by_tests io prefetchable class) ≡ (if io then Io else Memory)
tests_space true prefetchable class e = refl
tests_space false true class e = e
tests_space false false class e = refl

no_class : {P : Type 0} (d c : WindowKind) → same_class d c ≡ false → same_class d d ≡ true → c ≡ d → P
no_class d c differ itself e = absurd (true≢false (sym itself ∙ ap (same_class d) (sym e) ∙ differ))

new_prefetch : (served : Bool) → of_memory served ≡ PrefetchWindow → served ≡ true
new_prefetch true e = refl
new_prefetch false e = no_class PrefetchWindow MemoryWindow refl refl e

windows_prefetch : (new memory prefetch served : Bool) → by_windows new memory prefetch served ≡ PrefetchWindow → (prefetch ≡ true) ⊎ (served ≡ true)
windows_prefetch true memory prefetch served e = inr (new_prefetch served e)
windows_prefetch false true prefetch served e = no_class PrefetchWindow MemoryWindow refl refl e
windows_prefetch false false true served e = inl refl
windows_prefetch false false false served e = inr (new_prefetch served e)

tests_prefetch : (io prefetchable : Bool) (class : WindowKind) → by_tests io prefetchable class ≡ PrefetchWindow → (prefetchable ≡ true) × (class ≡ PrefetchWindow)
tests_prefetch true prefetchable class e = no_class PrefetchWindow IoWindow refl refl e
tests_prefetch false true class e = (refl, e)
tests_prefetch false false class e = no_class PrefetchWindow MemoryWindow refl refl e

tests_io : (io prefetchable : Bool) (class : WindowKind) → window_space class ≡ Memory → by_tests io prefetchable class ≡ IoWindow → io ≡ true
tests_io true prefetchable class at e = refl
tests_io false true class at e = absurd (true≢false (ap is_plain (sym (sym at ∙ ap window_space e))))
  where
    is_plain : Space → Bool
    is_plain Io = true
    is_plain Memory = false
tests_io false false class at e = no_class IoWindow MemoryWindow refl refl e

module _ (q : Request) (s : System) (f : Function) where
  pub prefetchable_space : (n : ℕ) → window_space (prefetchable_class q s f n) ≡ Memory
  prefetchable_space n = windows_space (q.anew || is_root q.roots f.slot.bus) (is_in_memory s f n) (is_in_prefetch s f n) (not (is_empty q.lists.prefetch) && is_served s (upper_pools q.lists.prefetch) f n)

  -- windows of a part's class forward its space
  pub space_of_class : (p : Part) → window_space (class_in q s f p) ≡ space_of f p
  space_of_class (Bar n) = tests_space (is_io (bar_at f.probe n)) (is_prefetchable (bar_at f.probe n)) (prefetchable_class q s f n) (prefetchable_space n)
  space_of_class Rom = refl
  space_of_class (Window kind) = refl

  -- a BAR of I/O space
  pub io_of_class : (n : ℕ) → class_in q s f (Bar n) ≡ IoWindow → is_io (bar_at f.probe n) ≡ true
  io_of_class n e = tests_io (is_io (bar_at f.probe n)) (is_prefetchable (bar_at f.probe n)) (prefetchable_class q s f n) (prefetchable_space n) e

  pub prefetch_of_class : (n : ℕ) → class_in q s f (Bar n) ≡ PrefetchWindow → is_prefetchable (bar_at f.probe n) ≡ true
  prefetch_of_class n e = (tests_prefetch (is_io (bar_at f.probe n)) (is_prefetchable (bar_at f.probe n)) (prefetchable_class q s f n) e).0

  -- what is served has prefetchable windows above
  served_has : (n : ℕ) → is_served s (upper_pools q.lists.prefetch) f n ≡ true → (b : Function) → Contains (bridges_above s f.slot.bus) b → has_window PrefetchWindow b.probe ≡ true
  served_has n served b above =
      let pools = upper_pools q.lists.prefetch in
      elim (cases_Bool (nat_le pools.prefetch.last 0xffff_ffff)) [
        | inr high ↦ wide_there b.probe (served_windows s pools f n served high b above)
        | inl low ↦
            let all = λ (d : Function). has_window PrefetchWindow d.probe in
            all_gives all (bridges_above s f.slot.bus) b
            (sym (ap (λ t. cond t (list_all all (bridges_above s f.slot.bus)) (is_wide (bar_at f.probe n) && list_all (λ (d : Function). is_wide_window PrefetchWindow d.probe) (bridges_above s f.slot.bus))) low) ∙ served) above
      ]

  -- so has what is prefetchable by its class
  pub prefetch_windows : (n : ℕ) → class_in q s f (Bar n) ≡ PrefetchWindow → (b : Function) → Contains (bridges_above s f.slot.bus) b → has_window PrefetchWindow b.probe ≡ true
  prefetch_windows n e b above =
      let class = (tests_prefetch (is_io (bar_at f.probe n)) (is_prefetchable (bar_at f.probe n)) (prefetchable_class q s f n) e).1 in
      let none = λ (d : Function). not (has_window PrefetchWindow d.probe) in
      elim (windows_prefetch (q.anew || is_root q.roots f.slot.bus) (is_in_memory s f n) (is_in_prefetch s f n) (not (is_empty q.lists.prefetch) && is_served s (upper_pools q.lists.prefetch) f n) class) [
        | inl inside ↦
            not-false (has_window PrefetchWindow b.probe)
            (none_passes none (bridges_above s f.slot.bus) (not-true (list_any none (bridges_above s f.slot.bus)) (and_parts _ (not (list_any none (bridges_above s f.slot.bus))) inside).1) b above)
        | inr served ↦ served_has n (and_parts (not (is_empty q.lists.prefetch)) (is_served s (upper_pools q.lists.prefetch) f n) served).1 b above
      ]
