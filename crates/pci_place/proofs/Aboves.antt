-- What is above each bus, in one pass over the records in slot order.
use Rattle.std.proofs.Common.{◌≡◌, ℕ, ◌+◌, ◌<◌, inl, inr, List, length, set, replicate, get_or, refl, Bool, true, false, ◌%◌, ◌&&◌, Some, None, arith, sym, ◌∙◌, ap}
use Rattle.std.specs.Bool.{◌==◌, if◌then◌else◌}
use Rattle.std.specs.Option.{is_some}
use Rattle.std.specs.List.{Contains, slice_get, list_all}
use Rattle.std.proofs.lemmas.Bool.{cases_Bool, not-false, and_parts, eqb-true}
use Rattle.std.proofs.lemmas.List.Elements.{All-contains}
use Rattle.pci_spec.specs.Window.{WindowKind, IoWindow, PrefetchWindow, bounds_at, has_window, is_wide_window}
use Rattle.pci_spec.specs.System.{System, Function, IsFunction, IsSystem, is_bridge}
use Rattle.pci_spec.specs.Bus.{secondary, IsNested}
use Rattle.pci_spec.specs.Decoded.{decoded_window, optional_window}
use Rattle.pci_spec.specs.Decoded as decoded
use Rattle.plan_spec.specs.Plan.{bridges_above}
use Rattle.plan_spec.proofs.Planning.AboveBuses.{all_above, all_above_root}
use Rattle.pci_function.specs.declared.record.Bridge.{Bridge}
use Rattle.pci_function.specs.declared.record.Record.{Record}
use Rattle.pci_tree.proofs.Lifting.{same_bridge}
use Rattle.pci_tree.proofs.RegionParts.{same_bridge_of}
use Rattle.pci_place.specs.declared.above.Above.{Above}
use Rattle.pci_place.specs.Above.{IsAbove, AreAboves, is_wide_in}
use Rattle.pci_place.specs.Records.{IsRecordInSystem}
use Rattle.pci_place.proofs.BusTables.{AreTo, none_yet, of_bus, same_after, put_after, whole_table}

-- below no bridge
abbrev pub no_bridge : Above
no_bridge = record { io = true; pref = true; wide = true }

-- ---- windows that a bridge may leave out

some_window : (kind : WindowKind) (image probe : List ℕ) → is_some (optional_window kind image probe) ≡ has_window kind probe
some_window kind image probe = elim (cases_Bool (has_window kind probe)) [
  | inl there ↦ rw there refl
  | inr absent ↦ rw absent refl
]

-- a prefetchable window that isn't there shows no upper halves
absent_is_narrow : (probe : List ℕ) → has_window PrefetchWindow probe ≡ false → is_wide_window PrefetchWindow probe ≡ false
absent_is_narrow probe absent =
    let zero = not-false _ absent in
    let one = (and_parts _ _ zero).0 in
    let two = (and_parts _ _ one).0 in
    let base = eqb-true (bounds_at PrefetchWindow probe).base 0 (and_parts ((bounds_at PrefetchWindow probe).base == 0) _ two).0 in
    ap (λ n. n % 16 == 1) base

pub wide_window : (image probe : List ℕ) → is_wide_in (optional_window PrefetchWindow image probe) ≡ is_wide_window PrefetchWindow probe
wide_window image probe = elim (cases_Bool (has_window PrefetchWindow probe)) [
  | inl there ↦ rw there refl
  | inr absent ↦ ap (λ b. is_wide_in (if b then Some (decoded_window PrefetchWindow image probe) else None)) absent ∙ sym (absent_is_narrow probe absent)
]

-- ---- the table

-- what is above each root, and above the buses behind the first k functions
abbrev pub AreAbovesTo : List ℕ → System → ℕ → List Above → Type 0
AreAbovesTo roots s k aboves = AreTo (IsAbove s) roots s k aboves

-- the bus behind a bridge has a place in the table
pub secondary_small : (s : System) → IsSystem s → (f : Function) (r : Record) (bridge : Bridge) → IsRecordInSystem s f r → r.bridge ≡ Some bridge → bridge.secondary < 256
secondary_small s system f r bridge is there =
    let to : bridge.secondary ≡ secondary f = ap (λ (x : decoded.Bridge). x.secondary) (same_bridge_of r f bridge is.value there) in
    let small = (All-contains IsFunction s f system.each is.listed).image.bytes 0x19 in
    omega (arith, to, small)

module _ (roots : List ℕ) (s : System) (system : IsSystem s) (nested : IsNested roots s) where
  above_root : (bus : ℕ) → Contains roots bus → IsAbove s bus no_bridge
  above_root bus root = record {
    io = sym (all_above_root roots s system nested (λ b. has_window IoWindow b.probe) bus root);
    pref = sym (all_above_root roots s system nested (λ b. has_window PrefetchWindow b.probe) bus root);
    wide = sym (all_above_root roots s system nested (λ b. is_wide_window PrefetchWindow b.probe) bus root);
  }

  pub aboves_none : AreAbovesTo roots s 0 (replicate 256 no_bridge)
  aboves_none = none_yet (IsAbove s) roots s system nested no_bridge above_root

  -- ---- the next function

  module _ (k : ℕ) (f : Function) (r : Record) (at : slice_get s k ≡ Some f) (is : IsRecordInSystem s f r) (aboves : List Above) (was : AreAbovesTo roots s k aboves) where
    -- what is above its bus is known
    pub above_of : (d : Above) → IsAbove s f.slot.bus (get_or aboves f.slot.bus d)
    above_of = of_bus (IsAbove s) roots s system nested k f at aboves was

    -- a function that is no bridge changes nothing
    pub aboves_same : r.bridge ≡ None → AreAbovesTo roots s (k + 1) aboves
    aboves_same none = same_after (IsAbove s) roots s system nested k f at aboves was (sym (same_bridge r f is.value) ∙ ap is_some none)

    module _ (bridge : Bridge) (there : r.bridge ≡ Some bridge) (above new : Above) where
      is_one : is_bridge f ≡ true
      is_one = sym (same_bridge r f is.value) ∙ ap is_some there

      leads_to : bridge.secondary ≡ secondary f
      leads_to = ap (λ (x : decoded.Bridge). x.secondary) (same_bridge_of r f bridge is.value there)

      one_more : (test : Function → Bool) (old here all : Bool) → old ≡ list_all test (bridges_above s f.slot.bus) → here ≡ test f → all ≡ (old && here) → all ≡ list_all test (bridges_above s (secondary f))
      one_more test old here all e_old e_here e_all =
          e_all ∙ ap (λ x. x && here) e_old ∙ ap (λ x. list_all test (bridges_above s f.slot.bus) && x) e_here ∙ sym (all_above roots s system nested test f is.listed is_one)

      -- what is above the bus behind it
      above_next : IsAbove s f.slot.bus above → new.io ≡ (above.io && is_some bridge.windows.io) → new.pref ≡ (above.pref && is_some bridge.windows.pref) → new.wide ≡ (above.wide && is_wide_in bridge.windows.pref)
          → IsAbove s (secondary f) new
      above_next at_bus io pref wide =
          let same = same_bridge_of r f bridge is.value there in
          let io_is = ap (λ (x : decoded.Bridge). x.windows.io) same in
          let pref_is = ap (λ (x : decoded.Bridge). x.windows.prefetch) same in
          record {
            io = one_more (λ b. has_window IoWindow b.probe) above.io (is_some bridge.windows.io) new.io at_bus.io (ap is_some io_is ∙ some_window IoWindow f.image f.probe) io;
            pref = one_more (λ b. has_window PrefetchWindow b.probe) above.pref (is_some bridge.windows.pref) new.pref at_bus.pref (ap is_some pref_is ∙ some_window PrefetchWindow f.image f.probe) pref;
            wide = one_more (λ b. is_wide_window PrefetchWindow b.probe) above.wide (is_wide_in bridge.windows.pref) new.wide at_bus.wide (ap is_wide_in pref_is ∙ wide_window f.image f.probe) wide;
          }

      pub aboves_more : IsAbove s f.slot.bus above → new.io ≡ (above.io && is_some bridge.windows.io) → new.pref ≡ (above.pref && is_some bridge.windows.pref) → new.wide ≡ (above.wide && is_wide_in bridge.windows.pref)
          → AreAbovesTo roots s (k + 1) (set aboves bridge.secondary new)
      aboves_more at_bus io pref wide = put_after (IsAbove s) roots s system nested k f at aboves was bridge.secondary new is_one leads_to (above_next at_bus io pref wide)

  -- once all functions are passed, the table is whole
  pub whole_aboves : (k : ℕ) (aboves : List Above) → k ≡ length s → AreAbovesTo roots s k aboves → AreAboves s aboves
  whole_aboves = whole_table (IsAbove s) roots s system nested
