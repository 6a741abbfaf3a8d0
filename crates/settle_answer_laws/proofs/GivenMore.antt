-- A bridge forwards and passes no less, with what is given, than another state of it that has no more on.
use Rattle.std.proofs.Common.{◌≡◌, ◌&&◌, ℕ, inl, inr, Bool, true, not, ◌∙◌, ap}
use Rattle.std.specs.Bool.{nat_le}
use Rattle.std.specs.List.{list_any}
use Rattle.std.proofs.lemmas.Bool.{and_from, and_parts, or_cases, or_left, or_right}
use Rattle.pci_spec.specs.Slot.{Slot, same_slot}
use Rattle.pci_spec.specs.Window.{IoWindow, MemoryWindow, PrefetchWindow, holds}
use Rattle.pci_spec.specs.Decoded.{Range}
use Rattle.pci_spec.specs.System.{Function, Space, Io, Memory, is_bridge, is_space_on, window_claims}
use Rattle.pci_spec.specs.System as system
use Rattle.judge_spec.specs.Given.{Given, LegacyBridge, TakingBridge, is_cut, legacy_claims, legacy_holds, palette_claims, palette_holds, ranges_of, takes}
use Rattle.judge_spec.specs.Claims.{forwards, forwards_else, passes, passes_else}

-- a bridge that passes an address by a window has the space on
passes_on : (space : Space) (prefetchable : Bool) (a : ℕ) (b : Function) → system.passes space prefetchable a b ≡ true → is_space_on b space ≡ true
passes_on Io prefetchable a b e = (and_parts (is_space_on b Io) (holds IoWindow b.image b.probe a) e).0
passes_on Memory prefetchable a b e = elim (or_cases (window_claims b MemoryWindow a) (prefetchable && window_claims b PrefetchWindow a) e) [
  | inl plain ↦ (and_parts (is_space_on b Memory) (holds MemoryWindow b.image b.probe a) plain).0
  | inr other ↦ (and_parts (is_space_on b Memory) (holds PrefetchWindow b.image b.probe a) (and_parts prefetchable (window_claims b PrefetchWindow a) other).1).0
]

module _ (given : Given) (space : Space) (a : ℕ) (b c : Function) (slots : c.slot ≡ b.slot) (bridge : is_bridge b ≡ true → is_bridge c ≡ true) (on : is_space_on b space ≡ true → is_space_on c space ≡ true) where
  -- by what is given of a slot
  by_slot : (test : Slot → Bool) → (is_bridge b && is_space_on b space && test b.slot) ≡ true → (is_bridge c && is_space_on c space && test c.slot) ≡ true
  by_slot test e =
      let parts = and_parts (is_bridge b && is_space_on b space) (test b.slot) e in
      let first = and_parts (is_bridge b) (is_space_on b space) parts.0 in
      and_from (is_bridge c && is_space_on c space) (test c.slot) (and_from (is_bridge c) (is_space_on c space) (bridge first.0) (on first.1)) (ap test slots ∙ parts.1)

  pub legacy_more : legacy_claims given space a b ≡ true → legacy_claims given space a c ≡ true
  legacy_more = by_slot (λ slot. list_any (λ (entry : LegacyBridge). same_slot entry.slot slot && legacy_holds entry.is_wide space a) given.legacy)

  pub palette_more : palette_claims given space a b ≡ true → palette_claims given space a c ≡ true
  palette_more = by_slot (λ slot. list_any (λ (entry : LegacyBridge). same_slot entry.slot slot && palette_holds entry.is_wide space a) given.palette)

  takes_more : takes given space a b ≡ true → takes given space a c ≡ true
  takes_more = by_slot (λ slot. list_any (λ (entry : TakingBridge). same_slot entry.slot slot && list_any (λ (r : Range). nat_le r.first a && nat_le a r.last) (ranges_of entry space)) given.unclaimed)

  passes_else_more : passes_else given space a b ≡ true → passes_else given space a c ≡ true
  passes_else_more e = elim (or_cases (legacy_claims given space a b) (takes given space a b) e) [
    | inl legacy ↦ or_left (legacy_claims given space a c) (takes given space a c) (legacy_more legacy)
    | inr taken ↦ or_right (legacy_claims given space a c) (takes given space a c) (takes_more taken)
  ]

  forwards_else_more : forwards_else given space a b ≡ true → forwards_else given space a c ≡ true
  forwards_else_more e = elim (or_cases (passes_else given space a b) (palette_claims given space a b) e) [
    | inl passed ↦ or_left (passes_else given space a c) (palette_claims given space a c) (passes_else_more passed)
    | inr palette ↦ or_right (passes_else given space a c) (palette_claims given space a c) (palette_more palette)
  ]

  -- ISA Enable takes from its windows what it took
  uncut_more : not (is_cut given space a b.slot) ≡ true → not (is_cut given space a c.slot) ≡ true
  uncut_more e = ap (λ slot. not (is_cut given space a slot)) slots ∙ e

  pub forwards_more : (system.forwards space a b ≡ true → system.forwards space a c ≡ true) → forwards given space a b ≡ true → forwards given space a c ≡ true
  forwards_more more e = elim (or_cases (system.forwards space a b && not (is_cut given space a b.slot)) (forwards_else given space a b) e) [
    | inl window ↦
        let parts = and_parts (system.forwards space a b) (not (is_cut given space a b.slot)) window in
        or_left (system.forwards space a c && not (is_cut given space a c.slot)) (forwards_else given space a c)
        (and_from (system.forwards space a c) (not (is_cut given space a c.slot)) (more parts.0) (uncut_more parts.1))
    | inr other ↦ or_right (system.forwards space a c && not (is_cut given space a c.slot)) (forwards_else given space a c) (forwards_else_more other)
  ]

  passes_more : (prefetchable : Bool) → system.passes space prefetchable a c ≡ true → passes given space prefetchable a b ≡ true → passes given space prefetchable a c ≡ true
  passes_more prefetchable by e = elim (or_cases (system.passes space prefetchable a b && not (is_cut given space a b.slot)) (passes_else given space a b) e) [
    | inl window ↦
        let parts = and_parts (system.passes space prefetchable a b) (not (is_cut given space a b.slot)) window in
        or_left (system.passes space prefetchable a c && not (is_cut given space a c.slot)) (passes_else given space a c)
        (and_from (system.passes space prefetchable a c) (not (is_cut given space a c.slot)) by (uncut_more parts.1))
    | inr other ↦ or_right (system.passes space prefetchable a c && not (is_cut given space a c.slot)) (passes_else given space a c) (passes_else_more other)
  ]

-- A bridge that passes an address with what is given passes it in any other state in which it passes it by a window.
pub passes_by_window : (given : Given) (space : Space) (prefetchable : Bool) (a : ℕ) (b c : Function) → c.slot ≡ b.slot → (is_bridge b ≡ true → is_bridge c ≡ true)
    → system.passes space prefetchable a c ≡ true → passes given space prefetchable a b ≡ true → passes given space prefetchable a c ≡ true
passes_by_window given space prefetchable a b c slots bridge by =
    passes_more given space a b c slots bridge (λ was. passes_on space prefetchable a c by) prefetchable by
