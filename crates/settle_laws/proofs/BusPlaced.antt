-- Facts of lists of one range, of no items, of pages, and of the two classes of memory.
use Rattle.std.proofs.Common.{◌≡◌, ◌<◌, inl, inr, List, [], ◌∷◌, length, false, arith, refl, ap}
use Rattle.std.specs.Bool.{nat_lt}
use Rattle.std.specs.List.{Contains}
use Rattle.std.proofs.lemmas.Bool.{both_ways, lt-ltb}
use Rattle.pci_spec.specs.Decoded.{Range}
use Rattle.pci_spec.specs.Window.{WindowKind, MemoryWindow, PrefetchWindow, page_size}
use Rattle.pci_spec.proofs.Members.{in_nil, in_cons_cases}
use Rattle.plan_spec.specs.Plan.{same_class}
use Rattle.plan_spec.proofs.Planning.Placement.{power_pos, step_power}
use Rattle.settle_spec.specs.Items.{PlacingItem}

pub one_left : (r t : Range) → Contains (r ∷ []) t → r ≡ t
one_left r t has = elim (in_cons_cases r [] t has) [ inl is ↦ is | inr none ↦ absurd (in_nil t none) ]

pub nothing_long : (xs : List PlacingItem) → nat_lt 0 (length xs) ≡ false → xs ≡ []
nothing_long [] none = refl
nothing_long (i ∷ xs) none = absurd (both_ways (nat_lt 0 (length (i ∷ xs))) none (lt-ltb 0 (length (i ∷ xs)) (omega arith)))

pub page_some : (c : WindowKind) → 0 < page_size c
page_some c = power_pos (page_size c) (step_power c)

pub memory_no_prefetch : MemoryWindow ≡ PrefetchWindow → ⊥
memory_no_prefetch e = both_ways (same_class MemoryWindow PrefetchWindow) refl (ap (λ c. same_class c PrefetchWindow) e)
