-- Of the faults of planning at most one is there, and none where everything can be planned.
use Rattle.std.proofs.Common.{◌≡◌, ℕ, List, refl, arith, sym, ◌∙◌, ap}
use Rattle.std.proofs.lemmas.Bool.{both_ways}
use Rattle.pci_spec.specs.Slot.{Slot, slot_number}
use Rattle.pci_spec.specs.Window.{WindowKind, IoWindow, MemoryWindow, PrefetchWindow}
use Rattle.pci_spec.specs.System.{System, Function, IsSystem}
use Rattle.plan_spec.specs.Plan.{Pools}
use Rattle.plan_spec.specs.Plan as plan
use Rattle.plan_spec.specs.PlanPromise.{IsFirstLacking, IsFirstTooLarge, IsPlanFaultOf, CanBePlanned}
use Rattle.pci_spec.proofs.Nesting.{one_function}

-- nothing that can be planned is refused
pub none_refused : (roots : List ℕ) (s : System) (pools : Pools) → CanBePlanned roots s pools → (fault : plan.PlanFault) → IsPlanFaultOf roots s pools fault → ⊥
none_refused roots s pools can plan.BadPools bad = both_ways _ can.good bad
none_refused roots s pools can (plan.NoWindow slot) (good, first) = can.windows slot first.lacks
none_refused roots s pools can (plan.NoRoom IoWindow) (good, windows, tight) = both_ways _ tight (can.room IoWindow)
none_refused roots s pools can (plan.NoRoom MemoryWindow) (good, windows, tight) = both_ways _ tight.0 (can.room MemoryWindow)
none_refused roots s pools can (plan.NoRoom PrefetchWindow) (good, windows, tight) = both_ways _ tight.0 (can.room PrefetchWindow)
none_refused roots s pools can (plan.NotAccepted fault) is = is

-- two functions that are the first to lack a window are one
one_lacking : (s : System) → IsSystem s → (a b : Slot) → IsFirstLacking s a → IsFirstLacking s b → a ≡ b
one_lacking s system a b first second =
    let low = first.first b second.lacks in
    let high = second.first a first.lacks in
    let fa = first.lacks in
    let fb = second.lacks in
    let ea = ap slot_number fa.2 in
    let eb = ap slot_number fb.2 in
    let one = one_function s system fa.0 fb.0 fa.1 fb.1 (omega (arith, low, high, ea, eb)) in
    sym fa.2 ∙ ap (λ (f : Function). f.slot) one ∙ fb.2

one_class : (roots : List ℕ) (s : System) (pools : Pools) (c d : WindowKind) → IsFirstTooLarge roots s pools c → IsFirstTooLarge roots s pools d → c ≡ d
one_class roots s pools IoWindow IoWindow a b = refl
one_class roots s pools IoWindow MemoryWindow a b = absurd (both_ways _ a b.1)
one_class roots s pools IoWindow PrefetchWindow a b = absurd (both_ways _ a b.1)
one_class roots s pools MemoryWindow IoWindow a b = absurd (both_ways _ b a.1)
one_class roots s pools MemoryWindow MemoryWindow a b = refl
one_class roots s pools MemoryWindow PrefetchWindow a b = absurd (both_ways _ a.0 b.2)
one_class roots s pools PrefetchWindow IoWindow a b = absurd (both_ways _ b a.1)
one_class roots s pools PrefetchWindow MemoryWindow a b = absurd (both_ways _ b.0 a.2)
one_class roots s pools PrefetchWindow PrefetchWindow a b = refl

-- the fault is one
pub one_fault : (roots : List ℕ) (s : System) (pools : Pools) → IsSystem s → (e f : plan.PlanFault) → IsPlanFaultOf roots s pools e → IsPlanFaultOf roots s pools f → e ≡ f
one_fault roots s pools system plan.BadPools plan.BadPools a b = refl
one_fault roots s pools system plan.BadPools (plan.NoWindow slot) a b = absurd (both_ways _ b.0 a)
one_fault roots s pools system plan.BadPools (plan.NoRoom c) a b = absurd (both_ways _ b.0 a)
one_fault roots s pools system plan.BadPools (plan.NotAccepted fault) a b = absurd b
one_fault roots s pools system (plan.NoWindow slot) plan.BadPools a b = absurd (both_ways _ a.0 b)
one_fault roots s pools system (plan.NoWindow slot) (plan.NoWindow other) a b = ap plan.NoWindow (one_lacking s system slot other a.1 b.1)
one_fault roots s pools system (plan.NoWindow slot) (plan.NoRoom c) a b = absurd (b.1 slot a.1.lacks)
one_fault roots s pools system (plan.NoWindow slot) (plan.NotAccepted fault) a b = absurd b
one_fault roots s pools system (plan.NoRoom c) plan.BadPools a b = absurd (both_ways _ a.0 b)
one_fault roots s pools system (plan.NoRoom c) (plan.NoWindow slot) a b = absurd (a.1 slot b.1.lacks)
one_fault roots s pools system (plan.NoRoom c) (plan.NoRoom d) a b = ap plan.NoRoom (one_class roots s pools c d a.2 b.2)
one_fault roots s pools system (plan.NoRoom c) (plan.NotAccepted fault) a b = absurd b
one_fault roots s pools system (plan.NotAccepted fault) f a b = absurd a
