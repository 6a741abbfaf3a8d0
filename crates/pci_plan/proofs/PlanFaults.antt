-- When planning answers a fault.
use Rattle.std.proofs.Common.{◌≡◌, refl, sym, ◌∙◌, ap, subst, Result, Ok, Err}
use Rattle.std.specs.Prelude.{◌↔◌}
use Rattle.pci_spec.specs.Window.{WindowKind, IoWindow, MemoryWindow, PrefetchWindow}
use Rattle.pci_spec.specs.System.{IsSystem}
use Rattle.plan_spec.specs.PlanPromise.{CanBePlanned}
use Rattle.pci_base.specs.declared.memory.Refused.{Refused}
use Rattle.pci_base.specs.declared.memory.Refused.TheVariants as refusals
use Rattle.pci_base.specs.WindowKinds.{kind_value}
use Rattle.pci_tree.specs.Admission.{Admission}
use Rattle.pci_place.specs.Above.{system_in}
use Rattle.pci_place.specs.Pools.{pools_value}
use Rattle.pci_plan.specs.Plans.{plan_fault_of, IsFaultOfPlan}
use Rattle.pci_place.specs.declared.pools.Pools.{Pools}
use Rattle.pci_base.specs.declared.window_kind.WindowKind.{WindowKind as CodeKind}
use Rattle.pci_base.specs.declared.window_kind.WindowKind.TheVariants as classes
use Rattle.pci_plan.specs.declared.plan_fault.PlanFault.{PlanFault}
use Rattle.pci_plan.specs.declared.plan_fault.PlanFault.TheVariants.{BadPools, NoWindow, NoRoom, NotAccepted}
use Rattle.pci_plan.proofs.Refusing.{none_refused, one_fault}

-- the class of the code by that of the definitions
class_back : WindowKind → CodeKind
class_back IoWindow = classes.Io
class_back MemoryWindow = classes.Memory
class_back PrefetchWindow = classes.Prefetchable

class_same : (c : CodeKind) → class_back (kind_value c) ≡ c
unfolding class_back
class_same classes.Io = refl
class_same classes.Memory = refl
class_same classes.Prefetchable = refl

-- two faults with one value are one, where judging refuses nothing
by_value : (a : Admission) (pools : Pools) (e f : PlanFault) → plan_fault_of e ≡ plan_fault_of f → IsFaultOfPlan a pools e → e ≡ f
by_value a pools BadPools BadPools same is = refl
by_value a pools (NoWindow slot) (NoWindow other) same is = let s : slot ≡ other = cc in ap NoWindow s
by_value a pools (NoRoom c) (NoRoom d) same is = let s : kind_value c ≡ kind_value d = cc in ap NoRoom (sym (class_same c) ∙ ap class_back s ∙ class_same d)
by_value a pools (NotAccepted x) f same is = absurd is
by_value a pools BadPools (NoWindow other) same is = cc
by_value a pools BadPools (NoRoom d) same is = cc
by_value a pools BadPools (NotAccepted y) same is = cc
by_value a pools (NoWindow slot) BadPools same is = cc
by_value a pools (NoWindow slot) (NoRoom d) same is = cc
by_value a pools (NoWindow slot) (NotAccepted y) same is = cc
by_value a pools (NoRoom c) BadPools same is = cc
by_value a pools (NoRoom c) (NoWindow other) same is = cc
by_value a pools (NoRoom c) (NotAccepted y) same is = cc

-- a fault that is there is answered, and no other
pub refused_by : {T : Type 0} (a : Admission) (pools : Pools) → IsSystem (system_in a) → (result : Result T (Refused PlanFault)) (e : PlanFault) → result ≡ Err (refusals.Fault e) → IsFaultOfPlan a pools e
    → (f : PlanFault) → (result ≡ Err (refusals.Fault f)) ↔ IsFaultOfPlan a pools f
refused_by a pools system result e is there f = (
  λ same. (let one : e ≡ f = cc in subst (IsFaultOfPlan a pools) one there),
  λ other. is ∙ ap (λ x. Err (refusals.Fault x)) (by_value a pools e f (one_fault a.roots (system_in a) (pools_value pools) system (plan_fault_of e) (plan_fault_of f) there other) there),
)

-- where everything can be planned no fault is
pub not_refused : {T : Type 0} (a : Admission) (pools : Pools) → CanBePlanned a.roots (system_in a) (pools_value pools) → (result : Result T (Refused PlanFault)) → ((f : PlanFault) → result ≡ Err (refusals.Fault f) → ⊥)
    → (f : PlanFault) → (result ≡ Err (refusals.Fault f)) ↔ IsFaultOfPlan a pools f
not_refused a pools can result never f = (λ same. absurd (never f same), λ there. absurd (none_refused a.roots (system_in a) (pools_value pools) can (plan_fault_of f) there))

pub memory_is_none : {T : Type 0} (result : Result T (Refused PlanFault)) → result ≡ Err refusals.Memory → (f : PlanFault) → result ≡ Err (refusals.Fault f) → ⊥
memory_is_none result is f same = cc

pub plan_is_none : {T : Type 0} (result : Result T (Refused PlanFault)) (x : T) → result ≡ Ok x → (f : PlanFault) → result ≡ Err (refusals.Fault f) → ⊥
plan_is_none result x is f same = cc
