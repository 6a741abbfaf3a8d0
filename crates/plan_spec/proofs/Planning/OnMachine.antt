-- The writes of a plan over a machine that is the system with its own writable bits.
use Rattle.std.proofs.Common.{ℕ, List, inr, subst, ◌≡◌, map, take}
use Rattle.std.proofs.lemmas.List.Elements.{All-take}
use Rattle.pci_spec.specs.System.{System}
use Rattle.pci_spec.specs.Machine.{target_of, after_writes, system_after}
use Rattle.plan_spec.specs.Planning.Fitting.{FitsAt}
use Rattle.plan_spec.specs.Planning.PlanWrites.{Change, olds, plan_writes}
use Rattle.plan_spec.specs.Planning.Laws.{AreChanges, PlanOnItsMachine, StopsOnItsMachine}
use Rattle.plan_spec.proofs.Planning.Kept.{images_of}
use Rattle.plan_spec.proofs.Planning.Fit.{moved_start}
use Rattle.plan_spec.proofs.Planning.OwnMachine.{own_machine}
use Rattle.plan_spec.proofs.Planning.Staging.{fits}
use Rattle.plan_spec.proofs.Planning.Stops.{plan_can_stop}

on_machine : (changes : List Change) → AreChanges changes → (k : ℕ)
    → after_writes (map target_of (olds changes)) (take k (plan_writes changes)) ≡ map target_of (system_after (olds changes) (take k (plan_writes changes)))
on_machine changes h k =
    let s = olds changes in
    let images = images_of s h.system in
    own_machine s images s (take k (plan_writes changes)) (moved_start s images) (All-take (FitsAt s) k (plan_writes changes) (fits changes h.system h.moved))

pub plan_on_its_machine : PlanOnItsMachine
plan_on_its_machine s changes h same k =
    subst (λ (t : System). after_writes (map target_of t) (take k (plan_writes changes)) ≡ map target_of (system_after t (take k (plan_writes changes)))) same (on_machine changes h k)

pub stops_on_its_machine : StopsOnItsMachine
stops_on_its_machine roots changes h start end k = (
  system_after (olds changes) (take k (plan_writes changes)),
  plan_can_stop roots changes h start.nested start.profile start.chains end k (inr start),
  on_machine changes h k,
)
