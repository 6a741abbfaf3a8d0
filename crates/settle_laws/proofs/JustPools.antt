-- What a plan comes to is settled in lists with its pools, as in those that have just these.
use Rattle.std.proofs.Common.{◌≡◌, ℕ, List, true, false, arith, refl}
use Rattle.std.proofs.lemmas.Bool.{both_ways, or_left}
use Rattle.pci_spec.specs.Slot.{Slot}
use Rattle.pci_spec.specs.Window.{WindowKind, IoWindow, MemoryWindow, PrefetchWindow}
use Rattle.plan_spec.specs.Plan.{Pools, pool_of}
use Rattle.plan_spec.proofs.Planning.Whole.{moved_system}
use Rattle.settle_spec.specs.Parts.{has_left, lies_within}
use Rattle.settle_spec.specs.Stands.{is_listed}
use Rattle.settle_laws.proofs.InLists.{within_from}
use Rattle.settle_laws.proofs.PoolLists.{can_settle_where_planned}
use Rattle.settle_laws.specs.SettledPlans.{HasPools, PlannedIsSettled, PlannedIsSettledInItsPools, just_in}
use Rattle.settle_laws.specs.Switching.{PlannedIsStanding}
use Rattle.settle_laws.proofs.NothingSettled.{nothing_settled, nothing_grows}
use Rattle.settle_laws.proofs.ShownPlaces.{plan_is_laid_out}
use Rattle.settle_laws.proofs.PlannedStanding.{all_stand, leaves_nothing}
use Rattle.pci_spec.specs.System.{Function, Io, is_space_on}
use Rattle.std.specs.List.{Contains}

pub planned_is_settled : PlannedIsSettled
planned_is_settled q untold s t pools ws n plannable rising plan has fine =
    let system = moved_system s t plan.planned.moved plannable.system in
    let laid = plan_is_laid_out q.roots s t pools plannable rising plan.planned plan.placed in
    let none = leaves_nothing q t pools system plan.sound laid has in
    let stand = all_stand q t pools system plan.sound laid has plannable.can.good untold in
    let off : (f : Function) → Contains t f → has_left q t f ≡ true → is_space_on f Io ≡ false = λ f listed left. absurd (both_ways (has_left q t f) (none f listed) left) in
    (nothing_settled q untold t system plan.sound stand off fine, nothing_grows q untold t system plan.sound stand off fine)

pub planned_is_standing : PlannedIsStanding
planned_is_standing q untold s t pools ws n plannable rising plan has =
    let system = moved_system s t plan.planned.moved plannable.system in
    let laid = plan_is_laid_out q.roots s t pools plannable rising plan.planned plan.placed in
    record {
      system = system;
      nested = plan.sound.nested;
      profile = plan.sound.profile;
      chains = plan.sound.chains;
      stand = all_stand q t pools system plan.sound laid has plannable.can.good untold;
    }

pool_listed : (roots : List ℕ) (pools : Pools) (fixed : List Slot) (root : ℕ) (c : WindowKind) → is_listed (just_in roots pools fixed) root (pool_of pools c) c ≡ true
pool_listed roots pools fixed root IoWindow = or_left (lies_within pools.io pools.io) false (within_from pools.io pools.io (omega arith, omega arith))
pool_listed roots pools fixed root MemoryWindow = or_left (lies_within pools.memory pools.memory) false (within_from pools.memory pools.memory (omega arith, omega arith))
pool_listed roots pools fixed root PrefetchWindow = or_left (lies_within pools.prefetch pools.prefetch) false (within_from pools.prefetch pools.prefetch (omega arith, omega arith))

pub has_just_pools : (roots : List ℕ) (pools : Pools) (fixed : List Slot) → HasPools (just_in roots pools fixed) pools
has_just_pools roots pools fixed = record { kept = refl; listed = λ root c is_one. pool_listed roots pools fixed root c }

pub planned_is_settled_in_its_pools : PlannedIsSettledInItsPools
planned_is_settled_in_its_pools roots s t pools ws n fixed p rising plan =
    planned_is_settled (just_in roots pools fixed) refl s t pools ws n p rising plan (has_just_pools roots pools fixed)
    (can_settle_where_planned roots s pools p.system p.nested p.profile p.chains rising p.addresses p.can).lists
