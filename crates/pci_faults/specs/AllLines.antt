-- All faults of judging of a system, with what is given and told.
use Rattle.std.specs.Prelude.{◌≡◌, ◌<◌, ◌==◌, Bool, not, ◌||◌, is_some, List, length, map}
use Rattle.pci_spec.specs.System.{System}
use Rattle.pci_spec.specs.Fault as faults
use Rattle.pci_function.specs.declared.fault.Fault as code
use Rattle.pci_function.specs.Fault as plain
use Rattle.pci_tree.specs.Outline.{Tree}
use Rattle.pci_tree.specs.Trees.{HasTree}
use Rattle.judge_spec.specs.Given.{Given}
use Rattle.judge_spec.specs.Fault as untold
use Rattle.judge_spec.specs.ToldClaims.{Told}
use Rattle.judge_spec.specs.ToldFault as spec
use Rattle.judge_spec.specs.ToldNumbered.{AreListedIn}
use Rattle.judge_spec.specs.ToldAllFaults.{AreAllOfJudging}
use Rattle.pci_claims.specs.declared.given.Given as claims
use Rattle.pci_faults.specs.declared.any_fault.AnyFault.{AnyFault}
use Rattle.pci_faults.specs.declared.any_fault.AnyFault.TheVariants.{Early, NotListed, OutsideHost, Unreached, Clash, Split}
use Rattle.pci_faults.specs.Named.{unreached_of, clash_of, split_of, outside_of}

-- a fault that names no told range
abbrev pub plain_fault : code.Fault → spec.Fault
plain_fault fault = spec.Known (untold.Known (plain.fault_of fault))

-- the fault, as the definitions have it
abbrev pub any_fault_value : AnyFault → spec.Fault
any_fault_value (Early fault) = plain_fault fault
any_fault_value (NotListed slot) = spec.NotListed slot
any_fault_value (OutsideHost fault) = spec.Known (outside_of fault)
any_fault_value (Unreached fault) = spec.Known (unreached_of fault)
any_fault_value (Clash fault) = spec.Known (clash_of fault)
any_fault_value (Split fault) = spec.Known (split_of fault)

-- a fault that is held as one before judging is one
abbrev pub IsResolved : AnyFault → Type 0
IsResolved (Early fault) = faults.fault_number (plain.fault_of fault) < 60
IsResolved _ = Unit {0}

-- all of judging, in each system with the tree that lists each slot of a range that isn't held
pub record AreAllLines (told : Told) (given : Given) (t : Tree) (list : List AnyFault) : Type 0 where
  pub judged : List untold.Fault
  pub are : map any_fault_value list ≡ map spec.Known judged
  pub all : (s : System) → HasTree t s → AreListedIn told s
      → AreAllOfJudging told given t.roots s judged

-- whether something is given: ranges of a space, a bridge with legacy parts, ISA Enable or a palette part, or one that takes
-- what nobody claims
abbrev pub is_given : claims.Given → Bool
is_given given =
    is_some given.io || is_some given.memory || not (length given.legacy.now == 0)
    || not (length given.isa.now == 0) || not (length given.palette.now == 0)
    || not (length given.unclaimed.now == 0)
