-- Laws of judging with told ranges.
use Rattle.std.specs.Prelude.{◌≡◌, ℕ, ◌<◌, ◌↔◌, IsFalse, List, [], map}
use Rattle.pci_spec.specs.Slot.{Slot}
use Rattle.pci_spec.specs.System.{System, Space, IsAddress, IsSystem}
use Rattle.pci_spec.specs.Bus.{IsNested}
use Rattle.pci_spec.specs.Text.{Block, IsDump}
use Rattle.pci_spec.specs.Fault.{Unreached, Address, RegionName}
use Rattle.pci_spec.specs.JudgingLaws as plain
use Rattle.judge_spec.specs.Given.{Given}
use Rattle.judge_spec.specs.Claims as untold
use Rattle.judge_spec.specs.Fault as untold_fault
use Rattle.judge_spec.specs.FaultLines as untold_lines
use Rattle.judge_spec.specs.Line as untold_line
use Rattle.judge_spec.specs.Told.{ToldRange, IsTold}
use Rattle.judge_spec.specs.ToldClaims.{Told, nothing_told, is_held, ClaimsOnBus, IsRangeAt, RangeClaims}
use Rattle.judge_spec.specs.ToldFault.{Fault, Known, NotListed, IsIn, IsNotListed}
use Rattle.judge_spec.specs.ToldAllFaults.{region_number, AreAllOfJudging}
use Rattle.judge_spec.specs.ToldFaultLines.{AreAllFaults}
use Rattle.judge_spec.specs.ToldSound.{IsSingle, IsHome, IsSound}
use Rattle.judge_spec.specs.ToldLine.{list_text}

-- ---- with nothing told each word is the one without it, whoever is asleep

abbrev pub SameClaimsOnBus : Type 0
SameClaimsOnBus =
    (asleep : List Slot) (given : Given) (s : System) (bus : ℕ) (at : Address) (region : RegionName)
    → ClaimsOnBus (nothing_told asleep) given s bus at region
    ↔ untold.ClaimsOnBus given s bus at region

abbrev pub SameToldFaults : Type 0
SameToldFaults =
    (asleep : List Slot) (given : Given) (roots : List ℕ) (s : System) (fault : untold_fault.Fault)
    → IsIn (nothing_told asleep) given roots s (Known fault)
    ↔ untold_fault.IsIn given roots s fault

abbrev pub NoneNotListed : Type 0
NoneNotListed =
    (asleep : List Slot) (given : Given) (roots : List ℕ) (s : System) (slot : Slot)
    → IsIn (nothing_told asleep) given roots s (NotListed slot) → ⊥

-- the faults are those of the list without what is told, in its order
pub record AreUntoldFaults (given : Given) (roots : List ℕ) (dump probe : List Block)
    (faults : List Fault) : Type 0 where
  pub untold_faults : List untold_fault.Fault
  pub all : untold_lines.AreAllFaults given roots dump probe untold_faults
  pub are : faults ≡ map Known untold_faults

abbrev pub SameToldList : Type 0
SameToldList =
    (asleep : List Slot) (given : Given) (roots : List ℕ) (dump probe : List Block)
    (faults : List Fault) → IsDump dump → IsDump probe
    → AreAllFaults (nothing_told asleep) given roots dump probe faults
    ↔ AreUntoldFaults given roots dump probe faults

-- such a list is printed as it is without what is told
abbrev pub SameToldText : Type 0
SameToldText =
    (given : Given) (roots : List ℕ) (dump probe : List Block) (faults : List untold_fault.Fault)
    → untold_lines.AreAllFaults given roots dump probe faults
    → list_text (map Known faults) ≡ untold_line.list_text faults

-- ---- what is told

-- A fault that is there without what is told is there with it, too.
abbrev pub ToldOnlyAdds : Type 0
ToldOnlyAdds =
    (told : Told) (given : Given) (roots : List ℕ) (s : System) (fault : untold_fault.Fault)
    → untold_fault.IsIn given roots s fault → IsIn told given roots s (Known fault)

-- 60 never names a held range,
abbrev pub HeldAreNotUnreached : Type 0
HeldAreNotUnreached =
    (told : Told) (given : Given) (roots : List ℕ) (s : System) (slot : Slot) (register : ℕ)
    (space : Space) (a : ℕ) (bridge : Slot)
    → IsIn told given roots s
    (Known (untold_fault.Known (Unreached slot register space a bridge)))
    → IsFalse (is_held told register)

-- nor does 63.
abbrev pub HeldAreNotOutside : Type 0
HeldAreNotOutside =
    (told : Told) (given : Given) (roots : List ℕ) (s : System) (slot : Slot) (register : ℕ)
    (space : Space) (a : ℕ)
    → IsIn told given roots s (Known (untold_fault.Outside slot register space a))
    → IsFalse (is_held told register)

-- Of registers the order is the one without told ranges.
abbrev pub SameOrder : Type 0
SameOrder =
    (first : Slot) (first_register : ℕ) (second : Slot) (second_register : ℕ)
    → first_register < 256 → second_register < 256
    → (region_number first first_register < region_number second second_register)
    ↔ (plain.region_number first first_register < plain.region_number second second_register)

-- ---- what judging is good for

-- A list of all is empty exactly where at most one region claims an access, and each region is reached.
abbrev pub ToldEmptyWhereNoneFails : Type 0
ToldEmptyWhereNoneFails =
    (told : Told) (given : Given) (roots : List ℕ) (s : System) (faults : List untold_fault.Fault)
    → IsTold told.ranges → IsSystem s → IsNested roots s
    → ((slot : Slot) → IsNotListed told s slot → ⊥)
    → AreAllOfJudging told given roots s faults
    → (faults ≡ []) ↔ (IsSingle told given roots s × IsHome told given roots s)

-- A system is sound exactly where no fault is there.
abbrev pub ToldSoundWithoutFaults : Type 0
ToldSoundWithoutFaults =
    (told : Told) (given : Given) (roots : List ℕ) (s : System) → IsTold told.ranges → IsSystem s
    → IsSound told given roots s ↔ ((fault : Fault) → IsIn told given roots s fault → ⊥)

-- Two lists of all faults of a dump and its probe are equal.
abbrev pub ToldListIsDetermined : Type 0
ToldListIsDetermined =
    (told : Told) (given : Given) (roots : List ℕ) (dump probe : List Block)
    (faults others : List Fault) → AreAllFaults told given roots dump probe faults
    → AreAllFaults told given roots dump probe others → faults ≡ others

-- What a range of a text claims is an address of its space.
abbrev pub ToldClaimAddresses : Type 0
ToldClaimAddresses =
    (told : Told) (s : System) (region : RegionName) (r : ToldRange) (space : Space) (a : ℕ)
    → IsTold told.ranges → IsRangeAt told region r → RangeClaims told s r space a
    → IsAddress space a
