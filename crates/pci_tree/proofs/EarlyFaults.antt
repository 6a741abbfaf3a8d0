-- Faults that are looked for before judging, by their numbers.
use Rattle.std.proofs.Common.{◌≡◌, ℕ, ◌<◌, List, lit<, arith}
use Rattle.pci_spec.specs.System.{Function}
use Rattle.pci_spec.specs.Fault.{Fault, ProfileFault, PaletteSnoop, OfProfile, fault_number, profile_number, SlotsDiffer, Unreached, Clash, Split}
use Rattle.pci_spec.specs.Order.{phase_of}
use Rattle.pci_function.specs.Profile.{IsHere}
use Rattle.pci_tree.specs.PlaceFaults.{IsPlaceFault, IsSomePlaceFault}
use Rattle.pci_function.specs.Fault.{fault_of}
use Rattle.pci_function.specs.declared.record.Record.{Record}
use Rattle.pci_function.specs.declared.fault.Fault.{Fault as FaultOfCode}
use Rattle.pci_function.specs.declared.fault.Fault.TheVariants as codes

-- a fault of the profile is
early-of_profile : (fault : ProfileFault) → profile_number fault < 60
early-of_profile PaletteSnoop = lit< tt
early-of_profile _ = lit< tt

-- one of slots is
pub early-of_slots : (e : Fault) → phase_of e ≡ 0 → fault_number e < 60
early-of_slots (SlotsDiffer slot) is = lit< tt
early-of_slots (Unreached slot register space address bridge) is = absurd (let no : ⊥ = omega (arith, is) in no)
early-of_slots (Clash bus space address first first_register second second_register) is = absurd (let no : ⊥ = omega (arith, is) in no)
early-of_slots (Split space address first first_register second second_register) is = absurd (let no : ⊥ = omega (arith, is) in no)
early-of_slots (OfProfile fault slot) is = early-of_profile fault
early-of_slots _ is = lit< tt

-- so is one of a function by itself
pub early-of_here : (f : Function) (e : Fault) → IsHere f e → fault_number e < 60
early-of_here f (Unreached slot register space address bridge) is = absurd is
early-of_here f (Clash bus space address first first_register second second_register) is = absurd is
early-of_here f (Split space address first first_register second second_register) is = absurd is
early-of_here f (OfProfile fault slot) is = early-of_profile fault
early-of_here f _ is = lit< tt

-- and one of places
early-of_place : (roots : List ℕ) (records : List Record) (r : Record) (e : FaultOfCode) → IsPlaceFault roots records r e → fault_number (fault_of e) < 60
early-of_place roots records r (codes.LoneFunction slot) is = lit< tt
early-of_place roots records r (codes.Orphan slot) is = lit< tt
early-of_place roots records r (codes.BusRange slot) is = lit< tt
early-of_place roots records r _ is = absurd is

pub early-of_some_place : (roots : List ℕ) (records : List Record) (e : FaultOfCode) → IsSomePlaceFault roots records e → fault_number (fault_of e) < 60
early-of_some_place roots records e some = early-of_place roots records some.r e some.is
