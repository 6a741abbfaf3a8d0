-- Laws of probes: what isn't told of a function settles nothing.
use Rattle.std.specs.Prelude.{ℕ, ◌==◌, nat_le, Bool, ◌&&◌, ◌||◌, ◌↔◌, IsTrue, List}
use Rattle.std.specs.List.{All, AllZip}
use Rattle.pci_spec.specs.System.{System, Function, IsSystem, Space, Part, Claims}
use Rattle.pci_spec.specs.Fault.{Fault, fault_number, IsIn}
use Rattle.pci_spec.specs.Order.{IsFirstIn}
use Rattle.pci_spec.specs.Sound.{IsSound}
use Rattle.pci_spec.specs.Decoded.{IsDecodable}
use Rattle.pci_spec.specs.ToldAlike.{IsToldAlike, IsToldAtLeast, IsReadable}

-- whether a fault's number is one of reading a header, its address registers and its probe
abbrev pub is_reading_number : ℕ → Bool
is_reading_number n = (nat_le 20 n && nat_le n 26) || n == 31

-- Each function is readable exactly where no such fault is there.
abbrev pub ReadableWithoutFaults : Type 0
ReadableWithoutFaults =
    (roots : List ℕ) (s : System)
    → All IsReadable s
    ↔ ((fault : Fault) → IsTrue (is_reading_number (fault_number fault)) → IsIn roots s fault → ⊥)

-- Two functions of which the same is told claim the same addresses, part by part.
abbrev pub AlikeClaimTheSame : Type 0
AlikeClaimTheSame =
    (f g : Function) → IsDecodable f → IsDecodable g → IsToldAlike f g
    → (part : Part) (space : Space) (a : ℕ) → Claims f part space a ↔ Claims g part space a

-- Two systems of which the same is told, function by function, have the same faults,
abbrev pub AlikeHaveTheSameFaults : Type 0
AlikeHaveTheSameFaults =
    (roots : List ℕ) (s t : System) → All IsReadable s → All IsReadable t → AllZip IsToldAlike s t
    → (fault : Fault) → IsIn roots s fault ↔ IsIn roots t fault

-- the same one is the first,
abbrev pub AlikeHaveTheSameFirstFault : Type 0
AlikeHaveTheSameFirstFault =
    (roots : List ℕ) (s t : System) → All IsReadable s → All IsReadable t → AllZip IsToldAlike s t
    → (fault : Fault) → IsFirstIn roots s fault ↔ IsFirstIn roots t fault

-- and both are sound or neither is.
abbrev pub AlikeAreSoundTogether : Type 0
AlikeAreSoundTogether =
    (roots : List ℕ) (s t : System) → IsSystem s → IsSystem t → All IsReadable s → All IsReadable t
    → AllZip IsToldAlike s t
    → IsSound roots s ↔ IsSound roots t

-- With greater sizes a function claims what it claims with lesser ones,
abbrev pub GreaterClaimAsMuch : Type 0
GreaterClaimAsMuch =
    (f g : Function) → IsDecodable f → IsDecodable g → IsToldAtLeast f g
    → (part : Part) (space : Space) (a : ℕ) → Claims f part space a → Claims g part space a

-- and each fault of a system is there with greater sizes too.
abbrev pub GreaterHaveTheFaults : Type 0
GreaterHaveTheFaults =
    (roots : List ℕ) (s t : System) → All IsReadable s → All IsReadable t
    → AllZip IsToldAtLeast s t
    → (fault : Fault) → IsIn roots s fault → IsIn roots t fault
