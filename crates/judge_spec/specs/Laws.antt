-- Laws of what is given.
use Rattle.std.specs.Prelude.{◌≡◌, ℕ, ◌↔◌, Bool, false, IsTrue, IsFalse, List, [], map}
use Rattle.std.specs.List.{Contains}
use Rattle.pci_spec.specs.Slot.{Slot}
use Rattle.pci_spec.specs.Number.{IsImage}
use Rattle.pci_spec.specs.System.{System, Function, Space, IsSystem, Leads, has_part, is_window}
use Rattle.pci_spec.specs.System as system
use Rattle.pci_spec.specs.Bus.{IsNested}
use Rattle.pci_spec.specs.Fault as plain
use Rattle.pci_spec.specs.Sound as sound
use Rattle.pci_spec.specs.Mark.{AssumedRegister}
use Rattle.pci_spec.specs.Why as why
use Rattle.pci_spec.specs.FaultsText as faults_text
use Rattle.pci_spec.specs.Fault.{address_in, named_region}
use Rattle.judge_spec.specs.Given.{Given, nothing_given, starts}
use Rattle.judge_spec.specs.Claims.{Own, Legacy, Palette, Claims, forwards, passes, Gets, IsPassedTo}
use Rattle.judge_spec.specs.Fault.{Fault, Known, IsIn, IsOutside}
use Rattle.judge_spec.specs.Sound.{IsSingle, IsHome, IsSound}
use Rattle.judge_spec.specs.AllFaults.{IsOutsideOf, AreAllOfJudging}
use Rattle.judge_spec.specs.Words.{taken_by_vga, taken_by_isa, taken_by_snoop, unclaimed_aside, is_alone}
use Rattle.judge_spec.specs.Why.{IsWhy}
use Rattle.judge_spec.specs.FaultsText.{IsReasonedText}
use Rattle.judge_spec.specs.ToldClaims.{nothing_told}
use Rattle.judge_spec.specs.ToldFault as told_fault

-- ---- with nothing given each word is the one without it

abbrev pub StartsAnywhere : Type 0
StartsAnywhere = (space : Space) (root a : ℕ) → IsTrue (starts nothing_given space root a)

abbrev pub SameClaims : Type 0
SameClaims =
    (f : Function) (part : system.Part) (space : Space) (a : ℕ)
    → Claims nothing_given f (Own part) space a ↔ system.Claims f part space a

abbrev pub NoLegacyClaims : Type 0
NoLegacyClaims =
    (f : Function) (space : Space) (a : ℕ) → Claims nothing_given f Legacy space a → ⊥

abbrev pub NoPaletteClaims : Type 0
NoPaletteClaims =
    (f : Function) (space : Space) (a : ℕ) → Claims nothing_given f Palette space a → ⊥

abbrev pub SameForwards : Type 0
SameForwards =
    (space : Space) (a : ℕ) (b : Function)
    → forwards nothing_given space a b ≡ system.forwards space a b

abbrev pub SamePasses : Type 0
SamePasses =
    (space : Space) (prefetchable : Bool) (a : ℕ) (b : Function)
    → passes nothing_given space prefetchable a b ≡ system.passes space prefetchable a b

abbrev pub SameGets : Type 0
SameGets =
    (roots : List ℕ) (s : System) (space : Space) (a bus : ℕ)
    → Gets nothing_given roots s space a bus ↔ system.Gets roots s space a bus

abbrev pub SamePassedTo : Type 0
SamePassedTo =
    (roots : List ℕ) (s : System) (space : Space) (prefetchable : Bool) (a bus : ℕ)
    → IsPassedTo nothing_given roots s (address_in space a) prefetchable bus
    ↔ system.IsPassedTo roots s space prefetchable a bus

abbrev pub NoneOutside : Type 0
NoneOutside =
    (roots : List ℕ) (s : System) (slot : Slot) (register : ℕ) (space : Space) (a : ℕ)
    → IsOutside nothing_given roots s (named_region slot register) (address_in space a) → ⊥

-- the exception needs a legacy part or a palette part, as no other register is named 3Eh or 04h
abbrev pub SameFaults : Type 0
SameFaults =
    (roots : List ℕ) (s : System) (fault : plain.Fault)
    → IsIn nothing_given roots s (Known fault) ↔ plain.IsIn roots s fault

abbrev pub SameSound : Type 0
SameSound =
    (roots : List ℕ) (s : System) → IsSystem s
    → IsSound nothing_given roots s ↔ sound.IsSound roots s

-- the lines behind a fault, with nothing told, either
abbrev pub SameWhy : Type 0
SameWhy =
    (assumed : List AssumedRegister) (asleep : List Slot) (roots : List ℕ) (s : System)
    (fault : plain.Fault) (lines : List ℕ)
    → IsWhy assumed (nothing_told asleep) nothing_given roots s (Known fault) lines
    ↔ why.IsWhy assumed roots s fault lines

-- a fault of the list without what is given and told
abbrev pub plain_known : plain.Fault → told_fault.Fault
plain_known fault = told_fault.Known (Known fault)

-- the text of a list with reasons
abbrev pub SameText : Type 0
SameText =
    (assumed : List AssumedRegister) (asleep : List Slot) (roots : List ℕ) (s : System)
    (faults : List plain.Fault) (text : List ℕ)
    → IsReasonedText assumed (nothing_told asleep) nothing_given roots s (map plain_known faults) text
    ↔ faults_text.IsReasonedText assumed roots s faults text

-- ---- what faults are good for

-- A system is sound exactly where no fault is there.
abbrev pub SoundWithoutFaults : Type 0
SoundWithoutFaults =
    (given : Given) (roots : List ℕ) (s : System) → IsSystem s
    → IsSound given roots s ↔ ((fault : Fault) → IsIn given roots s fault → ⊥)

-- A list of all is empty exactly where at most one region claims an access, and each region is reached.
abbrev pub EmptyWhereNoneFails : Type 0
EmptyWhereNoneFails =
    (given : Given) (roots : List ℕ) (s : System) (faults : List Fault) → IsSystem s
    → IsNested roots s → AreAllOfJudging given roots s faults
    → (faults ≡ []) ↔ (IsSingle given roots s × IsHome given roots s)

-- each address of a region is one that the host sends to the root above it
abbrev pub IsWithinHost : Given → List ℕ → System → Function → system.Part → Type 0
IsWithinHost given roots s f part =
    (space : Space) (a root : ℕ) (bridges : List Function) → system.Claims f part space a
    → Contains roots root → Leads s root bridges f.slot.bus → IsTrue (starts given space root a)

-- no line says that it is outside
abbrev pub IsNotOutside : Given → List ℕ → System → Slot → ℕ → Type 0
IsNotOutside given roots s slot register =
    (space : Space) (address : ℕ) → IsOutsideOf given roots s (named_region slot register)
    (address_in space address) → ⊥

-- A BAR or ROM has a line of 63 exactly where it isn't within what the host sends to its root.
abbrev pub LineWhereOutside : Type 0
LineWhereOutside =
    (given : Given) (roots : List ℕ) (s : System) → IsSystem s → IsNested roots s
    → (f : Function) (part : system.Part) → Contains s f → IsTrue (has_part f part)
    → is_window part ≡ false
    → IsWithinHost given roots s f part
    ↔ IsNotOutside given roots s f.slot (system.register_of f part)

-- ---- words

-- Functions that are taken by a word have no 52.
abbrev pub NoVgaEnable : Type 0
NoVgaEnable =
    (roots : List ℕ) (s : System) (slot : Slot) → IsSystem s
    → plain.IsIn roots (taken_by_vga s) (plain.OfProfile plain.VgaEnable slot) → ⊥

-- Functions that are taken by the other word have no 53.
abbrev pub NoIsaEnable : Type 0
NoIsaEnable =
    (roots : List ℕ) (s : System) (slot : Slot) → IsSystem s
    → plain.IsIn roots (taken_by_isa s) (plain.OfProfile plain.IsaEnable slot) → ⊥

-- Those taken by a third have no 51,
abbrev pub NoPaletteSnoop : Type 0
NoPaletteSnoop =
    (roots : List ℕ) (s : System) (slot : Slot) → IsSystem s
    → plain.IsIn roots (taken_by_snoop s) (plain.OfProfile plain.PaletteSnoop slot) → ⊥

-- and a bridge that is alone of its class on its bus has no 54 by a fourth.
abbrev pub AloneIsNotSubtractive : Type 0
AloneIsNotSubtractive =
    (s : System) (f : Function) → IsImage f.image → IsTrue (is_alone s f)
    → IsFalse (plain.is_subtractive_bridge (unclaimed_aside s f).image)
