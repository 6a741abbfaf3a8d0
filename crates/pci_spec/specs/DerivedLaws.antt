-- Laws of derived probes: where what is told is true, they give the verdict that the machine's own read backs give;
-- where the least size is assumed of what is enabled, each fault that they show is there with those.
use Rattle.std.specs.Prelude.{◌≡◌, ◌<◌, ◌↔◌, ℕ, IsFalse, IsTrue, List, None}
use Rattle.std.specs.List.{All, AllZip}
use Rattle.pci_spec.specs.Header.{layout, bar_count}
use Rattle.pci_spec.specs.Bar.{has_bar, starts_bar}
use Rattle.pci_spec.specs.Decoded.{bar_size}
use Rattle.pci_spec.specs.Text.{Block, slots_of}
use Rattle.pci_spec.specs.System.{System, Function, IsFunction, IsSystem, system_of}
use Rattle.pci_spec.specs.Fault.{Fault, IsIn}
use Rattle.pci_spec.specs.Order.{IsFirstIn}
use Rattle.pci_spec.specs.Sound.{IsSound}
use Rattle.pci_spec.specs.Resource.{ResourceLine}
use Rattle.pci_spec.specs.Derived.{derived_probe, shown_bar}
use Rattle.pci_spec.specs.NoProbe.{Assuming, Disabled, Any, assumes_enabled, no_probe}
use Rattle.pci_spec.specs.SizesText.{SizesBlock}
use Rattle.pci_spec.specs.ProbeOf.{probe_of, probe_fault}
use Rattle.pci_spec.specs.ToldAlike.{IsToldAlike, IsToldAtLeast, IsReadable}
use Rattle.pci_spec.specs.TrueLines.{IsTrueOf}

-- a function with the probe that is derived from lines
abbrev pub with_derived : List ResourceLine → Function → Function
with_derived lines f = record f { probe = derived_probe f.image lines }

-- the second is the first one with a probe that is derived from lines that are true of the first one's own
pub record IsDerivedOf (assuming : Assuming) (f g : Function) : Type 0 where
  pub lines : List ResourceLine
  pub told : IsTrueOf lines f.image f.probe
  pub derivable : no_probe assuming f.image lines ≡ None
  pub derived : g ≡ with_derived lines f

-- A readable function stays readable with the derived probe, and the same is told of both.
abbrev pub DerivedIsToldAlike : Type 0
DerivedIsToldAlike =
    (f g : Function) → IsFunction f → IsReadable f → IsDerivedOf Disabled f g
    → IsReadable g × IsToldAlike f g

-- two functions have the same BAR at register n
pub record HaveSameBar (f g : Function) (n : ℕ) : Type 0 where
  pub own : IsTrue (has_bar f.probe n)
  pub derived : IsTrue (has_bar g.probe n)
  pub size : bar_size f.probe n ≡ bar_size g.probe n

-- A BAR that shows something, on or off, has the size that it has with the function's own probe: none is assumed.
abbrev pub DerivedSizesAreOwn : Type 0
DerivedSizesAreOwn =
    (f g : Function) (n : ℕ) → IsFunction f → IsReadable f → IsDerivedOf Disabled f g
    → n < bar_count (layout f.image) → IsTrue (starts_bar f.image n)
    → (shown_bar f.image n ≡ 0 → ⊥) → HaveSameBar f g n

-- A system with derived probes has the faults that it has with its own,
abbrev pub DerivedHasTheSameFaults : Type 0
DerivedHasTheSameFaults =
    (roots : List ℕ) (s t : System) → IsSystem s → All IsReadable s → AllZip (IsDerivedOf Disabled) s t
    → (fault : Fault) → IsIn roots s fault ↔ IsIn roots t fault

-- the same one is the first,
abbrev pub DerivedHasTheSameFirstFault : Type 0
DerivedHasTheSameFirstFault =
    (roots : List ℕ) (s t : System) → IsSystem s → All IsReadable s → AllZip (IsDerivedOf Disabled) s t
    → (fault : Fault) → IsFirstIn roots s fault ↔ IsFirstIn roots t fault

-- and it is sound where it is sound with its own.
abbrev pub DerivedIsSoundWithOwn : Type 0
DerivedIsSoundWithOwn =
    (roots : List ℕ) (s t : System) → IsSystem s → All IsReadable s → AllZip (IsDerivedOf Disabled) s t
    → IsSound roots s ↔ IsSound roots t

-- what is told of a function is true of it
abbrev pub IsTrueOfFunction : Function → SizesBlock → Type 0
IsTrueOfFunction f told = IsTrueOf told.lines f.image f.probe

-- So a dump with the probe that is derived for it, and with the read backs of its machine, of which what is told is true.
-- Both have the same first fault, and both are sound or neither is.
abbrev pub DumpHasTheSameVerdict : Type 0
DumpHasTheSameVerdict =
    (roots : List ℕ) (assuming : Assuming) (dump own : List Block) (sizes : List SizesBlock)
    → IsFalse (assumes_enabled assuming)
    → slots_of dump ≡ slots_of own → IsSystem (system_of dump own)
    → All IsReadable (system_of dump own)
    → AllZip IsTrueOfFunction (system_of dump own) sizes
    → probe_fault assuming dump sizes ≡ None
    → ((fault : Fault) → IsFirstIn roots (system_of dump own) fault
    ↔ IsFirstIn roots (system_of dump (probe_of dump sizes)) fault)
    × (IsSound roots (system_of dump own) ↔ IsSound roots (system_of dump (probe_of dump sizes)))

-- Where the least size is assumed of what is enabled and isn't told, a readable function stays readable, and its own probe
-- tells no lesser sizes.
abbrev pub LeastIsToldAtMost : Type 0
LeastIsToldAtMost =
    (f g : Function) → IsFunction f → IsReadable f → IsDerivedOf Any f g
    → IsReadable g × IsToldAtLeast g f

-- So each fault that a system has with such probes is there with its own,
abbrev pub FaultsAtLeastSizesStand : Type 0
FaultsAtLeastSizesStand =
    (roots : List ℕ) (s t : System) → IsSystem s → All IsReadable s
    → AllZip (IsDerivedOf Any) s t
    → (fault : Fault) → IsIn roots t fault → IsIn roots s fault

-- and each that a dump has with the probe that is derived for it is there with its machine's read backs.
abbrev pub FaultsOfDumpStand : Type 0
FaultsOfDumpStand =
    (roots : List ℕ) (dump own : List Block) (sizes : List SizesBlock)
    → slots_of dump ≡ slots_of own → IsSystem (system_of dump own)
    → All IsReadable (system_of dump own)
    → AllZip IsTrueOfFunction (system_of dump own) sizes
    → probe_fault Any dump sizes ≡ None
    → (fault : Fault) → IsIn roots (system_of dump (probe_of dump sizes)) fault
    → IsIn roots (system_of dump own) fault
