-- Laws of what settling leaves alone: a function whose parts stay, below bridges whose parts stay, is only switched on.
use Rattle.std.specs.Prelude.{◌≡◌, ℕ, ◌+◌, ◌<◌, ◌≤◌, ◌⊎◌, IsTrue, IsFalse, take, None}
use Rattle.std.specs.List.{Contains}
use Rattle.pci_spec.specs.Number.{byte_at, has_bit}
use Rattle.pci_spec.specs.Registers.{COMMAND}
use Rattle.pci_spec.specs.Header.{command}
use Rattle.pci_spec.specs.Window.{WindowKind}
use Rattle.pci_spec.specs.System.{System, Function, IsSystem, Space, Part, has_part, is_bridge, is_window, space_of}
use Rattle.pci_spec.specs.Bus.{IsNested}
use Rattle.pci_spec.specs.Machine.{Write, system_after, without_low}
use Rattle.plan_spec.specs.Plan.{bridges_above, is_open}
use Rattle.plan_spec.specs.Planning.Building.{command_write}
use Rattle.settle_spec.specs.Lists.{Request}
use Rattle.settle_spec.specs.Parts.{FunctionPart, addresses, parts_of, has_left}
use Rattle.settle_spec.specs.Items.{has_of}
use Rattle.settle_spec.specs.Keeping.Registers.{settled_command}
use Rattle.settle_spec.specs.Writes.{is_cut_off_in}
use Rattle.settle_spec.specs.Keeping.Writes.{changes_at, moves, is_shut, settle_writes}
use Rattle.settle_laws.specs.Keeping.PlacesLaws.{CanSettle}
use Rattle.settle_spec.specs.Kept.{Kept, as_it_stands, growing}
use Rattle.settle_spec.specs.Stands.{window_part, stands}

-- Each part of a function stays with the addresses that it has, and nothing cuts it off. As a bridge it needs no further
-- window: one of each class of which a BAR or ROM is behind it is open. No room is kept free in its windows.
pub record KeepsParts (q : Request) (s : System) (k : Kept) (f : Function) : Type 0 where
  pub parts : (p : Part) → Contains (parts_of q s f) p
      → IsTrue (k.stays record { function = f; part = p })
  pub same : (p : Part) → Contains (parts_of q s f) p
      → k.range record { function = f; part = p } ≡ addresses record { function = f; part = p }
  pub windows : (c : WindowKind) → IsTrue (is_bridge f) → IsTrue (has_of q s c f)
      → IsTrue (is_open f c)
  pub unwished : (c : WindowKind) → k.wished (window_part c f) ≡ None
  pub reached : (space : Space) → IsFalse (is_cut_off_in q s f space)

-- So it is with a function and each bridge above it, and no I/O BAR of the function is left.
pub record IsLeftAlone (q : Request) (s : System) (k : Kept) (f : Function) : Type 0 where
  pub itself : KeepsParts q s k f
  pub above : (b : Function) → Contains (bridges_above s f.slot.bus) b → KeepsParts q s k b
  pub unleft : IsFalse (has_left q s f)

-- What is kept stands.
abbrev pub KeptStands : Request → System → Kept → Type 0
KeptStands q s k = (r : FunctionPart) → IsTrue (k.stays r) → IsTrue (stands q s r)

-- So it is of any system, as it stands and where windows grow.
abbrev pub WhatIsKeptStands : Type 0
WhatIsKeptStands =
    (q : Request) (s : System) → KeptStands q s (as_it_stands q s) × KeptStands q s (growing q s)

-- Then all that is written to the function is Command, and each bit of it that was set is written as set.
abbrev pub LeftAloneIsOnlySwitchedOn : Type 0
LeftAloneIsOnlySwitchedOn =
    (q : Request) (s : System) (k : Kept) → IsSystem s → IsNested q.roots s → KeptStands q s k
    → (f : Function) → Contains s f → IsLeftAlone q s k f → (w : Write)
    → Contains (settle_writes q s k) w → w.slot ≡ f.slot
    → (w ≡ command_write f (settled_command q s k f))
    × ((i : ℕ) → IsTrue (has_bit (command f.image) i)
    → IsTrue (has_bit (settled_command q s k f) i))

-- A function has every byte of another but Command, and every bit of the other's Command: bits 0 and 1 may be set beside.
pub record HasAllOf (old new : Function) : Type 0 where
  pub slot : new.slot ≡ old.slot
  pub probe : new.probe ≡ old.probe
  pub bytes : (place : ℕ) → (place < COMMAND) ⊎ (COMMAND + 2 ≤ place)
      → byte_at new.image place ≡ byte_at old.image place
  pub others : without_low 4 (command new.image) ≡ without_low 4 (command old.image)
  pub enables : (i : ℕ) → IsTrue (has_bit (command old.image) i)
      → IsTrue (has_bit (command new.image) i)

-- So it is at each stop: no space is off in which it was on, and each byte but those of Command is as it was.
abbrev pub LeftAloneIsNeverOff : Type 0
LeftAloneIsNeverOff =
    (q : Request) (s : System) (k : Kept) → CanSettle q s k → (f : Function) → Contains s f
    → IsLeftAlone q s k f → (n : ℕ)
    → (g : Function) × Contains (system_after s (take n (settle_writes q s k))) g × HasAllOf f g

-- A part that stays with the addresses that it has, and keeps no room free, keeps its registers,
abbrev pub StayingRests : Type 0
StayingRests =
    (q : Request) (s : System) (k : Kept) → CanSettle q s k → (f : Function) (p : Part) → Contains s f
    → IsTrue (has_part f p) → IsTrue (k.stays record { function = f; part = p })
    → k.range record { function = f; part = p } ≡ addresses record { function = f; part = p }
    → k.wished record { function = f; part = p } ≡ None → IsFalse (changes_at q s k f p)

-- and what stays doesn't move.
abbrev pub StayingMovesNowhere : Type 0
StayingMovesNowhere =
    (q : Request) (s : System) (k : Kept) (r : FunctionPart) → IsTrue (k.stays r)
    → IsFalse (moves q s k r)

-- The BARs and ROM of a function in a space stay, whatever becomes of its windows, and it isn't cut off there.
pub record KeepsOwn (q : Request) (s : System) (k : Kept) (space : Space) (f : Function) : Type 0 where
  pub parts : (p : Part) → Contains (parts_of q s f) p → IsFalse (is_window p)
      → space_of f p ≡ space → IsTrue (k.stays record { function = f; part = p })
  pub reached : IsFalse (is_cut_off_in q s f space)

-- So it is with a function and each bridge above it: then it isn't shut in the space.
abbrev pub StayingIsUnshut : Type 0
StayingIsUnshut =
    (q : Request) (s : System) (k : Kept) (space : Space) (f : Function) → KeepsOwn q s k space f
    → ((b : Function) → Contains (bridges_above s f.slot.bus) b → KeepsOwn q s k space b)
    → IsFalse (is_shut q s k space f)
