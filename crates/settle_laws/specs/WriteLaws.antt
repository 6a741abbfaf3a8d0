-- Laws of the writes of settling: where they lead, how many they are, and what they leave alone.
use Rattle.std.specs.Prelude.{◌≡◌, ℕ, ◌+◌, ◌<◌, ◌≤◌, ◌⊎◌, IsTrue, IsFalse, if◌then◌else◌, [], map, take}
use Rattle.std.specs.List.{AllZip, Contains}
use Rattle.pci_spec.specs.Number.{byte_at, number_at, IsImage}
use Rattle.pci_spec.specs.Registers.{COMMAND}
use Rattle.pci_spec.specs.Header.{command, layout, address_registers}
use Rattle.pci_spec.specs.System.{System, Function, IsSystem, Space, is_bridge, is_space_on}
use Rattle.pci_spec.specs.Bus.{IsNested}
use Rattle.pci_spec.specs.Fault.{is_in_address_register}
use Rattle.pci_spec.specs.Machine.{Write, after_writes, system_after, target_of, without_low}
use Rattle.pci_spec.specs.Sound.{IsInProfile}
use Rattle.plan_spec.specs.Planning.Building.{command_write}
use Rattle.settle_spec.specs.Lists.{Request, are_bad_lists, end_above}
use Rattle.settle_spec.specs.Parts.{has_left}
use Rattle.settle_spec.specs.Kept.{Kept}
use Rattle.settle_spec.specs.Keeping.Registers.{settled, settled_command, settled_function}
use Rattle.settle_spec.specs.Keeping.Writes.{is_shut, settle_writes}
use Rattle.settle_laws.specs.Keeping.PlacesLaws.{CanSettle}

-- Over a machine that is the system with its own writable bits, each beginning of the writes does what it does to the system.
abbrev pub SettlingOnItsMachine : Type 0
SettlingOnItsMachine =
    (q : Request) (s : System) (k : Kept) → CanSettle q s k → (n : ℕ)
    → after_writes (map target_of s) (take n (settle_writes q s k))
    ≡ map target_of (system_after s (take n (settle_writes q s k)))

-- Where all is settled already nothing is written.
abbrev pub SettledNeedsNoWrite : Type 0
SettledNeedsNoWrite =
    (q : Request) (s : System) (k : Kept) → IsSystem s → IsNested q.roots s → settled q s k ≡ s
    → settle_writes q s k ≡ []

-- the most writes to a function: 9 to a device, and 16 to a bridge
abbrev pub most_settle_writes : Function → ℕ
most_settle_writes f = if is_bridge f then 16 else 9

-- A function is shut in no space, no address register of it changes, and no I/O BAR of it is left.
pub record KeepsRegisters (q : Request) (s : System) (k : Kept) (f : Function) : Type 0 where
  pub unshut : (space : Space) → IsFalse (is_shut q s k space f)
  pub same : (r : ℕ × ℕ) → Contains (address_registers (layout f.image)) r
      → number_at (settled_function q s k f).image r.0 r.1 ≡ number_at f.image r.0 r.1
  pub unleft : IsFalse (has_left q s f)

-- Such a function is written only to switch it on.
abbrev pub UnshutIsOnlySwitchedOn : Type 0
UnshutIsOnlySwitchedOn =
    (q : Request) (s : System) (k : Kept) → IsSystem s → (f : Function) → Contains s f
    → KeepsRegisters q s k f → (w : Write) → Contains (settle_writes q s k) w → w.slot ≡ f.slot
    → (w ≡ command_write f (settled_command q s k f))
    × ((space : Space) → IsTrue (is_space_on f space)
    → IsTrue (is_space_on (settled_function q s k f) space))

-- At each stop it is as it was, or as it is to be.
abbrev pub UnshutStays : Type 0
UnshutStays =
    (q : Request) (s : System) (k : Kept) → CanSettle q s k → (f : Function) → Contains s f
    → KeepsRegisters q s k f → (n : ℕ)
    → Contains (system_after s (take n (settle_writes q s k))) f
    ⊎ Contains (system_after s (take n (settle_writes q s k))) (settled_function q s k f)

-- ---- what settling keeps

-- Outside the address registers a function changes in Command's enables of I/O and memory alone.
pub record IsKeptAside (old new : Function) : Type 0 where
  pub slot : new.slot ≡ old.slot
  pub probe : new.probe ≡ old.probe
  pub image : IsImage new.image
  pub rest : (place : ℕ) → (place < COMMAND) ⊎ (COMMAND + 2 ≤ place)
      → IsFalse (is_in_address_register (layout old.image) place)
      → byte_at new.image place ≡ byte_at old.image place
  pub enables : without_low 4 (command new.image) ≡ without_low 4 (command old.image)

abbrev pub SettledKeepsTheRest : Type 0
SettledKeepsTheRest =
    (q : Request) (s : System) (k : Kept) → IsSystem s → IsInProfile q.roots s
    → AllZip IsKeptAside s (settled q s k)

-- The lists aren't refused, and end in the addresses of their spaces.
pub record AreLists (q : Request) : Type 0 where
  pub good : IsFalse (are_bad_lists q.roots q.lists)
  pub short : IsFalse (end_above 0xffff_ffff_ffff_ffff q.lists.prefetch)
