-- What a bridge takes as no region of its bus claims it (PCI 3.0, 3.6.1 and appendix D: subtractive decoding).
use Rattle.std.specs.Prelude.{◌≡◌, ℕ, List}
use Rattle.std.specs.List.{AllZip}
use Rattle.pci_spec.specs.Slot.{Slot}
use Rattle.pci_spec.specs.System.{System, Space, Io, Memory, IsAddress}
use Rattle.pci_spec.specs.Fault.{RegionName, address_in}
use Rattle.pci_spec.specs.Why.{AreRuns}
use Rattle.judge_spec.specs.Given.{Given, TakingBridge}
use Rattle.judge_spec.specs.ToldClaims.{Told, ClaimsOnBus}

-- No region of a bus claims an address: no BAR, ROM or window, no legacy part or palette part, and no told range. Whoever
-- takes it claims nothing by that, so claims come before what is taken.
pub record IsUnclaimedOn (told : Told) (given : Given) (s : System) (bus : ℕ) (space : Space)
    (a : ℕ) : Type 0 where
  pub address : IsAddress space a
  pub unclaimed : (region : RegionName)
      → ClaimsOnBus told given s bus (address_in space a) region → ⊥

-- what is given of a bridge at a slot: the greatest runs of such addresses of its bus
pub record IsTakingBridge (told : Told) (given : Given) (s : System) (slot : Slot)
    (b : TakingBridge) : Type 0 where
  pub at : b.slot ≡ slot
  pub io : AreRuns (IsUnclaimedOn told given s slot.bus Io) b.io
  pub memory : AreRuns (IsUnclaimedOn told given s slot.bus Memory) b.memory

-- the same of bridges at some slots, in their order
abbrev pub AreTaking : Told → Given → System → List Slot → List TakingBridge → Type 0
AreTaking told given s slots bridges = AllZip (IsTakingBridge told given s) slots bridges
