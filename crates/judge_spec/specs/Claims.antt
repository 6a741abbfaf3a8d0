-- Regions and the accesses that get to a bus, with what is given (PCI 3.0, 6.2.2 and 6.2.5; Bridge 1.2, chapter 4).
use Rattle.std.specs.Prelude.{◌≡◌, ℕ, ◌==◌, Bool, ◌&&◌, ◌||◌, not, IsTrue, IsFalse, List}
use Rattle.std.specs.List.{list_all, Contains}
use Rattle.pci_spec.specs.Slot.{Slot, same_slot}
use Rattle.pci_spec.specs.Registers.{BRIDGE_CONTROL, COMMAND, IO_BASE, MEMORY_BASE, PREFETCHABLE_BASE}
use Rattle.pci_spec.specs.System.{System, Space, Function, IsAddress, Leads, is_window}
use Rattle.pci_spec.specs.System as system
use Rattle.pci_spec.specs.Fault.{Address, RegionName}
use Rattle.judge_spec.specs.Given.{Given, starts, legacy_claims, palette_claims, takes, is_cut}

-- a part of a function: one that its address registers show, or the legacy parts or the palette part of a bridge
pub data Part : Type 0 where
  Own : system.Part → Part
  Legacy : Part
  Palette : Part

-- a legacy part is named by Bridge Control, and a palette part by Command
abbrev pub register_of : Function → Part → ℕ
register_of f (Own part) = system.register_of f part
register_of f Legacy = BRIDGE_CONTROL
register_of f Palette = COMMAND

-- whether ISA Enable takes an address from a part of the function at a slot: from a window
abbrev pub is_cut_of : Given → system.Part → Space → ℕ → Slot → Bool
is_cut_of given part space a slot = is_window part && is_cut given space a slot

-- a part that address registers show claims an address of a space, and ISA Enable doesn't take it
pub record OwnClaims (given : Given) (f : Function) (part : system.Part) (space : Space)
    (a : ℕ) : Type 0 where
  pub claims : system.Claims f part space a
  pub kept : IsFalse (is_cut_of given part space a f.slot)

-- the legacy part of a bridge claims an address of a space
pub record LegacyClaims (given : Given) (f : Function) (space : Space) (a : ℕ) : Type 0 where
  pub address : IsAddress space a
  pub claims : IsTrue (legacy_claims given space a f)

-- the palette part of a bridge claims an address of a space
pub record PaletteClaims (given : Given) (f : Function) (space : Space) (a : ℕ) : Type 0 where
  pub address : IsAddress space a
  pub claims : IsTrue (palette_claims given space a f)

-- the part of the function claims an address of a space
abbrev pub Claims : Given → Function → Part → Space → ℕ → Type 0
Claims given f (Own part) space a = OwnClaims given f part space a
Claims given f Legacy space a = LegacyClaims given f space a
Claims given f Palette space a = PaletteClaims given f space a

-- whether a bridge passes an address by its legacy part, or as nobody on its bus claims it
abbrev pub passes_else : Given → Space → ℕ → Function → Bool
passes_else given space a b = legacy_claims given space a b || takes given space a b

-- whether it forwards one so, or by its palette part: writes alone go down by this, so no region behind is reached by it
abbrev pub forwards_else : Given → Space → ℕ → Function → Bool
forwards_else given space a b = passes_else given space a b || palette_claims given space a b

-- whether a bridge forwards an address of a space to its secondary bus: by a window, or else
abbrev pub forwards : Given → Space → ℕ → Function → Bool
forwards given space a b =
    (system.forwards space a b && not (is_cut given space a b.slot)) || forwards_else given space a b

-- whether a bridge passes an address of a region
abbrev pub passes : Given → Space → Bool → ℕ → Function → Bool
passes given space prefetchable a b =
    (system.passes space prefetchable a b && not (is_cut given space a b.slot))
    || passes_else given space a b

-- an address of a region, to which accesses start on a root bus, is passed on all the way from there to a bus
abbrev pub IsPassedTo : Given → List ℕ → System → Address → Bool → ℕ → Type 0
IsPassedTo given roots s at prefetchable bus =
    (root : ℕ) × Contains roots root × IsTrue (starts given at.space root at.address)
    × (bridges : List Function) × Leads s root bridges bus
    × IsTrue (list_all (passes given at.space prefetchable at.address) bridges)

-- an access of the host, which starts on those root buses to which the host sends it, gets to a bus
abbrev pub Gets : Given → List ℕ → System → Space → ℕ → ℕ → Type 0
Gets given roots s space a bus =
    (root : ℕ) × Contains roots root × IsTrue (starts given space root a) × (bridges : List Function)
    × Leads s root bridges bus × IsTrue (list_all (forwards given space a) bridges)

-- a region of the bus, named by its slot and register, claims the address
abbrev pub ClaimsOnBus : Given → System → ℕ → Address → RegionName → Type 0
ClaimsOnBus given s bus at region =
    (f : Function) × (part : Part) × Contains s f × (f.slot ≡ region.slot) × (region.slot.bus ≡ bus)
    × (register_of f part ≡ region.register) × Claims given f part at.space at.address

-- ---- an exception

-- whether a register of a bridge names a window
abbrev pub is_window_register : ℕ → Bool
is_window_register register =
    register == IO_BASE || register == MEMORY_BASE || register == PREFETCHABLE_BASE

-- whether a register names the legacy part or the palette part of a bridge
abbrev pub is_fixed_register : ℕ → Bool
is_fixed_register register = register == BRIDGE_CONTROL || register == COMMAND

-- whether two registers name a window and such a part, or both of these
abbrev pub are_together : ℕ → ℕ → Bool
are_together one other =
    (is_window_register one && is_fixed_register other)
    || (one == BRIDGE_CONTROL && other == COMMAND)

-- whether two regions may claim one address: two of a window, the legacy part and the palette part of one bridge, which
-- lead to one bus
abbrev pub may_share : Slot → ℕ → Slot → ℕ → Bool
may_share first first_register second second_register =
    same_slot first second && (are_together first_register second_register
    || are_together second_register first_register)
