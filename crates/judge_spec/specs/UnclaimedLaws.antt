-- Laws of bridges that take what no region of their bus claims.
use Rattle.std.specs.Prelude.{◌≡◌, ◌↔◌, ℕ, Bool, not, IsTrue, IsFalse, List, []}
use Rattle.std.specs.List.{Contains, filter, list_any}
use Rattle.pci_spec.specs.Slot.{Slot, same_slot}
use Rattle.pci_spec.specs.System.{System, Function, Space, is_bridge, is_space_on}
use Rattle.pci_spec.specs.Bus.{IsNested}
use Rattle.pci_spec.specs.Fault.{Address, RegionName, TwoRegions, address_in}
use Rattle.judge_spec.specs.Given.{Given, TakingBridge, takes}
use Rattle.judge_spec.specs.Claims.{Part, Claims, forwards, passes}
use Rattle.judge_spec.specs.ToldClaims.{Told, ClaimsOnBus}
use Rattle.judge_spec.specs.ToldFault.{IsClash}
use Rattle.judge_spec.specs.Unclaimed.{IsUnclaimedOn, AreTaking}

-- ---- what is taken

-- A bridge at one of some slots, whose Command enables the space, and an address that no region of its bus claims
pub record IsTaken (told : Told) (given : Given) (s : System) (slots : List Slot) (space : Space)
    (a : ℕ) (b : Function) : Type 0 where
  pub bridge : IsTrue (is_bridge b)
  pub on : IsTrue (is_space_on b space)
  pub listed : Contains slots b.slot
  pub unclaimed : IsUnclaimedOn told given s b.slot.bus space a

-- Just such an address is taken, one bridge at a time.
abbrev pub TakesWhatIsUnclaimed : Type 0
TakesWhatIsUnclaimed =
    (told : Told) (given : Given) (s : System) (slots : List Slot) (space : Space) (a : ℕ)
    (b : Function) → AreTaking told given s slots given.unclaimed
    → IsTrue (takes given space a b) ↔ IsTaken told given s slots space a b

-- So nobody on the bridge's bus shares an address with what it takes.
abbrev pub NobodySharesWhatIsTaken : Type 0
NobodySharesWhatIsTaken =
    (told : Told) (given : Given) (s : System) (slots : List Slot) (space : Space) (a : ℕ)
    (b : Function) (region : RegionName) → AreTaking told given s slots given.unclaimed
    → IsTrue (takes given space a b)
    → ClaimsOnBus told given s b.slot.bus (address_in space a) region → ⊥

-- What bridges at some slots take is one list.
abbrev pub TakingIsDetermined : Type 0
TakingIsDetermined =
    (told : Told) (given : Given) (s : System) (slots : List Slot)
    (bridges others : List TakingBridge) → AreTaking told given s slots bridges
    → AreTaking told given s slots others → bridges ≡ others

-- ---- what it changes

-- what is given, where other bridges take what nobody claims
abbrev pub with_taking : List TakingBridge → Given → Given
with_taking bridges given = record given { unclaimed = bridges }

-- Nobody claims an address by that,
abbrev pub TakingClaimsNothing : Type 0
TakingClaimsNothing =
    (given : Given) (bridges : List TakingBridge) (f : Function) (part : Part) (space : Space)
    (a : ℕ) → Claims given f part space a ↔ Claims (with_taking bridges given) f part space a

-- so what is taken is the same by what is given with it and without it.
abbrev pub TakingComesLast : Type 0
TakingComesLast =
    (told : Told) (given : Given) (s : System) (slots : List Slot)
    (bridges others : List TakingBridge)
    → AreTaking told given s slots others
    ↔ AreTaking told (with_taking bridges given) s slots others

-- whether one of some bridges is at a slot
abbrev pub is_taking : List TakingBridge → Slot → Bool
is_taking bridges slot = list_any (λ b. same_slot b.slot slot) bridges

-- A bridge that takes nothing forwards what it does where nobody takes anything,
abbrev pub TakingLeavesForwards : Type 0
TakingLeavesForwards =
    (given : Given) (space : Space) (a : ℕ) (b : Function)
    → IsFalse (is_taking given.unclaimed b.slot)
    → forwards given space a b ≡ forwards (with_taking [] given) space a b

-- and passes it.
abbrev pub TakingLeavesPasses : Type 0
TakingLeavesPasses =
    (given : Given) (space : Space) (prefetchable : Bool) (a : ℕ) (b : Function)
    → IsFalse (is_taking given.unclaimed b.slot)
    → passes given space prefetchable a b ≡ passes (with_taking [] given) space prefetchable a b

-- what is given, where the bridge at a slot takes nothing
abbrev pub without_taking : Slot → Given → Given
without_taking slot given =
    with_taking (filter (λ b. not (same_slot b.slot slot)) given.unclaimed) given

-- On its own bus it adds no clash, and takes none away.
abbrev pub TakingAddsNoClash : Type 0
TakingAddsNoClash =
    (told : Told) (given : Given) (roots : List ℕ) (s : System) (slot : Slot) (at : Address)
    (two : TwoRegions) → IsNested roots s
    → IsClash told given roots s slot.bus at two
    ↔ IsClash told (without_taking slot given) roots s slot.bus at two
