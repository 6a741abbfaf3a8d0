-- A sound system, with what is given.
use Rattle.std.specs.Prelude.{◌≡◌, ◌⊎◌, ℕ, false, IsTrue, List}
use Rattle.std.specs.List.{Contains}
use Rattle.pci_spec.specs.System.{System, Function, Space, is_prefetchable_part, is_window}
use Rattle.pci_spec.specs.System as system
use Rattle.pci_spec.specs.Bus.{IsNested}
use Rattle.pci_spec.specs.Sound.{IsInProfile, HasChains}
use Rattle.pci_spec.specs.Fault.{address_in}
use Rattle.judge_spec.specs.Given.{Given, starts}
use Rattle.judge_spec.specs.Claims.{Part, Claims, Gets, IsPassedTo, register_of, may_share}

-- two parts are one region, or two of a window, the legacy part and the palette part of one bridge
abbrev pub MayBoth : Function → Part → Function → Part → Type 0
MayBoth f p g q =
    ((f.slot ≡ g.slot) × (register_of f p ≡ register_of g q))
    ⊎ IsTrue (may_share f.slot (register_of f p) g.slot (register_of g q))

-- At most one region claims an access, but for the parts of a bridge that may share one.
pub record IsSingle (given : Given) (roots : List ℕ) (s : System) : Type 0 where
  -- on each bus that it gets to
  pub on_a_bus : (space : Space) (a bus : ℕ) → Gets given roots s space a bus →
      (f g : Function) (p q : Part) → Contains s f → Contains s g → f.slot.bus ≡ bus
      → g.slot.bus ≡ bus →
      Claims given f p space a → Claims given g q space a → MayBoth f p g q
  -- and over all root buses on which it starts
  pub over_roots : (space : Space) (a : ℕ) (f g : Function) (p q : Part) → Contains s f
      → Contains s g →
      Contains roots f.slot.bus → Contains roots g.slot.bus
      → IsTrue (starts given space f.slot.bus a) → IsTrue (starts given space g.slot.bus a)
      → Claims given f p space a → Claims given g q space a → MayBoth f p g q

-- Accesses to each address of an enabled BAR or ROM start on its root, and get to its own function, by bridges that
-- pass it.
abbrev pub IsHome : Given → List ℕ → System → Type 0
IsHome given roots s =
    (f : Function) (p : system.Part) (space : Space) (a : ℕ) → Contains s f → is_window p ≡ false
    → system.Claims f p space a →
    IsPassedTo given roots s (address_in space a) (is_prefetchable_part f p) f.slot.bus

pub record IsSound (given : Given) (roots : List ℕ) (s : System) : Type 0 where
  pub single : IsSingle given roots s
  pub home : IsHome given roots s
  pub nested : IsNested roots s
  pub profile : IsInProfile roots s
  pub chains : HasChains s
