-- Laws of palette parts (PCI 3.0, 6.2.2), and of what is given without them and without what bridges take.
use Rattle.std.specs.Prelude.{◌≡◌, ℕ, Bool, ◌&&◌, ◌||◌, not, IsFalse, []}
use Rattle.std.specs.List.{list_any}
use Rattle.pci_spec.specs.Slot.{Slot, same_slot}
use Rattle.pci_spec.specs.System.{Function, Space, Memory}
use Rattle.pci_spec.specs.System as system
use Rattle.judge_spec.specs.Given.{Given, is_cut, legacy_claims}
use Rattle.judge_spec.specs.Claims.{Palette, Claims, forwards, passes}

abbrev pub has_palette_part : Given → Slot → Bool
has_palette_part given slot = list_any (λ entry. same_slot entry.slot slot) given.palette

-- what is given, where no bridge has a palette part
abbrev pub nobody_snoops : Given → Given
nobody_snoops given = record given { palette = [] }

-- A palette part claims no address of memory space,
abbrev pub PaletteHasNoMemory : Type 0
PaletteHasNoMemory =
    (given : Given) (f : Function) (a : ℕ) → Claims given f Palette Memory a → ⊥

-- and a function without one claims nothing by it.
abbrev pub NoPaletteWithoutPart : Type 0
NoPaletteWithoutPart =
    (given : Given) (f : Function) (space : Space) (a : ℕ)
    → IsFalse (has_palette_part given f.slot) → Claims given f Palette space a → ⊥

-- Such a bridge forwards what it does where nobody has one,
abbrev pub SnoopLeavesForwards : Type 0
SnoopLeavesForwards =
    (given : Given) (space : Space) (a : ℕ) (b : Function)
    → IsFalse (has_palette_part given b.slot)
    → forwards given space a b ≡ forwards (nobody_snoops given) space a b

-- and no palette part passes anything.
abbrev pub SnoopPassesNothing : Type 0
SnoopPassesNothing =
    (given : Given) (space : Space) (prefetchable : Bool) (a : ℕ) (b : Function)
    → passes given space prefetchable a b ≡ passes (nobody_snoops given) space prefetchable a b

-- Without palette parts and without what bridges take a bridge forwards by its windows and its legacy part,
abbrev pub ForwardsWithNeither : Type 0
ForwardsWithNeither =
    (given : Given) → given.palette ≡ [] → given.unclaimed ≡ [] → (space : Space) (a : ℕ)
    (b : Function)
    → forwards given space a b
    ≡ ((system.forwards space a b && not (is_cut given space a b.slot))
    || legacy_claims given space a b)

-- and passes by them.
abbrev pub PassesWithNeither : Type 0
PassesWithNeither =
    (given : Given) → given.palette ≡ [] → given.unclaimed ≡ [] → (space : Space)
    (prefetchable : Bool) (a : ℕ) (b : Function)
    → passes given space prefetchable a b
    ≡ ((system.passes space prefetchable a b && not (is_cut given space a b.slot))
    || legacy_claims given space a b)
