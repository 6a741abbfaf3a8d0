-- Worked rows: the numbers of registers when everything is placed, evaluated.
use Rattle.std.proofs.Common.{◌≡◌, ℕ, List, [], ◌∷◌, refl, map}
use Rattle.pci_spec.specs.Number.{number_at}
use Rattle.pci_spec.specs.Header.{command, layout, address_registers}
use Rattle.pci_spec.specs.System.{Function, System}
use Rattle.plan_spec.specs.Plan.{Pools, doubled_to, items_within}
use Rattle.plan_spec.specs.Place.{start_within}
use Rattle.plan_spec.specs.Planning.Numbers.{new_number, new_command}
use Rattle.pci_spec.proofs.Examples.Samples.{slot, device, bridge, host}
use Rattle.plan_spec.proofs.Examples.Placed.{start, planned}
use Rattle.plan_spec.proofs.Examples.Plans.{pools}

-- Command and the address registers of each function: as they have to be, and as they are
abbrev wanted : System → Pools → Function → List ℕ
wanted s p f = new_command s p f ∷ map (new_number host s p f) (address_registers (layout f.image))

abbrev shown : Function → List ℕ
shown g = command g.image ∷ map (λ r. number_at g.image r.0 r.1) (address_registers (layout g.image))

-- a bridge with two BARs behind it, beside a device
numbers_of_a_tree : map (wanted start pools) start ≡ map shown planned
unfolding doubled_to items_within start_within
numbers_of_a_tree = refl

-- the planned tree stays as it is
numbers_of_a_planned_tree : map (wanted planned pools) planned ≡ map shown planned
unfolding doubled_to items_within start_within
numbers_of_a_planned_tree = refl

-- a prefetchable BAR in a wide window; the memory window is closed
abbrev wide_start : System
wide_start = bridge (slot 0 1 0) 0 0x10100 ((0x24, 0x10001) ∷ []) ((0x24, 0xfff1fff1) ∷ (0x28, 0xffffffff) ∷ (0x2c, 0xffffffff) ∷ []) ∷ device (slot 1 0 0) 0 ((0x10, 0xc) ∷ []) ((0x10, 0xf000000c) ∷ (0x14, 0xffffffff) ∷ []) ∷ []

abbrev wide_planned : System
wide_planned =
    bridge (slot 0 1 0) 2 0x10100 ((0x20, 0xfff0) ∷ (0x24, 0x0ff10001) ∷ (0x28, 1) ∷ (0x2c, 1) ∷ []) ((0x24, 0xfff1fff1) ∷ (0x28, 0xffffffff) ∷ (0x2c, 0xffffffff) ∷ [])
    ∷ device (slot 1 0 0) 2 ((0x10, 0xc) ∷ (0x14, 1) ∷ []) ((0x10, 0xf000000c) ∷ (0x14, 0xffffffff) ∷ []) ∷ []

numbers_of_a_wide_tree : map (wanted wide_start pools) wide_start ≡ map shown wide_planned
unfolding doubled_to items_within start_within
numbers_of_a_wide_tree = refl
