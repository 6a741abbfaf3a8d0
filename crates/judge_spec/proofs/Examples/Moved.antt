-- Which faults are a region's own, and which bytes.
use Rattle.std.proofs.Common.{◌≡◌, ◌<◌, [], ◌∷◌, refl, ap, arith, inl, inr, lit≤, lit<}
use Rattle.pci_spec.specs.System.{Function, Memory, Bar}
use Rattle.pci_spec.specs.Fault.{Orphan, Unreached, Clash, Split, RegionName, named_region}
use Rattle.pci_spec.proofs.Examples.Samples.{slot, device, bridge}
use Rattle.judge_spec.specs.Fault.{Known, Outside}
use Rattle.judge_spec.specs.Moved.{NamesRegion, IsItsByte, HasItsRegisters}

-- ---- faults

abbrev region : RegionName
region = named_region (slot 1 0 0) 0x10

not_sent : NamesRegion region (Outside (slot 1 0 0) 0x10 Memory 0xe0000000)
not_sent = refl

not_reached : NamesRegion region (Known (Unreached (slot 1 0 0) 0x10 Memory 0xe0000000 (slot 0 1 0)))
not_reached = refl

first_of_two : NamesRegion region (Known (Clash 1 Memory 0xe0000000 (slot 1 0 0) 0x10 (slot 1 1 0) 0x10))
first_of_two = inl refl

second_of_two : NamesRegion region (Known (Split Memory 0xe0000000 (slot 0 1 0) 0x10 (slot 1 0 0) 0x10))
second_of_two = inr refl

of_another_register : NamesRegion region (Outside (slot 1 0 0) 0x14 Memory 0xe0000000) → ⊥
of_another_register e = let register : 0x14 ≡ 0x10 = ap (λ (n : RegionName). n.register) e in omega (arith, register)

of_a_function : NamesRegion region (Known (Orphan (slot 1 0 0))) → ⊥
of_a_function none = none

-- ---- bytes: a BAR of 64 bits has those of two registers

abbrev wide : Function
wide = device (slot 1 0 0) 2 [] ((0x10, 0xfff00004) ∷ (0x14, 0xffffffff) ∷ (0x18, 0xfffff000) ∷ [])

upper_half : IsItsByte wide (Bar 0) 0x17
upper_half = (lit≤ tt, lit< tt)

next_register : IsItsByte wide (Bar 0) 0x18 → ⊥
next_register its = let less : 0x18 < 0x18 = its.1 in omega (arith, less)

of_32_bits : IsItsByte wide (Bar 2) 0x1c → ⊥
of_32_bits its = let less : 0x1c < 0x1c = its.1 in omega (arith, less)

-- behind the second register of a bridge stand its bus numbers
last_of_a_bridge : HasItsRegisters (bridge (slot 0 1 0) 2 0x010100 [] ((0x14, 0xfff00004) ∷ [])) (Bar 1) → ⊥
last_of_a_bridge both = let less : 2 < 2 = both refl in omega (arith, less)
