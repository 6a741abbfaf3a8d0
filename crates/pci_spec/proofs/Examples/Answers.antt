-- Which addresses BARs and ROMs answer, bit by bit.
use Rattle.std.proofs.Common.{◌≡◌, ℕ, ◌+◌, ◌-◌, ◌<◌, ◌≤◌, [], ◌∷◌, ◌&&◌, ◌||◌, refl, Bool, true, false, subst, inl, inr, arith, lit<, lit≤}
use Rattle.std.specs.Bool.{nat_le, beq}
use Rattle.std.proofs.lemmas.Bool.{and_parts, or_cases, leb-true}
use Rattle.pci_spec.specs.Number.{each_from, has_bit}
use Rattle.pci_spec.specs.Bar.{IoBar, Memory32, is_run, Answers, BarDecodes}
use Rattle.pci_spec.specs.Rom.{RomDecodes}
use Rattle.pci_spec.proofs.Bits.{each_from-at, interval-agrees}
use Rattle.pci_spec.proofs.Examples.Samples.{on_device, read_backs}

as_true : (y : Bool) → beq true y ≡ true → y ≡ true
as_true true h = refl
as_true false h = h

-- where bit i of a mask is 1, a run in it begins at i or below
begins_by : (from mask k top i : ℕ) → has_bit mask i ≡ true → from ≤ i → i < from + (64 - from) → is_run from mask k top ≡ true → k ≤ i
begins_by from mask k top i one low high run =
    let both = each_from-at from (64 - from) (λ i. beq (has_bit mask i) (nat_le k i && nat_le i top)) run i low high in
    leb-true k i (and_parts (nat_le k i) (nat_le i top) (as_true _ (subst (λ b. beq b (nat_le k i && nat_le i top) ≡ true) one both))).0

-- ---- BARs

io_answers_its_last : Answers IoBar 0xe001 0xffe1 0xe01f
unfolding each_from
io_answers_its_last = (5, refl, interval-agrees 5 0xe01f 0xe001 (lit≤ tt) (lit≤ tt))

-- the bits above a register and above 16-bit masks are compared too
io_answers_nothing_64_kb_higher : Answers IoBar 0xe001 0xffe1 0x1e000 → ⊥
io_answers_nothing_64_kb_higher (k, lawful, agree) =
    let size = and_parts (nat_le 2 k) (nat_le k 8) (and_parts (nat_le 2 k && nat_le k 8) (is_run 2 0xffe1 k 31 || is_run 2 0xffe1 k 15) lawful).0 in
    let small = leb-true k 8 size.1 in
    let bit : 1 ≡ 0 = agree 16 (omega (arith, small)) in
    omega (arith, bit)

memory_answers_nothing_4_gb_higher : Answers Memory32 0xfe000000 0xfff00000 0x1fe000000 → ⊥
memory_answers_nothing_4_gb_higher (k, lawful, agree) =
    let size = and_parts (nat_le 4 k) (nat_le k 31) (and_parts (nat_le 4 k && nat_le k 31) (is_run 4 0xfff00000 k 31) lawful).0 in
    let small = leb-true k 31 size.1 in
    let bit : 1 ≡ 0 = agree 32 (omega (arith, small)) in
    omega (arith, bit)

wide_answers_the_last_address_of_all : BarDecodes (on_device ((0x10, 0xf000000c) ∷ (0x14, 0xffffffff) ∷ [])) (read_backs ((0x10, 0xf000000c) ∷ (0x14, 0xffffffff) ∷ [])) 0 0xffffffffffffffff
unfolding each_from
wide_answers_the_last_address_of_all = (refl, (28, refl, interval-agrees 28 0xffffffffffffffff 0xfffffffff000000c (lit≤ tt) (lit≤ tt)))

io_answers_nothing_after_its_last : Answers IoBar 0xe001 0xffe1 0xe020 → ⊥
io_answers_nothing_after_its_last (k, lawful, agree) =
    let few : k ≤ 5 = elim (or_cases (is_run 2 0xffe1 k 31) (is_run 2 0xffe1 k 15) (and_parts (nat_le 2 k && nat_le k 8) (is_run 2 0xffe1 k 31 || is_run 2 0xffe1 k 15) lawful).1) [
      | inl run ↦ begins_by 2 0xffe1 k 31 5 refl (lit≤ tt) (lit< tt) run
      | inr run ↦ begins_by 2 0xffe1 k 15 5 refl (lit≤ tt) (lit< tt) run
    ] in
    let bit : 1 ≡ 0 = agree 5 few in
    omega (arith, bit)

memory_answers_nothing_after_its_last : Answers Memory32 0xfe000000 0xfff00000 0xfe100000 → ⊥
memory_answers_nothing_after_its_last (k, lawful, agree) =
    let run = (and_parts (nat_le 4 k && nat_le k 31) (is_run 4 0xfff00000 k 31) lawful).1 in
    let few = begins_by 4 0xfff00000 k 31 20 refl (lit≤ tt) (lit< tt) run in
    let bit : 1 ≡ 0 = agree 20 few in
    omega (arith, bit)

-- ---- ROMs

-- the enable bit is no address bit
rom_answers_its_first : RomDecodes (on_device ((0x30, 0xfe000001) ∷ [])) (read_backs ((0x30, 0xfffff800) ∷ [])) 0xfe000000
unfolding each_from
rom_answers_its_first = (11, refl, interval-agrees 11 0xfe000000 0xfe000001 (lit≤ tt) (lit≤ tt))

rom_answers_its_last : RomDecodes (on_device ((0x30, 0xfe000001) ∷ [])) (read_backs ((0x30, 0xfffff800) ∷ [])) 0xfe0007ff
unfolding each_from
rom_answers_its_last = (11, refl, interval-agrees 11 0xfe0007ff 0xfe000001 (lit≤ tt) (lit≤ tt))

rom_answers_nothing_after_its_last : RomDecodes (on_device ((0x30, 0xfe000001) ∷ [])) (read_backs ((0x30, 0xfffff800) ∷ [])) 0xfe000800 → ⊥
rom_answers_nothing_after_its_last (k, lawful, agree) =
    let run = (and_parts (nat_le 11 k && nat_le k 24) (is_run 0 0xfffff800 k 31) lawful).1 in
    let few = begins_by 0 0xfffff800 k 31 11 refl (lit≤ tt) (lit< tt) run in
    let bit : 1 ≡ 0 = agree 11 few in
    omega (arith, bit)
