-- Whether a function of a dump is listed behind a bridge: blocks rise by slot, and so by bus.
use Rattle.std.proofs.Common.{◌≡◌, ℕ, ◌<◌, ◌≤◌, List, [], length, get_or, map, inl, inr, arith, refl, sym, ◌∙◌, ap, ltb, Bool, true, false, None, ◌&&◌}
use Rattle.std.specs.Bool.{nat_le}
use Rattle.std.specs.List.{AllWithin, list_any}
use Rattle.std.specs.List.Sorted.{IsPartitionedBy, IsNonDecreasingBy}
use Rattle.std.proofs.lemmas.Bool.{cases_lt, cases_order, and_from, le-leb, lt-leb}
use Rattle.std.proofs.Math.Bool.{and-false}
use Rattle.std.proofs.lemmas.List.{get_or-map, get_or_default, length-map}
use Rattle.std.proofs.lemmas.List.Kept.{AllPairs-from_increasing}
use Rattle.std.proofs.lemmas.List.Sorted.{IsPartitionedBy-ltb}
use Rattle.std.proofs.lemmas.List.Folds.{list_any_at, list_any_none}
use Rattle.pci_spec.specs.Slot.{Slot, IsSlot, slot_number}
use Rattle.pci_spec.specs.Text.{Block, IsDump, slots_of}

-- a slot of a lower number is on no higher bus
bus_by_number : (m n : Slot) → IsSlot m → IsSlot n → slot_number m < slot_number n → m.bus ≤ n.bus
bus_by_number m n is_m is_n lt = elim (cases_lt n.bus m.bus) [
  | inl above ↦ (let d : n.device < 32 = is_n.1 in let f : n.function < 8 = is_n.2 in absurd (omega arith))
  | inr le ↦ le
]

pub numbers_rise : (blocks : List Block) (i j : ℕ) (d : Block) → IsDump blocks → i < j → j < length blocks → slot_number (get_or blocks i d).slot < slot_number (get_or blocks j d).slot
numbers_rise blocks i j d dump less within =
    let long = length-map (slots_of blocks) slot_number in
    let short = length-map blocks (λ (b : Block). b.slot) in
    let up = AllPairs-from_increasing (map slot_number (slots_of blocks)) dump.rising i j (slot_number d.slot) less (omega (arith, long, short, within)) in
    let one = get_or-map slot_number (slots_of blocks) i d.slot (slot_number d.slot) (omega (arith, short, less, within)) in
    let two = get_or-map slot_number (slots_of blocks) j d.slot (slot_number d.slot) (omega (arith, short, within)) in
    let first = ap slot_number (get_or-map (λ (b : Block). b.slot) blocks i d d.slot (omega (arith, less, within))) in
    let second = ap slot_number (get_or-map (λ (b : Block). b.slot) blocks j d d.slot within) in
    omega (arith, up, one, two, first, second)

pub buses_rise : (blocks : List Block) → IsDump blocks → IsNonDecreasingBy (λ b. b.slot.bus) blocks
buses_rise blocks dump i j d le within = elim (cases_order i j) [
  | inl e ↦ (let same : (get_or blocks i d).slot.bus ≡ (get_or blocks j d).slot.bus = ap (λ n. (get_or blocks n d).slot.bus) e in omega arith)
  | inr differ ↦ elim differ [
    | inl lt ↦ bus_by_number (get_or blocks i d).slot (get_or blocks j d).slot (dump.each i d (omega arith)).slot (dump.each j d within).slot (numbers_rise blocks i j d dump lt within)
    | inr gt ↦ absurd (omega arith)
  ]
]

pub parted_by_bus : (blocks : List Block) (bus : ℕ) → IsDump blocks → IsPartitionedBy (λ b. ltb b.slot.bus bus) blocks
parted_by_bus blocks bus dump = IsPartitionedBy-ltb (λ (b : Block). b.slot.bus) blocks bus (buses_rise blocks dump)

-- what stands at a place doesn't hang on what would stand behind the end
pub same_place : (blocks : List Block) (i : ℕ) (b d : Block) → i < length blocks → get_or blocks i b ≡ get_or blocks i d
same_place blocks i b d inside = get_or_default blocks i b d inside

-- ---- what the first block from a bus on tells

abbrev is_within : ℕ → ℕ → Slot → Bool
is_within low high slot = nat_le low slot.bus && nat_le slot.bus high

pub none_behind : (blocks : List Block) (low high first : ℕ) → IsDump blocks → AllWithin (λ b. b.slot.bus < low) blocks 0 first
    → (first < length blocks → (d : Block) → high < (get_or blocks first d).slot.bus)
    → list_any (is_within low high) (slots_of blocks) ≡ false
none_behind blocks low high first dump before above =
    list_any_none (is_within low high) (slots_of blocks) (λ i s within.
    let size = length-map blocks (λ (b : Block). b.slot) in
    let d : Block = record { slot = s; title = None; image = [] } in
    let at = get_or-map (λ (b : Block). b.slot) blocks i d s (omega (arith, size, within)) in
    elim (cases_lt i first) [
      | inl early ↦ (
          let less = before i d (omega arith) early in
          let e = ap (λ (t : Slot). t.bus) at in
          let no = lt-leb low (get_or (slots_of blocks) i s).bus (omega (arith, less, e)) in
          rw no refl
          )
      | inr late ↦ (
          let more = above (omega (arith, size, within, late)) d in
          let up = buses_rise blocks dump first i d late (omega (arith, size, within)) in
          let e = ap (λ (t : Slot). t.bus) at in
          let no = lt-leb (get_or (slots_of blocks) i s).bus high (omega (arith, more, up, e)) in
          ap (λ x. nat_le low (get_or (slots_of blocks) i s).bus && x) no ∙ and-false _
          )
    ])

pub one_behind : (blocks : List Block) (low high first : ℕ) (b : Block) → AllWithin (λ b. low ≤ b.slot.bus) blocks first (length blocks)
    → first < length blocks → b ≡ get_or blocks first b → b.slot.bus ≤ high
    → list_any (is_within low high) (slots_of blocks) ≡ true
one_behind blocks low high first b after inside is small =
    let size = length-map blocks (λ (x : Block). x.slot) in
    let from = after first b (omega arith) inside in
    let at : get_or (slots_of blocks) first b.slot ≡ b.slot = get_or-map (λ (x : Block). x.slot) blocks first b b.slot inside ∙ ap (λ (x : Block). x.slot) (sym is) in
    let e = ap (λ (x : Block). x.slot.bus) is in
    let yes : is_within low high b.slot ≡ true = and_from (nat_le low b.slot.bus) (nat_le b.slot.bus high) (le-leb low b.slot.bus (omega (arith, from, e))) (le-leb b.slot.bus high small) in
    list_any_at (is_within low high) (slots_of blocks) first b.slot (omega (arith, size, inside)) (ap (is_within low high) at ∙ yes)
