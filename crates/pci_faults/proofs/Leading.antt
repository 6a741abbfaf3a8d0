-- Buses to which bridges of a dump lead, and slots that it lists.
use Rattle.std.proofs.Common.{◌≡◌, ℕ, ◌+◌, ◌<◌, ◌≤◌, ◌==◌, inl, inr, Bool, true, false, List, [], ◌∷◌, ◌++◌, length, get_or, set, take, replicate, refl, sym, ◌∙◌, ap, subst, arith, ltb}
use Rattle.std.specs.Prelude.{◌&&◌, ◌||◌, map}
use Rattle.std.specs.List.{AllWithin, Contains, list_any}
use Rattle.std.specs.List.Sorted.{IsPartitionedBy, IsNonDecreasingBy}
use Rattle.std.proofs.lemmas.Bool.{cases_eq, cases_lt, cases_order}
use Rattle.std.proofs.lemmas.List.{get_or-map, get_or-set_same, get_or-set_other, get_or-replicate, length-map, take_more}
use Rattle.std.proofs.lemmas.List.Folds.{list_any-append}
use Rattle.std.proofs.lemmas.List.Kept.{AllPairs-from_increasing}
use Rattle.std.proofs.lemmas.List.Sorted.{IsPartitionedBy-ltb}
use Rattle.pci_spec.specs.Slot.{Slot, slot_number}
use Rattle.pci_spec.specs.Header.{layout, secondary_bus}
use Rattle.pci_spec.specs.Text.{Block, IsDump, slots_of}
use Rattle.pci_spec.specs.System.{Function, is_bridge, system_of}
use Rattle.pci_spec.specs.Bus.{secondary}
use Rattle.pci_spec.proofs.Members.{IsMade, in_map_to, in_map_from}
use Rattle.pci_faults.specs.Before.{leads_to, AreLedTo}

-- ---- slots

abbrev number_of : Block → ℕ
number_of b = slot_number b.slot

rise : (blocks : List Block) → IsDump blocks → (i j : ℕ) (d : Block) → i < j → j < length blocks → number_of (get_or blocks i d) < number_of (get_or blocks j d)
rise blocks dump i j d lt within =
    let slots : List Slot = slots_of blocks in
    let long = length-map {B = Slot} blocks (λ b. b.slot) in
    let numbers = length-map slots slot_number in
    let less = AllPairs-from_increasing (map slot_number slots) dump.rising i j 0 lt (omega (arith, within, long, numbers)) in
    let low = get_or-map slot_number slots i d.slot 0 (omega (arith, lt, within, long)) ∙ ap slot_number (get_or-map (λ (b : Block). b.slot) blocks i d d.slot (omega (arith, lt, within))) in
    let high = get_or-map slot_number slots j d.slot 0 (omega (arith, within, long)) ∙ ap slot_number (get_or-map (λ (b : Block). b.slot) blocks j d d.slot within) in
    omega (arith, less, low, high)

numbers_rise : (blocks : List Block) → IsDump blocks → IsNonDecreasingBy number_of blocks
numbers_rise blocks dump i j d le within = elim (cases_lt i j) [
  | inl lt ↦ (let up = rise blocks dump i j d lt within in omega (arith, up))
  | inr ge ↦
      (let e : i ≡ j = omega (arith, le, ge) in
      let same : number_of (get_or blocks i d) ≡ number_of (get_or blocks j d) = ap (λ n. number_of (get_or blocks n d)) e in omega (arith, same))
]

pub parted_by_slot : (blocks : List Block) (number : ℕ) → IsDump blocks → IsPartitionedBy (λ b. ltb (slot_number b.slot) number) blocks
parted_by_slot blocks number dump = IsPartitionedBy-ltb number_of blocks number (numbers_rise blocks dump)

-- no block has the slot, where the first that isn't lower hasn't
pub no_block : (dump : List Block) (slot : Slot) (k : ℕ) → IsDump dump → AllWithin (λ b. slot_number b.slot < slot_number slot) dump 0 k
    → AllWithin (λ b. slot_number slot ≤ slot_number b.slot) dump k (length dump) → ((b : Block) → k < length dump → (get_or dump k b).slot ≡ slot → ⊥) → Contains (slots_of dump) slot → ⊥
no_block dump slot k is_dump before after here has =
    let made : IsMade (λ (b : Block). b.slot) dump slot = in_map_to (λ (b : Block). b.slot) dump slot has in
    let b : Block = made.from in
    let j = made.has.0 in
    let within = made.has.1 in
    let at : (get_or dump j b).slot ≡ slot = ap (λ (x : Block). x.slot) made.has.2 ∙ made.is in
    let number : slot_number (get_or dump j b).slot ≡ slot_number slot = ap slot_number at in
    elim (cases_order j k) [
      | inl same ↦ here b (subst (λ n. n < length dump) same within) (ap (λ n. (get_or dump n b).slot) (sym same) ∙ at)
      | inr (inl lt) ↦ (let less = before j b (omega arith) lt in omega (arith, less, number))
      | inr (inr gt) ↦ (let less = rise dump is_dump k j b gt within in
          let low = after k b (omega arith) (omega (arith, gt, within)) in omega (arith, less, low, number))
    ]

-- the slot of a block is one of the dump
pub lists_block : (dump : List Block) (b : Block) (k : ℕ) → k < length dump → b ≡ get_or dump k b → Contains (slots_of dump) b.slot
lists_block dump b k within at = in_map_from (λ (x : Block). x.slot) dump b (k, within, sym at)

-- ---- buses

or_none : (b : Bool) → (b || (false || false)) ≡ b
or_none true = refl
or_none false = refl

or_some : (b : Bool) → (b || (true || false)) ≡ true
or_some true = refl
or_some false = refl

pub led_none : AreLedTo [] (replicate 256 false)
led_none bus small = get_or-replicate 256 bus false false small

module _ (dump : List Block) (i : ℕ) (b : Block) (within : i < length dump) (at : b ≡ get_or dump i b) (led : List Bool) (are : AreLedTo (take i dump) led) where
  more : (bus : ℕ) → list_any (leads_to bus) (take (i + 1) dump) ≡ (list_any (leads_to bus) (take i dump) || (leads_to bus b || false))
  more bus = ap (list_any (leads_to bus)) (take_more dump i b within ∙ ap (λ x. take i dump ++ x ∷ []) (sym at)) ∙ list_any-append (leads_to bus) (take i dump) (b ∷ [])

  -- a bridge's bus has its flag set
  pub led_more : layout b.image ≡ 1 → length led ≡ 256 → AreLedTo (take (i + 1) dump) (set led (secondary_bus b.image) true)
  led_more bridge size bus small = elim (cases_eq bus (secondary_bus b.image)) [
    | inl here ↦
        (let on : leads_to bus b ≡ true = leads here in
        ap (λ x. get_or (set led (secondary_bus b.image) true) x false) here ∙ get_or-set_same led (secondary_bus b.image) true false (let lt : secondary_bus b.image < length led = omega (arith, here, small, size) in lt)
        ∙ sym (more bus ∙ ap (λ x. list_any (leads_to bus) (take i dump) || (x || false)) on ∙ or_some (list_any (leads_to bus) (take i dump))))
    | inr other ↦
        (let off : leads_to bus b ≡ false = leads_not other in
        get_or-set_other led (secondary_bus b.image) bus true false other ∙ are bus small
        ∙ sym (more bus ∙ ap (λ x. list_any (leads_to bus) (take i dump) || (x || false)) off ∙ or_none (list_any (leads_to bus) (take i dump))))
  ] where
    leads : bus ≡ secondary_bus b.image → leads_to bus b ≡ true
    leads here = search (arith)

    leads_not : (bus ≡ secondary_bus b.image → ⊥) → leads_to bus b ≡ false
    leads_not other = search (arith)

  -- another function leads nowhere
  pub led_same : (layout b.image ≡ 1 → ⊥) → AreLedTo (take (i + 1) dump) led
  led_same other bus small =
      are bus small ∙ sym (more bus ∙ ap (λ x. list_any (leads_to bus) (take i dump) || (x || false)) off ∙ or_none (list_any (leads_to bus) (take i dump)))
    where
      off : leads_to bus b ≡ false
      off = search (arith)

-- ---- of a dump and its probe

pub led_by_system : (dump probe : List Block) → length dump ≡ length probe → (bus : ℕ) → list_any (λ (c : Function). is_bridge c && secondary c == bus) (system_of dump probe) ≡ list_any (leads_to bus) dump
led_by_system [] probe size bus = refl
led_by_system (b ∷ dump) [] size bus = absurd (let no : ⊥ = omega (arith, size) in no)
led_by_system (b ∷ dump) (p ∷ probe) size bus = ap (λ x. leads_to bus b || x) (led_by_system dump probe (omega (arith, size)) bus)
