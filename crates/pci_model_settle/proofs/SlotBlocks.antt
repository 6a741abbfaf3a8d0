-- Blocks rise by slot, so the one at a slot is found by halving.
use Rattle.std.proofs.Common.{◌≡◌, ◌==◌, ◌&&◌, ℕ, zero, suc, ◌<◌, ◌≤◌, Bool, true, false, List, [], ◌∷◌, length, get_or, map, set, inl, inr, refl, arith, sym, ◌∙◌, ap, eqb-true, ltb, if◌then◌else◌}
use Rattle.std.specs.List.{AllWithin}
use Rattle.std.specs.List.Sorted.{IsPartitionedBy, IsNonDecreasingBy}
use Rattle.std.proofs.lemmas.Bool.{cases_Bool, cases_lt, and_parts}
use Rattle.std.proofs.lemmas.List.{get_or-map, length-map}
use Rattle.std.proofs.lemmas.List.Kept.{AllPairs-from_increasing}
use Rattle.std.proofs.lemmas.List.Sorted.{IsPartitionedBy-ltb}
use Rattle.pci_spec.specs.Header.{command}
use Rattle.pci_spec.specs.Slot.{Slot, IsRising, slot_number, same_slot}
use Rattle.pci_spec.specs.Text.{Block, slots_of}
use Rattle.pci_spec.specs.Machine.{Write}
use Rattle.judge_spec.specs.Windows.{with_number}
use Rattle.pci_model_settle.specs.Listed.{block_after, listed_command}

rise : (blocks : List Block) → IsRising (slots_of blocks) → (i j : ℕ) (d : Block) → i < j → j < length blocks → slot_number (get_or blocks i d).slot < slot_number (get_or blocks j d).slot
rise blocks dump i j d lt within =
    let slots : List Slot = slots_of blocks in
    let long = length-map {B = Slot} blocks (λ b. b.slot) in
    let numbers = length-map slots slot_number in
    let less = AllPairs-from_increasing (map slot_number slots) dump i j 0 lt (omega (arith, within, long, numbers)) in
    let low = get_or-map slot_number slots i d.slot 0 (omega (arith, lt, within, long)) ∙ ap slot_number (get_or-map (λ (b : Block). b.slot) blocks i d d.slot (omega (arith, lt, within))) in
    let high = get_or-map slot_number slots j d.slot 0 (omega (arith, within, long)) ∙ ap slot_number (get_or-map (λ (b : Block). b.slot) blocks j d d.slot within) in
    omega (arith, less, low, high)

numbers_rise : (blocks : List Block) → IsRising (slots_of blocks) → IsNonDecreasingBy (λ b. slot_number b.slot) blocks
numbers_rise blocks dump i j d le within = elim (cases_lt i j) [
  | inl lt ↦ (let up = rise blocks dump i j d lt within in omega (arith, up))
  | inr ge ↦
      (let e : i ≡ j = omega (arith, le, ge) in
      let same : slot_number (get_or blocks i d).slot ≡ slot_number (get_or blocks j d).slot = ap (λ n. slot_number (get_or blocks n d).slot) e in omega (arith, same))
]

pub parted_by_slot : (blocks : List Block) (number : ℕ) → IsRising (slots_of blocks) → IsPartitionedBy (λ b. ltb (slot_number b.slot) number) blocks
parted_by_slot blocks number dump = IsPartitionedBy-ltb (λ b. slot_number b.slot) blocks number (numbers_rise blocks dump)

same_number : (s t : Slot) → same_slot s t ≡ true → slot_number s ≡ slot_number t
same_number s t on =
    let parts = and_parts (s.bus == t.bus && s.device == t.device) (s.function == t.function) on in
    let first = and_parts (s.bus == t.bus) (s.device == t.device) parts.0 in
    let bus = eqb-true s.bus t.bus first.0 in
    let device = eqb-true s.device t.device first.1 in
    let function = eqb-true s.function t.function parts.1 in
    ap slot_number (λ i. record { bus = bus i; device = device i; function = function i })

other_slot : (s t : Slot) → (slot_number s ≡ slot_number t → ⊥) → same_slot s t ≡ false
other_slot s t other = elim (cases_Bool (same_slot s t)) [
  | inl on ↦ absurd (other (same_number s t on))
  | inr off ↦ off
]

module _ (slot : Slot) where
  -- blocks of other slots have no Command there
  none_there : (blocks : List Block) → ((k : ℕ) (d : Block) → k < length blocks → slot_number (get_or blocks k d).slot ≡ slot_number slot → ⊥) → listed_command blocks slot ≡ 0
  none_there [] others = refl
  none_there (b ∷ blocks) others =
      ap (λ same. if same then command b.image else listed_command blocks slot) (other_slot b.slot slot (others 0 b (omega arith)))
      ∙ none_there blocks (λ k d less. others (suc k) d (omega (arith, less)))

  -- the block of an index, where those before it are of others, and those behind it
  at_index : (blocks : List Block) (n : ℕ) (b : Block) → n < length blocks → b ≡ get_or blocks n b
      → ((k : ℕ) (d : Block) → k < n → slot_number (get_or blocks k d).slot ≡ slot_number slot → ⊥)
      → ((k : ℕ) (d : Block) → n < k → k < length blocks → slot_number (get_or blocks k d).slot ≡ slot_number slot → ⊥)
      → listed_command blocks slot ≡ (if same_slot b.slot slot then command b.image else 0)
  at_index [] n b within is before after = absurd (let no : ⊥ = omega (arith, within) in no)
  at_index (c ∷ blocks) zero b within is before after =
      ap (λ rest. if same_slot c.slot slot then command c.image else rest) (none_there blocks (λ k d less. after (suc k) d (omega arith) (omega (arith, less))))
      ∙ ap (λ (x : Block). if same_slot x.slot slot then command x.image else 0) (sym is)
  at_index (c ∷ blocks) (suc n) b within is before after =
      ap (λ same. if same then command c.image else listed_command blocks slot) (other_slot c.slot slot (before 0 c (omega arith)))
      ∙ at_index blocks n b (omega (arith, within)) is (λ k d less. before (suc k) d (omega (arith, less))) (λ k d more less. after (suc k) d (omega (arith, more)) (omega (arith, less)))

  module _ (blocks : List Block) (dump : IsRising (slots_of blocks)) (n : ℕ) (before : AllWithin (λ b. slot_number b.slot < slot_number slot) blocks 0 n) (after : AllWithin (λ b. slot_number slot ≤ slot_number b.slot) blocks n (length blocks)) where
    pub command_none : length blocks ≤ n → listed_command blocks slot ≡ 0
    command_none past = none_there blocks (λ k d less e. let low = before k d (omega arith) (omega (arith, past, less)) in omega (arith, low, e))

    pub command_there : (b : Block) → n < length blocks → b ≡ get_or blocks n b → listed_command blocks slot ≡ (if same_slot b.slot slot then command b.image else 0)
    command_there b within is =
        at_index blocks n b within is
        (λ k d less e. let low = before k d (omega arith) less in omega (arith, low, e))
        (λ k d more less e. let up = rise blocks dump n k d more less in let low = after n d (omega arith) within in omega (arith, up, low, e))

and_order : (a b c : Bool) → ((a && b) && c) ≡ (a && (b && c))
and_order true b c = refl
and_order false b c = refl

-- by the comparison of slots that the code makes
pub by_numbers : (s t : Slot) → same_slot s t ≡ (s.bus == t.bus && (s.device == t.device && s.function == t.function))
by_numbers s t = and_order (s.bus == t.bus) (s.device == t.device) (s.function == t.function)

-- ---- a write to the block of a slot

module _ (w : Write) where
  left_alone : (b : Block) → (slot_number b.slot ≡ slot_number w.slot → ⊥) → block_after w b ≡ b
  left_alone b other = ap (λ same. if same then record b { image = with_number w.width w.offset w.value b.image } else b) (other_slot b.slot w.slot other)

  all_alone : (blocks : List Block) → ((k : ℕ) (d : Block) → k < length blocks → slot_number (get_or blocks k d).slot ≡ slot_number w.slot → ⊥) → map (block_after w) blocks ≡ blocks
  all_alone [] others = refl
  all_alone (b ∷ blocks) others =
      ap (λ (x : Block). x ∷ map (block_after w) blocks) (left_alone b (others 0 b (omega arith)))
      ∙ ap (λ rest. b ∷ rest) (all_alone blocks (λ k d less. others (suc k) d (omega (arith, less))))

  one_changed : (blocks : List Block) (n : ℕ) (b : Block) → n < length blocks → b ≡ get_or blocks n b
      → ((k : ℕ) (d : Block) → k < n → slot_number (get_or blocks k d).slot ≡ slot_number w.slot → ⊥)
      → ((k : ℕ) (d : Block) → n < k → k < length blocks → slot_number (get_or blocks k d).slot ≡ slot_number w.slot → ⊥)
      → map (block_after w) blocks ≡ set blocks n (block_after w b)
  one_changed [] n b within is before after = absurd (let no : ⊥ = omega (arith, within) in no)
  one_changed (c ∷ blocks) zero b within is before after =
      ap (λ rest. block_after w c ∷ rest) (all_alone blocks (λ k d less. after (suc k) d (omega arith) (omega (arith, less))))
      ∙ ap (λ (x : Block). block_after w x ∷ blocks) (sym is)
  one_changed (c ∷ blocks) (suc n) b within is before after =
      ap (λ (x : Block). x ∷ map (block_after w) blocks) (left_alone c (before 0 c (omega arith)))
      ∙ ap (λ rest. c ∷ rest) (one_changed blocks n b (omega (arith, within)) is (λ k d less. before (suc k) d (omega (arith, less))) (λ k d more less. after (suc k) d (omega (arith, more)) (omega (arith, less))))

  module _ (blocks : List Block) (dump : IsRising (slots_of blocks)) (n : ℕ) (before : AllWithin (λ b. slot_number b.slot < slot_number w.slot) blocks 0 n) (after : AllWithin (λ b. slot_number w.slot ≤ slot_number b.slot) blocks n (length blocks)) where
    pub none_written : length blocks ≤ n → map (block_after w) blocks ≡ blocks
    none_written past = all_alone blocks (λ k d less e. let low = before k d (omega arith) (omega (arith, past, less)) in omega (arith, low, e))

    pub one_written : (b : Block) → n < length blocks → b ≡ get_or blocks n b → map (block_after w) blocks ≡ set blocks n (block_after w b)
    one_written b within is =
        one_changed blocks n b within is
        (λ k d less e. let low = before k d (omega arith) less in omega (arith, low, e))
        (λ k d more less e. let up = rise blocks dump n k d more less in let low = after n d (omega arith) within in omega (arith, up, low, e))

-- no slot changes
pub slots_stay : (w : Write) (blocks : List Block) → slots_of (map (block_after w) blocks) ≡ slots_of blocks
slots_stay w [] = refl
slots_stay w (b ∷ blocks) = ap (λ (slot : Slot). slot ∷ slots_of (map (block_after w) blocks)) (slot_stays (same_slot b.slot w.slot) b) ∙ ap (λ slots. b.slot ∷ slots) (slots_stay w blocks) where
  slot_stays : (same : Bool) (b : Block) → (if same then record b { image = with_number w.width w.offset w.value b.image } else b).slot ≡ b.slot
  slot_stays true b = refl
  slot_stays false b = refl
