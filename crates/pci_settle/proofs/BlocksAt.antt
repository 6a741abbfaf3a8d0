-- Blocks rise by slot, so the one at a slot is found by halving; and what Command enables in a dump, it enables in its system.
use Rattle.std.specs.Prelude.{◌==◌, ◌&&◌, ◌||◌}
use Rattle.std.proofs.Common.{◌≡◌, ℕ, ◌<◌, ◌≤◌, Bool, true, false, List, [], ◌∷◌, length, get_or, map, inl, inr, refl, arith, sym, ◌∙◌, ap, eqb, ltb}
use Rattle.std.specs.List.{AllWithin, list_any}
use Rattle.std.specs.List.Sorted.{IsPartitionedBy, IsNonDecreasingBy}
use Rattle.std.proofs.lemmas.Bool.{cases_Bool, cases_lt, cases_order, and_parts, both_ways, eq-eqb, eqb-true}
use Rattle.std.proofs.lemmas.List.{get_or-map, get_or_default, length-map}
use Rattle.std.proofs.lemmas.List.Folds.{list_any_at, list_any_none}
use Rattle.std.proofs.lemmas.List.Kept.{AllPairs-from_increasing}
use Rattle.std.proofs.lemmas.List.Sorted.{IsPartitionedBy-ltb}
use Rattle.std.proofs.lemmas.Option.{slice_get_within, get_or_from_slice_get}
use Rattle.pci_spec.specs.Header.{command}
use Rattle.pci_spec.specs.Slot.{Slot, slot_number, same_slot}
use Rattle.pci_spec.specs.Text.{Block, IsDump, slots_of}
use Rattle.pci_spec.specs.System.{Space, Io, Memory, is_space_on, function_of, system_of}
use Rattle.pci_spec.proofs.Pairing.{same_length}
use Rattle.judge_spec.specs.ToldClaims.{is_enabled_at}
use Rattle.settle_spec.specs.Lists.{Request}
use Rattle.settle_spec.specs.Kept.{Kept}
use Rattle.pci_base.specs.Space.{is_on}
use Rattle.pci_tree.specs.Admission.{Admission, IsAdmitted}
use Rattle.pci_place.specs.Above.{system_in}
use Rattle.pci_settle.specs.Dumps.{IsSettledDump}
use Rattle.pci_settle.specs.ToldEndings.{is_enabled_in_blocks, AreFlagsThen}

abbrev number_of : Block → ℕ
number_of b = slot_number b.slot

-- ---- slots rise

rise : (blocks : List Block) → IsDump blocks → (i j : ℕ) (d : Block) → i < j → j < length blocks → number_of (get_or blocks i d) < number_of (get_or blocks j d)
rise blocks dump i j d lt within =
    let slots : List Slot = slots_of blocks in
    let long = length-map {B = Slot} blocks (λ b. b.slot) in
    let numbers = length-map slots slot_number in
    let less = AllPairs-from_increasing (map slot_number slots) dump.rising i j 0 lt (omega (arith, within, long, numbers)) in
    let low = get_or-map slot_number slots i d.slot 0 (omega (arith, lt, within, long)) ∙ ap slot_number (get_or-map (λ (b : Block). b.slot) blocks i d d.slot (omega (arith, lt, within))) in
    let high = get_or-map slot_number slots j d.slot 0 (omega (arith, within, long)) ∙ ap slot_number (get_or-map (λ (b : Block). b.slot) blocks j d d.slot within) in
    omega (arith, less, low, high)

numbers_rise : (blocks : List Block) → IsDump blocks → IsNonDecreasingBy number_of blocks
numbers_rise blocks dump i j d le within = elim (cases_lt i j) [
  | inl lt ↦ (let up = rise blocks dump i j d lt within in omega (arith, up))
  | inr ge ↦
      (let e : i ≡ j = omega (arith, le, ge) in
      let same : number_of (get_or blocks i d) ≡ number_of (get_or blocks j d) = ap (λ n. number_of (get_or blocks n d)) e in omega (arith, same))
]

pub parted_by_slot : (blocks : List Block) (number : ℕ) → IsDump blocks → IsPartitionedBy (λ b. ltb (slot_number b.slot) number) blocks
parted_by_slot blocks number dump = IsPartitionedBy-ltb number_of blocks number (numbers_rise blocks dump)

-- ---- a dump and its system

space_is : (b p : Block) (space : Space) → is_on (command b.image) space ≡ is_space_on (function_of b p) space
space_is b p Io = refl
space_is b p Memory = refl

-- where the probe has as many blocks
pub enabled_is : (slot : Slot) (space : Space) (dump probe : List Block) → length dump ≡ length probe → is_enabled_in_blocks dump slot space ≡ is_enabled_at (system_of dump probe) slot space
enabled_is slot space [] probe same = refl
enabled_is slot space (b ∷ dump) [] same = absurd (let no : ⊥ = omega (arith, same) in no)
enabled_is slot space (b ∷ dump) (p ∷ probe) same =
    ap (λ on. (same_slot b.slot slot && on) || is_enabled_in_blocks dump slot space) (space_is b p space)
    ∙ ap (λ rest. (same_slot b.slot slot && is_space_on (function_of b p) space) || rest) (enabled_is slot space dump probe (let e : length dump ≡ length probe = omega (arith, same) in e))

-- so flags by the settled dump are those by the settled system
pub flags_of : (q : Request) (keep : Kept) (a : Admission) (dump : List Block) → IsAdmitted a → IsSettledDump q keep a dump
    → AreFlagsThen q (system_in a) keep (map (λ r. is_enabled_in_blocks dump r.slot r.space) q.told.ranges)
flags_of q keep a dump admitted settled n r at =
    get_or-map (λ r. is_enabled_in_blocks dump r.slot r.space) q.told.ranges n r false (slice_get_within q.told.ranges n r at)
    ∙ ap (λ x. is_enabled_in_blocks dump x.slot x.space) (get_or_from_slice_get q.told.ranges n r r at)
    ∙ enabled_is r.slot r.space dump a.probe (same_length dump a.probe (settled.slots ∙ admitted.slots))
    ∙ ap (λ s. is_enabled_at s r.slot r.space) settled.system

-- ---- the block at a slot

module _ (slot : Slot) (test : Block → Bool) where
  -- it is at the slot, and passes
  abbrev is_it : Block → Bool
  is_it b = same_slot b.slot slot && test b

  other_number : (b : Block) → (slot_number b.slot ≡ slot_number slot → ⊥) → is_it b ≡ false
  other_number b other = elim (cases_Bool (same_slot b.slot slot)) [
    | inr off ↦ ap (λ x. x && test b) off
    | inl on ↦ absurd (other (same_number b.slot slot on))
  ] where
    same_number : (s t : Slot) → same_slot s t ≡ true → slot_number s ≡ slot_number t
    same_number s t on =
        let parts = and_parts (s.bus == t.bus && s.device == t.device) (s.function == t.function) on in
        let first = and_parts (s.bus == t.bus) (s.device == t.device) parts.0 in
        let bus = eqb-true s.bus t.bus first.0 in
        let device = eqb-true s.device t.device first.1 in
        let function = eqb-true s.function t.function parts.1 in
        ap slot_number (λ i. record { bus = bus i; device = device i; function = function i })

  and_order : (a b c : Bool) → ((a && b) && c) ≡ (a && (b && c))
  and_order true b c = refl
  and_order false b c = refl

  -- by the comparison of slots that the code makes
  pub by_numbers : (b : Block) → same_slot b.slot slot ≡ (b.slot.bus == slot.bus && (b.slot.device == slot.device && b.slot.function == slot.function))
  by_numbers b = and_order (b.slot.bus == slot.bus) (b.slot.device == slot.device) (b.slot.function == slot.function)

  -- only the block at an index can pass
  one_block : (blocks : List Block) (k : ℕ) (b : Block) → k < length blocks → b ≡ get_or blocks k b → ((j : ℕ) (d : Block) → j < length blocks → (j ≡ k → ⊥) → is_it (get_or blocks j d) ≡ false) → list_any is_it blocks ≡ is_it b
  one_block blocks k b within is others = elim (cases_Bool (is_it b)) [
    | inl on ↦ list_any_at is_it blocks k b within (ap is_it (sym is) ∙ on) ∙ sym on
    | inr off ↦ list_any_none is_it blocks (λ j d less. elim (cases_Bool (eqb j k)) [
      | inl same ↦
          let at : j ≡ k = eqb-true j k same in
          ap (λ n. is_it (get_or blocks n d)) at ∙ ap is_it (get_or_default blocks k d b within ∙ sym is) ∙ off
      | inr apart ↦ others j d less (λ e. both_ways (eqb j k) apart (eq-eqb j k e))
    ]) ∙ sym off
  ]

  module _ (blocks : List Block) (dump : IsDump blocks) (k : ℕ) (before : AllWithin (λ b. slot_number b.slot < slot_number slot) blocks 0 k) (after : AllWithin (λ b. slot_number slot ≤ slot_number b.slot) blocks k (length blocks)) where
    pub none_at : length blocks ≤ k → list_any is_it blocks ≡ false
    none_at past = list_any_none is_it blocks (λ j d less. other_number (get_or blocks j d) (λ e. let low = before j d (omega arith) (omega (arith, past, less)) in omega (arith, low, e)))

    pub at_block : (b : Block) → k < length blocks → b ≡ get_or blocks k b → list_any is_it blocks ≡ is_it b
    at_block b within is =
        one_block blocks k b within is (λ j d less apart. other_number (get_or blocks j d) (λ e. elim (cases_order j k) [
          | inl same ↦ apart same
          | inr (inl lt) ↦ (let low = before j d (omega arith) lt in omega (arith, low, e))
          | inr (inr gt) ↦ (let up = rise blocks dump k j d gt less in
              let low = after k d (omega arith) within in omega (arith, up, low, e))
        ]))
