-- Blocks rise by slot, so the one whose title counts is found by halving.
use Rattle.std.specs.Prelude.{◌==◌, ◌&&◌, ◌||◌}
use Rattle.std.proofs.Common.{◌≡◌, ℕ, ◌<◌, ◌≤◌, Bool, true, false, List, [], ◌∷◌, length, get_or, map, inl, inr, refl, arith, sym, ◌∙◌, ap, eqb, ltb}
use Rattle.std.specs.List.{AllWithin, list_any}
use Rattle.std.specs.List.Sorted.{IsPartitionedBy, IsNonDecreasingBy}
use Rattle.std.proofs.lemmas.Bool.{cases_Bool, cases_lt, cases_order, and_parts, both_ways, eq-eqb, eqb-true}
use Rattle.std.proofs.lemmas.List.{get_or-map, get_or_default, length-map}
use Rattle.std.proofs.lemmas.List.Folds.{list_any-append, list_any_at, list_any_none}
use Rattle.std.proofs.lemmas.List.Kept.{AllPairs-from_increasing}
use Rattle.std.proofs.lemmas.List.Sorted.{IsPartitionedBy-ltb}
use Rattle.pci_spec.specs.Slot.{Slot, slot_number, same_slot}
use Rattle.pci_spec.specs.Text.{Block, IsDump, slots_of}
use Rattle.pci_spec.specs.Mark.{AssumedRegister, assumed_at, all_named, is_size_assumed, marked, named_in}

abbrev number_of : Block → ℕ
number_of b = slot_number b.slot

-- ---- slots rise

pub rise : (blocks : List Block) → IsDump blocks → (i j : ℕ) (d : Block) → i < j → j < length blocks → number_of (get_or blocks i d) < number_of (get_or blocks j d)
rise blocks dump i j d lt within =
    let slots : List Slot = slots_of blocks in
    let long = length-map {B = Slot} blocks (λ b. b.slot) in
    let numbers = length-map slots slot_number in
    let less = AllPairs-from_increasing (map slot_number slots) dump.rising i j 0 lt (omega (arith, within, long, numbers)) in
    let low = get_or-map slot_number slots i d.slot 0 (omega (arith, lt, within, long)) ∙ ap slot_number (get_or-map (λ (b : Block). b.slot) blocks i d d.slot (omega (arith, lt, within))) in
    let high = get_or-map slot_number slots j d.slot 0 (omega (arith, within, long)) ∙ ap slot_number (get_or-map (λ (b : Block). b.slot) blocks j d d.slot within) in
    omega (arith, less, low, high)

numbers_rise : (blocks : List Block) → IsDump blocks → IsNonDecreasingBy number_of blocks
numbers_rise blocks dump i j d le within = elim (cases_lt i j) [
  | inl lt ↦ (let up = rise blocks dump i j d lt within in omega (arith, up))
  | inr ge ↦
      (let e : i ≡ j = omega (arith, le, ge) in
      let same : number_of (get_or blocks i d) ≡ number_of (get_or blocks j d) = ap (λ n. number_of (get_or blocks n d)) e in omega (arith, same))
]

pub parted_by_slot : (blocks : List Block) (number : ℕ) → IsDump blocks → IsPartitionedBy (λ b. ltb (slot_number b.slot) number) blocks
parted_by_slot blocks number dump = IsPartitionedBy-ltb number_of blocks number (numbers_rise blocks dump)

-- ---- what the titles name

module _ (slot : Slot) (register : ℕ) where
  -- whether it is the function's, and its title names the register
  abbrev names : Block → Bool
  names b = same_slot b.slot slot && list_any (λ r. r == register) (marked b.title)

  abbrev is_it : AssumedRegister → Bool
  is_it a = same_slot a.slot slot && a.register == register

  and_none : (b : Bool) → (b && false) ≡ false
  and_none true = refl
  and_none false = refl

  and_or : (a b c : Bool) → ((a && b) || (a && c)) ≡ (a && (b || c))
  and_or true b c = refl
  and_or false b c = refl

  of_function : (at : Slot) (registers : List ℕ) → list_any is_it (map (assumed_at at) registers) ≡ (same_slot at slot && list_any (λ r. r == register) registers)
  of_function at [] = sym (and_none (same_slot at slot))
  of_function at (r ∷ more) =
      ap (λ b. (same_slot at slot && r == register) || b) (of_function at more) ∙ and_or (same_slot at slot) (r == register) (list_any (λ q. q == register) more)

  pub named_by_block : (blocks : List Block) → is_size_assumed (all_named blocks) slot register ≡ list_any names blocks
  named_by_block [] = refl
  named_by_block (b ∷ blocks) =
      list_any-append is_it (named_in b) (all_named blocks) ∙ ap (λ x. x || list_any is_it (all_named blocks)) (of_function b.slot (marked b.title)) ∙ ap (λ x. names b || x) (named_by_block blocks)

  other_number : (b : Block) → (slot_number b.slot ≡ slot_number slot → ⊥) → names b ≡ false
  other_number b other = elim (cases_Bool (same_slot b.slot slot)) [
    | inr off ↦ ap (λ x. x && list_any (λ r. r == register) (marked b.title)) off
    | inl on ↦ absurd (other (same_number b.slot slot on))
  ] where
    same_number : (s t : Slot) → same_slot s t ≡ true → slot_number s ≡ slot_number t
    same_number s t on =
        let parts = and_parts (s.bus == t.bus && s.device == t.device) (s.function == t.function) on in
        let first = and_parts (s.bus == t.bus) (s.device == t.device) parts.0 in
        let bus = eqb-true s.bus t.bus first.0 in
        let device = eqb-true s.device t.device first.1 in
        let function = eqb-true s.function t.function parts.1 in
        ap slot_number (λ i. record { bus = bus i; device = device i; function = function i })

  and_order : (a b c : Bool) → ((a && b) && c) ≡ (a && (b && c))
  and_order true b c = refl
  and_order false b c = refl

  -- by the comparison of slots that the code makes
  abbrev is_slot : Block → Bool
  is_slot b = b.slot.bus == slot.bus && (b.slot.device == slot.device && b.slot.function == slot.function)

  slots_same : (b : Block) → same_slot b.slot slot ≡ is_slot b
  slots_same b = and_order (b.slot.bus == slot.bus) (b.slot.device == slot.device) (b.slot.function == slot.function)

  pub named_view : (v b : Block) (eq : Bool) → v ≡ b → eq ≡ is_slot v → eq ≡ true → list_any (λ r. r == register) (marked v.title) ≡ names b
  named_view v b eq view is on = sym (ap (λ x. x && list_any (λ r. r == register) (marked v.title)) (slots_same v ∙ sym is ∙ on)) ∙ ap names view

  pub other_view : (v b : Block) (eq : Bool) → v ≡ b → eq ≡ is_slot v → eq ≡ false → eq ≡ names b
  other_view v b eq view is off = off ∙ sym (ap (λ x. x && list_any (λ r. r == register) (marked v.title)) (slots_same v ∙ sym is ∙ off)) ∙ ap names view

  -- only the block at an index can name it
  one_block : (blocks : List Block) (k : ℕ) (b : Block) → k < length blocks → b ≡ get_or blocks k b → ((j : ℕ) (d : Block) → j < length blocks → (j ≡ k → ⊥) → names (get_or blocks j d) ≡ false) → list_any names blocks ≡ names b
  one_block blocks k b within is others = elim (cases_Bool (names b)) [
    | inl on ↦ list_any_at names blocks k b within (ap names (sym is) ∙ on) ∙ sym on
    | inr off ↦ list_any_none names blocks (λ j d less. elim (cases_Bool (eqb j k)) [
      | inl same ↦
          let at : j ≡ k = eqb-true j k same in
          ap (λ n. names (get_or blocks n d)) at ∙ ap names (get_or_default blocks k d b within ∙ sym is) ∙ off
      | inr apart ↦ others j d less (λ e. both_ways (eqb j k) apart (eq-eqb j k e))
    ]) ∙ sym off
  ]

  module _ (blocks : List Block) (dump : IsDump blocks) (k : ℕ) (before : AllWithin (λ b. slot_number b.slot < slot_number slot) blocks 0 k) (after : AllWithin (λ b. slot_number slot ≤ slot_number b.slot) blocks k (length blocks)) where
    pub none_at : length blocks ≤ k → false ≡ is_size_assumed (all_named blocks) slot register
    none_at past =
        sym (named_by_block blocks
        ∙ list_any_none names blocks (λ j d less. other_number (get_or blocks j d) (λ e. let low = before j d (omega arith) (omega (arith, past, less)) in omega (arith, low, e))))

    pub at_block : (b : Block) → k < length blocks → b ≡ get_or blocks k b → names b ≡ is_size_assumed (all_named blocks) slot register
    at_block b within is =
        sym (named_by_block blocks
        ∙ one_block blocks k b within is (λ j d less apart. other_number (get_or blocks j d) (λ e. elim (cases_order j k) [
          | inl same ↦ apart same
          | inr (inl lt) ↦ (let low = before j d (omega arith) lt in omega (arith, low, e))
          | inr (inr gt) ↦ (let up = rise blocks dump k j d gt less in
              let low = after k d (omega arith) within in omega (arith, up, low, e))
        ])))
