-- A function moves, and what words take it as moves along with it.
use Rattle.std.proofs.Common.{◌≡◌, ℕ, ◌/◌, ◌<◌, Bool, true, ◌&&◌, inl, inr, refl, sym, ◌∙◌, ap, arith}
use Rattle.std.specs.Bool.{nat_lt, ◌==◌}
use Rattle.std.specs.Int.{bit_at}
use Rattle.std.proofs.lemmas.Bool.{and_parts, cases_Bool, eqb-true, ltb-true}
use Rattle.std.proofs.lemmas.List.{ext_get_or}
use Rattle.std.proofs.lemmas.Nat.Bits.{same_from_bits_below}
use Rattle.pci_spec.specs.Number.{byte_at, number_at, has_bit, IsImage}
use Rattle.pci_spec.specs.Header.{class_code, layout, rom_register}
use Rattle.pci_spec.specs.Registers.{COMMAND}
use Rattle.pci_spec.specs.System.{Function}
use Rattle.pci_spec.specs.Machine.{in_fields, address_fields, writable_bits, writable_by, clearing_bits}
use Rattle.plan_spec.specs.Plan.{IsMoved}
use Rattle.plan_spec.proofs.Planning.Fit.{clearing_same}
use Rattle.plan_spec.proofs.Planning.Moved.{kind_fields, layout_same}
use Rattle.plan_spec.proofs.Planning.Writes.{enables_are_writable}
use Rattle.pci_spec.proofs.WritableBits.{has_bit-writable_bits}
use Rattle.settle_answer_laws.proofs.AddressBits.{address_bits_writable}

-- whether a write may set a bit of a function
abbrev pub may_set : Function → ℕ → ℕ → Bool
may_set f place i = has_bit (byte_at (writable_bits f.image f.probe) place) i

-- a function as another one shows it: no bit differs that a write may set
pub record IsAs (f h : Function) : Type 0 where
  pub slot : h.slot ≡ f.slot
  pub probe : h.probe ≡ f.probe
  pub kind : layout h.image ≡ layout f.image
  pub class : class_code h.image / 256 ≡ class_code f.image / 256
  pub image : IsImage h.image
  pub same : (place i : ℕ) → place < 256 → i < 8 → may_set f place i ≡ true → bit_at (byte_at h.image place) i ≡ bit_at (byte_at f.image place) i

pub as_itself : (f : Function) → IsImage f.image → IsAs f f
as_itself f is = record { slot = refl; probe = refl; kind = refl; class = refl; image = is; same = λ place i inside small may. refl }

module _ (f h : Function) (slot_kind : layout h.image ≡ layout f.image) (probe : h.probe ≡ f.probe) where
  -- the same bits may be set
  pub may_set_same : (place i : ℕ) → place < 256 → i < 8 → may_set h place i ≡ may_set f place i
  may_set_same place i inside small =
      has_bit-writable_bits h.image h.probe place i inside small
      ∙ fields
      ∙ sym (has_bit-writable_bits f.image f.probe place i inside small)
    where
      fields : in_fields (writable_by (layout h.image == 1) h.probe) place i ≡ in_fields (writable_by (layout f.image == 1) f.probe) place i
      fields = λ j. in_fields (writable_by (slot_kind j == 1) (probe j)) place i

  pub fields_same : address_fields h.image h.probe ≡ address_fields f.image f.probe
  fields_same = λ j. kind_fields (slot_kind j == 1) (probe j) (number_at (probe j) (rom_register (slot_kind j)) 4)

  pub clears_same : clearing_bits h.image ≡ clearing_bits f.image
  clears_same = clearing_same f h slot_kind

pub as_through : (f g h : Function) → IsAs f g → IsAs g h → IsAs f h
as_through f g h a b = record {
  slot = b.slot ∙ a.slot;
  probe = b.probe ∙ a.probe;
  kind = b.kind ∙ a.kind;
  class = b.class ∙ a.class;
  image = b.image;
  same = λ place i inside small may. b.same place i inside small (may_set_same f g a.kind a.probe place i inside small ∙ may) ∙ a.same place i inside small may;
}

-- f moves to g, as h does to k
pub record IsAlong (f g h k : Function) : Type 0 where
  pub before : IsAs f h
  pub after : IsAs g k
  pub moved : IsMoved h k

pub along_itself : (f g : Function) → IsImage f.image → IsMoved f g → IsAlong f g f g
along_itself f g is m = record { before = as_itself f is; after = as_itself g m.image; moved = m }

pub along_through : (f g h k l m : Function) → IsAlong f g h k → IsAlong h k l m → IsAlong f g l m
along_through f g h k l m a b = record { before = as_through f h l a.before b.before; after = as_through g k m a.after b.after; moved = b.moved }

-- ---- there is one such function

-- address bits and enables may be set
pub changing_may : (f : Function) (place i : ℕ) → place < 256 → i < 8 → (in_fields (address_fields f.image f.probe) place i ≡ true) → may_set f place i ≡ true
changing_may f place i inside small field = address_bits_writable f place i inside small field

pub enables_may : (f : Function) (place i : ℕ) → (place == COMMAND && nat_lt i 2) ≡ true → may_set f place i ≡ true
enables_may f place i enables =
    let parts = and_parts (place == 4) (nat_lt i 2) enables in
    ap (λ p. has_bit (byte_at (writable_bits f.image f.probe) p) i) (eqb-true place 4 parts.0) ∙ enables_are_writable f.image f.probe i (ltb-true i 2 parts.1)

module _ (g h k l : Function) (is : IsImage h.image) (left : IsAs g k) (right : IsAs g l) (to_left : IsMoved h k) (to_right : IsMoved h l) where
  may_from : (place i : ℕ) → place < 256 → i < 8 → may_set h place i ≡ true → may_set g place i ≡ true
  may_from place i inside small may =
      sym (may_set_same g k left.kind left.probe place i inside small)
      ∙ may_set_same h k (layout_same h k to_left is) to_left.probe place i inside small
      ∙ may

  both_show : (place i : ℕ) → place < 256 → i < 8 → may_set h place i ≡ true → bit_at (byte_at k.image place) i ≡ bit_at (byte_at l.image place) i
  both_show place i inside small may =
      left.same place i inside small (may_from place i inside small may) ∙ sym (right.same place i inside small (may_from place i inside small may))

  bit_is : (place i : ℕ) → place < 256 → i < 8 → bit_at (byte_at k.image place) i ≡ bit_at (byte_at l.image place) i
  bit_is place i inside small = elim (cases_Bool (in_fields (address_fields h.image h.probe) place i)) [
    | inl field ↦ both_show place i inside small (changing_may h place i inside small field)
    | inr plain ↦ elim (cases_Bool (place == COMMAND && nat_lt i 2)) [
      | inl enables ↦ both_show place i inside small (enables_may h place i enables)
      | inr other ↦ to_left.same place i inside small plain other ∙ sym (to_right.same place i inside small plain other)
    ]
  ]

  image_is : k.image ≡ l.image
  image_is = ext_get_or 0 k.image l.image (to_left.image.full ∙ sym to_right.image.full) (λ place less.
      same_from_bits_below 8 (byte_at k.image place) (byte_at l.image place) (to_left.image.bytes place) (to_right.image.bytes place)
      (λ i small. bit_is place i (let full = to_left.image.full in omega (arith, full, less)) small))

  slot_is : k.slot ≡ l.slot
  slot_is = to_left.slot ∙ sym to_right.slot

  probe_is : k.probe ≡ l.probe
  probe_is = to_left.probe ∙ sym to_right.probe

  -- what moved along is what shows the same
  pub one_along : k ≡ l
  one_along = λ j. record { slot = slot_is j; image = image_is j; probe = probe_is j }
