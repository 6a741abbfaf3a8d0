-- Records rise by slot, so a slot is found by halving.
use Rattle.std.proofs.Common.{◌≡◌, ℕ, ◌<◌, ◌≤◌, ◌↔◌, ◌&&◌, true, false, refl, Bool, Option, Some, None, List, length, get_or, inl, inr, arith, sym, ◌∙◌, ap, subst, ltb}
use Rattle.std.specs.Prelude.{IsTrue, MatchOption, ◌==◌}
use Rattle.std.specs.Option.{is_some}
use Rattle.std.specs.List.{Contains, AllWithin}
use Rattle.std.specs.List.Sorted.{IsPartitionedBy, IsNonDecreasingBy}
use Rattle.std.proofs.lemmas.Bool.{cases_lt, cases_order, both_ways, and_parts, and_from, eqb-true, eq-eqb}
use Rattle.std.proofs.lemmas.List.Sorted.{IsPartitionedBy-ltb}
use Rattle.pci_spec.specs.Slot.{Slot, slot_number}
use Rattle.pci_spec.proofs.Members.{IsMade, in_map_to, in_map_from}
use Rattle.pci_function.specs.declared.record.Record.{Record}
use Rattle.pci_tree.specs.Ways.{slots_of}
use Rattle.pci_tree.specs.Outline.{RiseBySlot}

abbrev number_of : Record → ℕ
number_of r = slot_number r.slot

numbers_rise : (records : List Record) → RiseBySlot records → IsNonDecreasingBy number_of records
numbers_rise records rise i j d le within = elim (cases_lt i j) [
  | inl lt ↦ (let up : number_of (get_or records i d) < number_of (get_or records j d) = rise i j d lt within in omega arith)
  | inr ge ↦
      (let e : i ≡ j = omega arith in
      let same : number_of (get_or records i d) ≡ number_of (get_or records j d) = ap (λ n. number_of (get_or records n d)) e in omega arith)
]

pub parted_by_slot : (records : List Record) (number : ℕ) → RiseBySlot records → IsPartitionedBy (λ r. ltb (slot_number r.slot) number) records
parted_by_slot records number rise = IsPartitionedBy-ltb number_of records number (numbers_rise records rise)

-- no record has the slot, where the first that isn't lower hasn't
pub no_record : (rs : List Record) (slot : Slot) (k : ℕ) → RiseBySlot rs → AllWithin (λ x. slot_number x.slot < slot_number slot) rs 0 k
    → AllWithin (λ x. slot_number slot ≤ slot_number x.slot) rs k (length rs) → ((r : Record) → k < length rs → (get_or rs k r).slot ≡ slot → ⊥) → Contains (slots_of rs) slot → ⊥
no_record rs slot k rise before after here has =
    let made : IsMade (λ (x : Record). x.slot) rs slot = in_map_to (λ (x : Record). x.slot) rs slot has in
    let r : Record = made.from in
    let j = made.has.0 in
    let within = made.has.1 in
    let at : (get_or rs j r).slot ≡ slot = ap (λ (x : Record). x.slot) made.has.2 ∙ made.is in
    let number : slot_number (get_or rs j r).slot ≡ slot_number slot = ap slot_number at in
    elim (cases_order j k) [
      | inl same ↦ here r (subst (λ n. n < length rs) same within) (ap (λ n. (get_or rs n r).slot) (sym same) ∙ at)
      | inr (inl lt) ↦ (let less = before j r (omega arith) lt in omega (arith, less, number))
      | inr (inr gt) ↦ (let less = rise k j r gt within in
          let low = after k r (omega arith) (omega (arith, gt, within)) in omega (arith, less, low, number))
    ]

-- a record has its slot
pub in_slots : (rs : List Record) (r : Record) (slot : Slot) → Contains rs r → r.slot ≡ slot → Contains (slots_of rs) slot
in_slots rs r slot has at = subst (Contains (slots_of rs)) at (in_map_from (λ (x : Record). x.slot) rs r has)

-- a search finds a record exactly where one has the slot
pub found_if : {X : Type 0} (P : Type 0) (Q : X → Type 0) (o : Option X) → ((x : X) → Q x → P) → MatchOption o (P → ⊥) Q → IsTrue (is_some o) ↔ P
found_if P Q None there none = (λ some. absurd (both_ways false refl some), λ has. absurd (none has))
found_if P Q (Some x) there is = (λ some. there x is, λ has. refl)

-- slots are the same exactly where their three numbers are
pub same_by_numbers : (m n : Slot) (b : Bool) → b ≡ (m.bus == n.bus && (m.device == n.device && m.function == n.function)) → (b ≡ true) ↔ (m ≡ n)
same_by_numbers m n b is = (
  λ on. (
      let parts = and_parts (m.bus == n.bus) (m.device == n.device && m.function == n.function) (sym is ∙ on) in
      let rest = and_parts (m.device == n.device) (m.function == n.function) parts.1 in
      let bus : m.bus ≡ n.bus = eqb-true m.bus n.bus parts.0 in
      let device : m.device ≡ n.device = eqb-true m.device n.device rest.0 in
      let function : m.function ≡ n.function = eqb-true m.function n.function rest.1 in
      λ i. record { bus = bus i; device = device i; function = function i }),
  λ e. is ∙ and_from (m.bus == n.bus) (m.device == n.device && m.function == n.function) (eq-eqb m.bus n.bus (ap (λ (x : Slot). x.bus) e))
      (and_from (m.device == n.device) (m.function == n.function) (eq-eqb m.device n.device (ap (λ (x : Slot). x.device) e)) (eq-eqb m.function n.function (ap (λ (x : Slot). x.function) e))),
)
