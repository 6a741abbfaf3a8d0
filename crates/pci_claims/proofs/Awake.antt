-- Which told ranges are on, by the slots of functions that are asleep and the records of the others.
use Rattle.std.proofs.Common.{◌≡◌, ℕ, ◌+◌, ◌<◌, ◌≤◌, inl, inr, List, [], ◌∷◌, ◌++◌, take, Bool, true, false, ◌&&◌, not, length, get_or, map, refl, sym, ◌∙◌, ap, subst, arith, ltb}
use Rattle.std.specs.Prelude.{◌↔◌, IsTrue, ◌==◌}
use Rattle.std.specs.List.{AllWithin, Contains}
use Rattle.std.specs.List.Sorted.{IsNonDecreasingBy, IsPartitionedBy, IsPermutation}
use Rattle.std.proofs.lemmas.Bool.{cases_Bool, cases_lt, both_ways, eq-eqb, and_parts, and_from, false_from_ne_true, iff_false}
use Rattle.std.proofs.lemmas.List.{get_or_default, length_push, map_push, take_more, take_all}
use Rattle.std.proofs.lemmas.List.Sorted.{IsPartitionedBy-ltb, Contains-permutation, IsPermutation-sym}
use Rattle.pci_spec.specs.Slot.{Slot, IsSlot, same_slot, slot_number}
use Rattle.pci_spec.specs.System.{System, Function, Space, IsSystem, is_space_on}
use Rattle.pci_spec.proofs.BusRanges.{any_gives, any_from}
use Rattle.pci_spec.proofs.Members.{in_map_from}
use Rattle.pci_spec.proofs.Nesting.{one_function}
use Rattle.pci_spec.proofs.Regions.{slot_number-same}
use Rattle.pci_spec.proofs.SameSlot.{slots_same}
use Rattle.pci_base.specs.Space.{is_on}
use Rattle.pci_function.specs.declared.record.Record.{Record}
use Rattle.pci_tree.specs.Ways.{slots_of}
use Rattle.pci_tree.specs.Outline.{Tree}
use Rattle.pci_tree.specs.Trees.{HasTree}
use Rattle.pci_tree.proofs.Lifting.{Has, record_for, function_for, same_slot_of}
use Rattle.judge_spec.specs.Told.{ToldRange, IsTold}
use Rattle.judge_spec.specs.ToldClaims.{Told, is_asleep, is_enabled_at, is_on_by, is_range_on}
use Rattle.pci_claims.specs.declared.all_claims.Stretch.{Stretch}
use Rattle.pci_claims.specs.AllClaims.{IsStretchOf}
use Rattle.pci_claims.specs.ToldOn.{AreOnIn}
use Rattle.pci_claims.proofs.Linking.{on_record}
use Rattle.pci_claims.proofs.Bridging.{same_of}

-- ---- slots by their numbers

pub parted_slots : (slots : List Slot) (number : ℕ) → IsNonDecreasingBy slot_number slots → IsPartitionedBy (λ s. ltb (slot_number s) number) slots
parted_slots slots number sorted = IsPartitionedBy-ltb slot_number slots number sorted

-- of the first that isn't lower the number tells whether the slot is one of them
pub among_by_number : (slots : List Slot) (slot at : Slot) (k : ℕ) (same : Bool) → IsNonDecreasingBy slot_number slots → AllWithin (λ s. slot_number s < slot_number slot) slots 0 k
    → AllWithin (λ s. slot_number slot ≤ slot_number s) slots k (length slots) → k < length slots → at ≡ get_or slots k at → IsSlot at → IsSlot slot
    → IsTrue same ↔ (slot_number at ≡ slot_number slot) → IsTrue same ↔ Contains slots slot
among_by_number slots slot at k same sorted before after within read is_at is_slot compared = (
  λ is_so. (k, within, get_or_default slots k slot at within ∙ sym read ∙ slot_number-same at slot is_at is_slot (compared.0 is_so)),
  λ has. compared.1 (
      let (j, inside, found) = has in
      let its : slot_number (get_or slots j slot) ≡ slot_number slot = ap slot_number found in
      let here : slot_number at ≡ slot_number (get_or slots k slot) = ap slot_number (read ∙ get_or_default slots k at slot within) in
      let low = after k slot (omega arith) within in
      elim (cases_lt j k) [
        | inl less ↦ absurd (let below = before j slot (omega arith) less in let no : ⊥ = omega (arith, below, its) in no)
        | inr from ↦ (let up = sorted k j slot from inside in omega (arith, up, low, its, here))
      ]),
)

-- ---- functions that are asleep

pub slot_itself : (slot : Slot) → same_slot slot slot ≡ true
slot_itself slot = same_of slot slot true (and_from (slot.bus == slot.bus) (slot.device == slot.device && slot.function == slot.function) (eq-eqb slot.bus slot.bus refl)
    (and_from (slot.device == slot.device) (slot.function == slot.function) (eq-eqb slot.device slot.device refl) (eq-eqb slot.function slot.function refl)))

pub asleep_among : (told : Told) (sorted : List Slot) (slot : Slot) (among : Bool) → IsPermutation told.asleep sorted → IsTrue among ↔ Contains sorted slot → is_asleep told slot ≡ among
asleep_among told sorted slot among moved is = elim (cases_Bool among) [
  | inl is_so ↦ any_from (λ other. same_slot other slot) told.asleep slot (Contains-permutation sorted told.asleep slot (IsPermutation-sym told.asleep sorted moved) (is.0 is_so)) (slot_itself slot) ∙ sym is_so
  | inr not_so ↦ false_from_ne_true _ (λ found.
      let (other, has, same) = any_gives (λ other. same_slot other slot) told.asleep found in
      iff_false is not_so (Contains-permutation told.asleep sorted slot moved (subst (Contains told.asleep) (slots_same other slot same) has))) ∙ sym not_so
]

-- ---- Command at a slot

module _ (records : List Record) (s : System) (system : IsSystem s) (has : Has s records) (slot : Slot) (space : Space) where
  abbrev enables : Function → Bool
  enables f = same_slot f.slot slot && is_space_on f space

  pub none_enables : (Contains (slots_of records) slot → ⊥) → is_enabled_at s slot space ≡ false
  none_enables none = false_from_ne_true _ (λ found.
      let (f, listed, both) = any_gives enables s found in
      let same = slots_same f.slot slot (and_parts (same_slot f.slot slot) (is_space_on f space) both).0 in
      let (r, stands) = record_for s records f has listed in
      none (subst (Contains (slots_of records)) (same_slot_of r f stands.same ∙ same) (in_map_from (λ (x : Record). x.slot) records r stands.has)))

  pub its_command : (r : Record) (on : Bool) → Contains records r → r.slot ≡ slot → on ≡ is_on r.command space → is_enabled_at s slot space ≡ on
  its_command r on there at is =
      let (f, listed, same) = function_for s records r has there in
      let on_f : is_space_on f space ≡ on = on_record r f space same ∙ sym is in
      let at_f : f.slot ≡ slot = sym (same_slot_of r f same) ∙ at in
      elim (cases_Bool on) [
        | inl is_so ↦ any_from enables s f listed (and_from (same_slot f.slot slot) (is_space_on f space) (ap (λ x. same_slot x slot) at_f ∙ slot_itself slot) (on_f ∙ is_so)) ∙ sym is_so
        | inr not_so ↦ false_from_ne_true _ (λ found.
            let (g, in_s, both) = any_gives enables s found in
            let parts = and_parts (same_slot g.slot slot) (is_space_on g space) both in
            let one = one_function s system g f in_s listed (ap slot_number (slots_same g.slot slot parts.0 ∙ sym at_f)) in
            both_ways _ (on_f ∙ not_so) (subst (λ (x : Function). is_space_on x space ≡ true) one parts.1)) ∙ sym not_so
      ]

-- ---- told ranges of a bus

first_of : (ranges : List ToldRange) {k : ℕ} → k < length ranges → ToldRange
first_of [] less = absurd (omega (arith, less))
first_of (r ∷ ranges) less = r

lower_bus : (m n : Slot) → IsSlot m → IsSlot n → slot_number m ≤ slot_number n → m.bus ≤ n.bus
lower_bus m n is_m is_n low = elim (cases_lt n.bus m.bus) [
  | inl above ↦ absurd (let no : ⊥ = omega (arith, is_m, is_n, low, above) in no)
  | inr le ↦ le
]

buses_rise : (ranges : List ToldRange) → IsTold ranges → IsNonDecreasingBy (λ r. r.slot.bus) ranges
buses_rise ranges told i j d low within =
    lower_bus (get_or ranges i d).slot (get_or ranges j d).slot (told.each i d (omega (arith, low, within))).line.slot (told.each j d within).line.slot (told.order i j d low within)

pub parted_ranges : (ranges : List ToldRange) (bus : ℕ) → IsTold ranges → IsPartitionedBy (λ r. ltb r.slot.bus bus) ranges
parted_ranges ranges bus told = IsPartitionedBy-ltb (λ (r : ToldRange). r.slot.bus) ranges bus (buses_rise ranges told)

pub stretch_of : (ranges : List ToldRange) (bus next : ℕ) (stretch : Stretch) → next ≡ bus + 1 → stretch.first ≤ length ranges → stretch.end ≤ length ranges
    → AllWithin (λ r. r.slot.bus < bus) ranges 0 stretch.first → AllWithin (λ r. bus ≤ r.slot.bus) ranges stretch.first (length ranges)
    → AllWithin (λ r. r.slot.bus < next) ranges 0 stretch.end → AllWithin (λ r. next ≤ r.slot.bus) ranges stretch.end (length ranges) → IsStretchOf ranges bus stretch
stretch_of ranges bus next stretch e first_within end_within before from before_next from_next = record {
  low = elim (cases_lt stretch.end stretch.first) [
    | inr le ↦ le
    | inl less ↦ absurd (
        let inside : stretch.end < length ranges = omega (arith, less, first_within) in
        let d = first_of ranges inside in
        let low = before stretch.end d (omega arith) less in
        let high = from_next stretch.end d (omega arith) inside in
        let no : ⊥ = omega (arith, low, high, e) in no)
  ];
  high = end_within;
  before = before;
  at = λ k d low less. (
      let above = from k d low (omega (arith, less, end_within)) in
      let below = before_next k d (omega arith) less in
      omega (arith, above, below, e));
  after = λ k d low less. (let above = from_next k d low less in omega (arith, above, e));
}

-- ---- ranges that are on, one by one

pub on_by : (told : Told) (s : System) (r : ToldRange) (asleep enabled : Bool) → is_asleep told r.slot ≡ asleep → is_enabled_at s r.slot r.space ≡ enabled
    → is_on_by r.mark (not asleep) enabled ≡ is_range_on told s r
on_by told s r asleep enabled one other =
    ap (λ b. is_on_by r.mark (not b) enabled) (sym one) ∙ ap (λ b. is_on_by r.mark (not (is_asleep told r.slot)) b) (sym other)

pub record AreOnBelow (told : Told) (t : Tree) (k : ℕ) (on : List Bool) : Type 0 where
  pub size : length on ≡ k
  pub each : (s : System) → HasTree t s → on ≡ map (is_range_on told s) (take k told.ranges)

pub none_on : (told : Told) (t : Tree) (on : List Bool) → on ≡ [] → AreOnBelow told t 0 on
none_on told t on empty = record { size = ap length empty; each = λ s tree. empty }

pub one_on_more : (told : Told) (t : Tree) (k : ℕ) (on : List Bool) (r : ToldRange) (flag : Bool) (after : List Bool) → k < length told.ranges → r ≡ get_or told.ranges k r
    → ((s : System) → HasTree t s → flag ≡ is_range_on told s r) → after ≡ on ++ flag ∷ [] → AreOnBelow told t k on → AreOnBelow told t (k + 1) after
one_on_more told t k on r flag after within at is pushed below = record {
  size = ap length pushed ∙ length_push on flag ∙ (let size = below.size in omega (arith, size));
  each = λ s tree.
      pushed ∙ ap (λ (l : List Bool). l ++ flag ∷ []) (below.each s tree) ∙ ap (λ b. map (is_range_on told s) (take k told.ranges) ++ b ∷ []) (is s tree ∙ ap (is_range_on told s) at)
      ∙ sym (map_push (is_range_on told s) (take k told.ranges) (get_or told.ranges k r))
      ∙ ap (map (is_range_on told s)) (sym (take_more told.ranges k r within));
}

pub all_on : (told : Told) (t : Tree) (k : ℕ) (on : List Bool) → k ≡ length told.ranges → AreOnBelow told t k on → AreOnIn told t on
all_on told t k on all below = record {
  size = below.size ∙ all;
  each = λ s tree. below.each s tree ∙ ap (map (is_range_on told s)) (take_all k told.ranges (omega (arith, all)));
}
