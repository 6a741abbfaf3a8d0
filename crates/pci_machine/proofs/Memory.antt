-- A machine in memory under writes.
use Rattle.std.proofs.Common.{◌≡◌, ℕ, zero, suc, ◌+◌, ◌-◌, ◌<◌, nat_lt, Bool, true, false, List, map, length, Some, inl, inr, arith, sym, ◌∙◌, ap, refl, subst, get_or, slice_index, lit<}
use Rattle.std.specs.List.Sorted.{IsStrictlyIncreasing, IsPartitionedBy, IsPartitionPoint}
use Rattle.std.proofs.lemmas.Bool.{cases_order, cases_lt, ltb-true, ltb-false, lt-ltb, cond-true, cond-false}
use Rattle.std.proofs.lemmas.List.{get_or-map, length-map, map-set, set-get_or}
use Rattle.std.specs.List.{All, slice_get, slice_set}
use Rattle.std.proofs.lemmas.List.Elements.{All-set}
use Rattle.std.proofs.lemmas.Option.{get_or_from_slice_get, slice_get_within, slice_get-get_or}
use Rattle.pci_spec.specs.Slot.{Slot, same_slot, slot_number, IsRising}
use Rattle.pci_spec.specs.Number.{byte_at}
use Rattle.pci_spec.specs.Machine.{Target, write_targets, written}
use Rattle.pci_spec.specs.Port.{IsLawful, IsTarget, target_at, has_function}
use Rattle.pci_machine.specs.Memory.{IsMachine, pinned, pin_target, pin_targets}
use Rattle.pci_machine.proofs.Targets.{none_at, target_at-slot, write-with_image, set-with_image, set-map, same_slot-same}
use Rattle.pci_machine.proofs.Bytes.{IsImage-written, IsTarget-with_layout, written_byte-kept, header_unclear, IsTarget-pinned, header-pinned}
use Rattle.pci_machine.proofs.Writes.{byte_at-written}

-- what is read at an index is what stands there
pub at_index : (targets : List Target) (k : ℕ) (t r : Target) → slice_get targets k ≡ Some t → r ≡ get_or targets k r → r ≡ t
at_index targets k t r at is = is ∙ get_or_from_slice_get targets k t r at

-- what holds of each function holds of the one at an index
each_at : {X : Type 0} (P : X → Type 0) (xs : List X) (k : ℕ) (x : X) → All P xs → slice_get xs k ≡ Some x → P x
each_at P xs k x all at = subst P (get_or_from_slice_get xs k x x at) (all k x (slice_get_within xs k x at))

-- a function stays lawful under a write
pub IsTarget-written : (t : Target) (offset width value : ℕ) → IsTarget t → byte_at t.writable 0x0e ≡ 0 → IsTarget (record t { image = written t offset width value })
IsTarget-written t offset width value target header =
    IsTarget-with_layout t (written t offset width value) target (IsImage-written t offset width value target.image)
    (byte_at-written t offset width value 0x0e (lit< tt) ∙ written_byte-kept t offset width value 0x0e target.image header (header_unclear t target))

-- in a list of numbers of which each is below the next, each is below every later one
later : (xs : List ℕ) → IsStrictlyIncreasing xs → (i gap : ℕ) → i + suc gap < length xs → slice_index xs i < slice_index xs (i + suc gap)
later xs up i zero below =
    let e : i + suc zero ≡ i + 1 = omega arith in
    subst (λ j. slice_index xs i < slice_index xs j) (sym e) (up i (omega arith))
later xs up i (suc gap) below =
    let before = later xs up i gap (omega arith) in
    let step = up (i + suc gap) (omega arith) in
    let e : i + suc gap + 1 ≡ i + suc (suc gap) = omega arith in
    subst (λ j. slice_index xs i < slice_index xs j) e (omega (arith, before, step))

-- the number of the slot at an index
number_at_index : (targets : List Target) (k : ℕ) (t : Target) → slice_get targets k ≡ Some t → slice_index (map slot_number (map (λ u. u.slot) targets)) k ≡ slot_number t.slot
number_at_index targets k t at =
    let within = slice_get_within targets k t at in
    let inside : k < length (map (λ (u : Target). u.slot) targets) = omega (arith, length-map targets (λ u. u.slot)) in
    get_or-map slot_number (map (λ (u : Target). u.slot) targets) k t.slot 0 inside
    ∙ ap slot_number (get_or-map (λ (u : Target). u.slot) targets k t t.slot within ∙ ap (λ (u : Target). u.slot) (get_or_from_slice_get targets k t t at))

-- the number of a later slot is above
pub later_number : (targets : List Target) → IsRising (map (λ t. t.slot) targets) → (i k : ℕ) (t u : Target) → slice_get targets i ≡ Some t → slice_get targets k ≡ Some u
    → i < k → slot_number t.slot < slot_number u.slot
later_number targets rising i k t u at_i at_k below =
    let within = slice_get_within targets k u at_k in
    let split : i + suc (k - i - 1) ≡ k = omega arith in
    let full : length (map slot_number (map (λ (v : Target). v.slot) targets)) ≡ length targets =
    length-map (map (λ (v : Target). v.slot) targets) slot_number ∙ length-map targets (λ v. v.slot) in
    let above = later (map slot_number (map (λ (v : Target). v.slot) targets)) rising i (k - i - 1) (omega (arith, full, split)) in
    let first = number_at_index targets i t at_i in
    let second = ap (slice_index (map slot_number (map (λ (v : Target). v.slot) targets))) split ∙ number_at_index targets k u at_k in
    omega (arith, above, first, second)

-- rising slots are distinct
pub lawful_from_rising : (targets : List Target) → IsMachine targets → IsLawful targets
lawful_from_rising targets machine = record {
  each = machine.each;
  one = λ i k t u at_i at_k same. elim (cases_order i k) [
    | inl here ↦ here
    | inr apart ↦ elim apart [
      | inl below ↦ absurd (let above = later_number targets machine.rising i k t u at_i at_k below in let e = ap slot_number same in let no : ⊥ = omega (arith, above, e) in no)
      | inr over ↦ absurd (let above = later_number targets machine.rising k i u t at_k at_i over in let e = ap slot_number same in let no : ⊥ = omega (arith, above, e) in no)
    ]
  ];
}

-- whether the number of a slot is below another
abbrev is_below : ℕ → Target → Bool
is_below n t = nat_lt (slot_number t.slot) n

-- the slots below a number stand in front
pub below_in_front : (targets : List Target) → IsMachine targets → (n : ℕ) → IsPartitionedBy (λ t. nat_lt (slot_number t.slot) n) targets
below_in_front targets machine n i j d order within test = elim (cases_lt i j) [
  | inl before ↦
      let u = get_or targets j d in
      let t = get_or targets i d in
      let at_u : slice_get targets j ≡ Some u = slice_get-get_or targets j d within in
      let at_t : slice_get targets i ≡ Some t = slice_get-get_or targets i d (omega arith) in
      let less = later_number targets machine.rising i j t u at_t at_u before in
      let small = ltb-true (slot_number u.slot) n test in
      lt-ltb (slot_number t.slot) n (omega (arith, less, small))
  | inr after ↦
      let same : i ≡ j = omega arith in
      ap (λ k. is_below n (get_or targets k d)) same ∙ test
]

-- no function is at a slot if none is at the index that the slot would have
pub not_at_point : (targets : List Target) → IsMachine targets → (slot : Slot) (i : ℕ)
    → IsPartitionPoint (λ t. nat_lt (slot_number t.slot) (slot_number slot) ≡ true) (λ t. nat_lt (slot_number t.slot) (slot_number slot) ≡ false) targets i
    → ((t : Target) → slice_get targets i ≡ Some t → t.slot ≡ slot → ⊥) → has_function targets slot ≡ false
not_at_point targets machine slot i point none = none_at targets slot (λ k t within at is.
    let e = ap slot_number is in
    let here : get_or targets k t ≡ t = get_or_from_slice_get targets k t t at in
    elim (cases_order k i) [
      | inl same ↦ none t (ap (slice_get targets) (sym same) ∙ at) is
      | inr apart ↦ elim apart [
        | inl before ↦
            let small = ltb-true (slot_number t.slot) (slot_number slot) (ap (is_below (slot_number slot)) (sym here) ∙ point.0 k t (omega arith) before) in
            absurd (let no : ⊥ = omega (arith, small, e) in no)
        | inr after ↦
            let u = get_or targets i t in
            let at_u : slice_get targets i ≡ Some u = slice_get-get_or targets i t (omega arith) in
            let large = ltb-false (slot_number u.slot) (slot_number slot) (point.1 i t (omega arith) (omega arith)) in
            let less = later_number targets machine.rising i k u t at_u at after in
            absurd (let no : ⊥ = omega (arith, large, less, e) in no)
      ]
    ])

-- a machine whose function at an index is another one of the same slot
pub IsMachine-set : (targets : List Target) (k : ℕ) (t n : Target) → IsMachine targets → slice_get targets k ≡ Some t → n.slot ≡ t.slot → IsTarget n
    → byte_at n.writable 0x0e ≡ 0 → IsMachine (slice_set targets k n)
IsMachine-set targets k t n machine at same target header = record {
  each = All-set IsTarget targets k n target machine.each;
  rising =
      let within = slice_get_within targets k t at in
      let slots = map (λ (u : Target). u.slot) targets in
      let here : get_or slots k n.slot ≡ n.slot =
      get_or-map (λ (u : Target). u.slot) targets k t n.slot within ∙ ap (λ (u : Target). u.slot) (get_or_from_slice_get targets k t t at) ∙ sym same in
      let e : map (λ (u : Target). u.slot) (slice_set targets k n) ≡ slots =
      map-set (λ (u : Target). u.slot) targets k n ∙ ap (slice_set slots k) (sym here) ∙ set-get_or slots k n.slot in
      subst IsRising (sym e) machine.rising;
  header = All-set (λ u. byte_at u.writable 0x0e ≡ 0) targets k n header machine.header;
}

-- a machine after a write to the function at an index
module _ (targets : List Target) (slot : Slot) (k : ℕ) (t r n : Target) (offset width value : ℕ) (machine : IsMachine targets)
    (at : slice_get targets k ≡ Some t) (found : target_at targets slot ≡ Some t) (is : r ≡ get_or targets k r)
    (new : n ≡ record r { image = written r offset width value }) where
  -- what stands at the index is the function there, written
  same : n ≡ record t { image = written t offset width value }
  same = new ∙ ap (λ (u : Target). let v : Target = record u { image = written u offset width value } in v) (at_index targets k t r at is)

  -- the functions are those after the write
  pub machine-written : slice_set targets k n ≡ write_targets targets record { slot = slot; offset = offset; width = width; value = value }
  machine-written =
      let lawful = lawful_from_rising targets machine in
      ap (slice_set targets k) same ∙ set-with_image targets slot k t (written t offset width value) lawful at (target_at-slot targets slot t found)
      ∙ sym (write-with_image targets t record { slot = slot; offset = offset; width = width; value = value } lawful found)

  -- they are still those of a machine
  pub IsMachine-written : IsMachine (slice_set targets k n)
  IsMachine-written =
      let header = each_at (λ u. byte_at u.writable 0x0e ≡ 0) targets k t machine.header at in
      subst (λ u. IsMachine (slice_set targets k u)) (sym same)
      (IsMachine-set targets k t (record t { image = written t offset width value }) machine at refl
      (IsTarget-written t offset width value (each_at IsTarget targets k t machine.each at) header) header)

  -- and of a port
  pub lawful-written : IsLawful (slice_set targets k n)
  lawful-written = lawful_from_rising (slice_set targets k n) IsMachine-written

-- a machine after bits of a byte of the function at an index were pinned
module _ (targets : List Target) (slot : Slot) (k : ℕ) (t r n : Target) (place mask : ℕ) (machine : IsMachine targets)
    (at : slice_get targets k ≡ Some t) (found : target_at targets slot ≡ Some t) (is : r ≡ get_or targets k r)
    (new : n ≡ pinned r place mask) where
  -- what stands at the index is the function there, with the bits pinned
  pinned_here : n ≡ pinned t place mask
  pinned_here = new ∙ ap (λ (u : Target). pinned u place mask) (at_index targets k t r at is)

  -- the functions are those with the bits pinned
  pub machine-pinned : slice_set targets k n ≡ pin_targets targets slot place mask
  machine-pinned =
      let slot_is = target_at-slot targets slot t found in
      let test : same_slot t.slot slot ≡ true = ap (λ s. same_slot s slot) slot_is ∙ same_slot-same slot in
      ap (slice_set targets k) (pinned_here ∙ sym (cond-true (same_slot t.slot slot) (pinned t place mask) t test))
      ∙ set-map (pin_target slot place mask) targets slot k t (lawful_from_rising targets machine) at slot_is
      (λ u miss. cond-false (same_slot u.slot slot) (pinned u place mask) u miss)

  -- they are still those of a machine
  pub IsMachine-pinned : IsMachine (slice_set targets k n)
  IsMachine-pinned =
      let header = each_at (λ u. byte_at u.writable 0x0e ≡ 0) targets k t machine.header at in
      let target = each_at IsTarget targets k t machine.each at in
      subst (λ u. IsMachine (slice_set targets k u)) (sym pinned_here)
      (IsMachine-set targets k t (pinned t place mask) machine at refl (IsTarget-pinned t place mask target) (header-pinned t place mask target.writable header))
