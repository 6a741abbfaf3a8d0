-- Writes to a device, and the same writes to it without some of its registers: none of them is one of these.
use Rattle.std.proofs.Common.{◌≡◌, ◌⊎◌, ℕ, ◌+◌, ◌<◌, ◌≤◌, List, [], ◌∷◌, Bool, true, false, inl, inr, refl, sym, ◌∙◌, ap, subst, arith}
use Rattle.std.specs.Int.{bit_at}
use Rattle.std.specs.List.{Contains}
use Rattle.std.proofs.lemmas.Bool.{both_ways, cases_Bool, cases_lt, cases_eq, false_from_ne_true}
use Rattle.std.proofs.lemmas.List.{ext_get_or}
use Rattle.std.proofs.lemmas.Nat.Bits.{same_from_bits_below}
use Rattle.pci_spec.specs.Number.{byte_at, has_bit, IsImage}
use Rattle.pci_spec.specs.Header.{registers_by}
use Rattle.pci_spec.specs.Slot.{same_slot}
use Rattle.pci_spec.specs.System.{Function, is_bridge}
use Rattle.pci_spec.specs.Machine.{Write, address_fields, clearing_by, in_fields, target_of, writable_bits, writable_by, write_function, written}
use Rattle.pci_spec.proofs.Members.{in_head, in_tail}
use Rattle.pci_spec.proofs.WritableBits.{has_bit-clearing_bits, has_bit-writable_bits}
use Rattle.pci_spec.proofs.WrittenBits.{write_keeps_other_bits, write_sets_writable_bits}
use Rattle.plan_spec.specs.Plan.{IsMoved}
use Rattle.plan_spec.specs.Planning.Fitting.{IsFitting}
use Rattle.plan_spec.proofs.Planning.Fit.{fitting_later, fitting_moves, moved_itself, moved_trans}
use Rattle.plan_spec.proofs.Planning.Moved.{bridge_same}
use Rattle.plan_spec.proofs.Planning.Settled.{function_after}
use Rattle.plan_spec.proofs.Planning.Writes.{byte_outside, write_elsewhere, write_here}
use Rattle.settle_answer_laws.proofs.DeviceWrites.{IsDeviceWrite}

-- A device h shows what b shows but for some bytes. In these it has no address bits, register by register.
pub record IsStripped (out : ℕ → Bool) (b h : Function) : Type 0 where
  pub slot : h.slot ≡ b.slot
  pub image : IsImage h.image
  pub before : is_bridge b ≡ false
  pub after : is_bridge h ≡ false
  pub same : (place : ℕ) → place < 256 → out place ≡ false → byte_at h.image place ≡ byte_at b.image place
  pub fields : (place i : ℕ) → out place ≡ false → in_fields (address_fields h.image h.probe) place i ≡ in_fields (address_fields b.image b.probe) place i
  pub writable : (place i : ℕ) → out place ≡ false → in_fields (writable_by false h.probe) place i ≡ in_fields (writable_by false b.probe) place i
  pub command : (out 4 ≡ false) × (out 5 ≡ false)
  pub registers : (r : ℕ × ℕ) → Contains (registers_by false) r → (at : ℕ) → r.0 ≤ at → at < r.0 + r.1 → out at ≡ true
      → (place i : ℕ) → r.0 ≤ place → place < r.0 + r.1 → i < 8 → in_fields (address_fields h.image h.probe) place i ≡ false

module _ (out : ℕ → Bool) (b h : Function) (is : IsImage b.image) (stripped : IsStripped out b h) where
  -- a write of settling to h is of none of these bytes
  avoids : (u : Write) → IsDeviceWrite h u → (place : ℕ) → u.offset ≤ place → place < u.offset + u.width → out place ≡ false
  avoids u (inl (offset, width)) place from to = elim (cases_eq place 4) [
    | inl low ↦ ap out low ∙ stripped.command.0
    | inr other ↦ (let high : place ≡ 5 = omega (arith, offset, width, from, to, other) in ap out high ∙ stripped.command.1)
  ]
  avoids u (inr of) place from to = false_from_ne_true (out place) (λ is_out.
      let offset = of.offset in
      let width = of.width in
      of.address (stripped.registers of.r of.listed place (omega (arith, offset, from)) (omega (arith, offset, width, to)) is_out))

  -- so it fits b as it fits h
  pub fits_before : (u : Write) → IsDeviceWrite h u → IsFitting u h → IsFitting u b
  fits_before u one fits = record {
    inside = fits.inside;
    same = λ place i from to small plain other.
        let beside = avoids u one place from to in
        let end = fits.inside in
        fits.same place i from to small (stripped.fields place i beside ∙ plain) other ∙ ap (λ n. bit_at n i) (stripped.same place (omega (arith, end, to)) beside);
    clears = λ place i from to small.
        let end = fits.inside in
        let inside : place < 256 = omega (arith, end, to) in
        has_bit-clearing_bits b.image place i inside small
        ∙ ap (λ bridge. in_fields (clearing_by bridge) place i) (stripped.before ∙ sym stripped.after)
        ∙ sym (has_bit-clearing_bits h.image place i inside small)
        ∙ fits.clears place i from to small;
  }

  -- a state of both
  pub record AreBoth (g k : Function) : Type 0 where
    pub b_moved : IsMoved b g
    pub h_moved : IsMoved h k
    pub beside : (place : ℕ) → place < 256 → out place ≡ false → byte_at k.image place ≡ byte_at g.image place
    pub b_kept : (place : ℕ) → place < 256 → out place ≡ true → byte_at g.image place ≡ byte_at b.image place
    pub h_kept : (place : ℕ) → place < 256 → out place ≡ true → byte_at k.image place ≡ byte_at h.image place

  module _ (g k : Function) (state : AreBoth g k) (u : Write) (one : IsDeviceWrite h u) (fits : IsFitting u h) where
    abbrev g_next : Function
    g_next = record g { image = written (target_of g) u.offset u.width u.value }

    abbrev k_next : Function
    k_next = record k { image = written (target_of k) u.offset u.width u.value }

    g_fits : IsFitting u g
    g_fits = fitting_later u b g is state.b_moved (fits_before u one fits)

    k_fits : IsFitting u k
    k_fits = fitting_later u h k stripped.image state.h_moved fits

    g_m : IsMoved g g_next
    g_m = fitting_moves u g state.b_moved.image g_fits

    k_m : IsMoved k k_next
    k_m = fitting_moves u k state.h_moved.image k_fits

    may : Function → ℕ → ℕ → Bool
    may f place i = has_bit (byte_at (writable_bits f.image f.probe) place) i

    may_by : (f x : Function) → IsImage f.image → IsMoved f x → is_bridge f ≡ false → (place i : ℕ) → place < 256 → i < 8 → has_bit (byte_at (writable_bits x.image x.probe) place) i ≡ in_fields (writable_by false f.probe) place i
    may_by f x image m device place i inside small =
        let kind : is_bridge x ≡ false = bridge_same f x m image ∙ device in
        has_bit-writable_bits x.image x.probe place i inside small
        ∙ (λ j. in_fields (writable_by (kind j) (m.probe j)) place i)

    may_same : (place i : ℕ) → place < 256 → i < 8 → out place ≡ false → has_bit (byte_at (writable_bits k.image k.probe) place) i ≡ has_bit (byte_at (writable_bits g.image g.probe) place) i
    may_same place i inside small beside =
        may_by h k stripped.image state.h_moved stripped.after place i inside small
        ∙ stripped.writable place i beside
        ∙ sym (may_by b g is state.b_moved stripped.before place i inside small)

    bit_beside : (place i : ℕ) → place < 256 → i < 8 → out place ≡ false → u.offset ≤ place → place < u.offset + u.width → bit_at (byte_at k_next.image place) i ≡ bit_at (byte_at g_next.image place) i
    bit_beside place i inside small beside from to = elim (cases_Bool (has_bit (byte_at (writable_bits g.image g.probe) place) i)) [
      | inl sets ↦
          write_sets_writable_bits (target_of k) u.offset u.width u.value place i inside small from to (may_same place i inside small beside ∙ sets)
          ∙ sym (write_sets_writable_bits (target_of g) u.offset u.width u.value place i inside small from to sets)
      | inr keeps ↦
          write_keeps_other_bits (target_of k) u.offset u.width u.value place i inside small (may_same place i inside small beside ∙ keeps) (k_fits.clears place i from to small)
          ∙ ap (λ n. bit_at n i) (state.beside place inside beside)
          ∙ sym (write_keeps_other_bits (target_of g) u.offset u.width u.value place i inside small keeps (g_fits.clears place i from to small))
    ]

    -- a byte that isn't written
    apart : (place : ℕ) → place < 256 → out place ≡ true → (place < u.offset) ⊎ (u.offset + u.width ≤ place)
    apart place inside is_out = elim (cases_lt place u.offset) [
      | inl low ↦ inl low
      | inr from ↦ elim (cases_lt place (u.offset + u.width)) [
        | inr high ↦ inr high
        | inl to ↦ absurd (both_ways (out place) (avoids u one place from to) is_out)
      ]
    ]

    next : AreBoth g_next k_next
    next = record {
      b_moved = moved_trans b g g_next is state.b_moved g_m;
      h_moved = moved_trans h k k_next stripped.image state.h_moved k_m;
      beside = λ place inside beside. elim (cases_lt place u.offset) [
        | inl low ↦ outside place inside beside (inl low)
        | inr from ↦ elim (cases_lt place (u.offset + u.width)) [
          | inr high ↦ outside place inside beside (inr high)
          | inl to ↦ same_from_bits_below 8 (byte_at k_next.image place) (byte_at g_next.image place) (k_m.image.bytes place) (g_m.image.bytes place) (λ i small. bit_beside place i inside small beside from to)
        ]
      ];
      b_kept = λ place inside is_out. byte_outside (target_of g) u.offset u.width u.value place inside (apart place inside is_out) ∙ state.b_kept place inside is_out;
      h_kept = λ place inside is_out. byte_outside (target_of k) u.offset u.width u.value place inside (apart place inside is_out) ∙ state.h_kept place inside is_out;
    }
      where
        outside : (place : ℕ) → place < 256 → out place ≡ false → (place < u.offset) ⊎ (u.offset + u.width ≤ place) → byte_at k_next.image place ≡ byte_at g_next.image place
        outside place inside beside by =
            byte_outside (target_of k) u.offset u.width u.value place inside by
            ∙ state.beside place inside beside
            ∙ sym (byte_outside (target_of g) u.offset u.width u.value place inside by)

  step : (g k : Function) → AreBoth g k → (u : Write) → (same_slot h.slot u.slot ≡ true → IsDeviceWrite h u × IsFitting u h) → AreBoth (write_function u g) (write_function u k)
  step g k state u fits = elim (cases_Bool (same_slot h.slot u.slot)) [
    | inr other ↦
        subst (λ x. AreBoth x (write_function u k)) (sym (write_elsewhere u g (g_slot ∙ other)))
        (subst (λ x. AreBoth g x) (sym (write_elsewhere u k (k_slot ∙ other))) state)
    | inl here ↦
        subst (λ x. AreBoth x (write_function u k)) (sym (write_here u g (g_slot ∙ here)))
        (subst (λ x. AreBoth (record g { image = written (target_of g) u.offset u.width u.value }) x) (sym (write_here u k (k_slot ∙ here)))
        (next g k state u (fits here).0 (fits here).1))
  ]
    where
      k_slot : same_slot k.slot u.slot ≡ same_slot h.slot u.slot
      k_slot = ap (λ x. same_slot x u.slot) state.h_moved.slot

      g_slot : same_slot g.slot u.slot ≡ same_slot h.slot u.slot
      g_slot = ap (λ x. same_slot x u.slot) (state.b_moved.slot ∙ sym stripped.slot)

  each_after : (g k : Function) → AreBoth g k → (writes : List Write) → ((u : Write) → Contains writes u → same_slot h.slot u.slot ≡ true → IsDeviceWrite h u × IsFitting u h) → AreBoth (function_after g writes) (function_after k writes)
  each_after g k state [] fits = state
  each_after g k state (u ∷ writes) fits =
      each_after (write_function u g) (write_function u k) (step g k state u (fits u (in_head u writes))) writes (λ v has. fits v (in_tail u writes v has))

  pub both_after : (writes : List Write) → ((u : Write) → Contains writes u → same_slot h.slot u.slot ≡ true → IsDeviceWrite h u × IsFitting u h) → AreBoth (function_after b writes) (function_after h writes)
  both_after writes fits = each_after b h record {
    b_moved = moved_itself b is;
    h_moved = moved_itself h stripped.image;
    beside = stripped.same;
    b_kept = λ place inside is_out. refl;
    h_kept = λ place inside is_out. refl;
  } writes fits

  -- what is stripped later in the same way is what was written
  pub one_stripped : (g k l : Function) → AreBoth g k → l.slot ≡ g.slot → l.probe ≡ h.probe → IsImage l.image
      → ((place : ℕ) → place < 256 → out place ≡ false → byte_at l.image place ≡ byte_at g.image place)
      → ((place : ℕ) → place < 256 → out place ≡ true → byte_at l.image place ≡ byte_at h.image place) → k ≡ l
  one_stripped g k l state slot probe image beside kept =
      let at : k.slot ≡ l.slot = state.h_moved.slot ∙ stripped.slot ∙ sym state.b_moved.slot ∙ sym slot in
      let reads : k.probe ≡ l.probe = state.h_moved.probe ∙ sym probe in
      let shows : k.image ≡ l.image = ext_get_or 0 k.image l.image (state.h_moved.image.full ∙ sym image.full) (λ place less.
      let full = state.h_moved.image.full in
      let inside : place < 256 = omega (arith, full, less) in
      elim (cases_Bool (out place)) [
        | inl is_out ↦ state.h_kept place inside is_out ∙ sym (kept place inside is_out)
        | inr other ↦ state.beside place inside other ∙ sym (beside place inside other)
      ]) in
      λ j. record { slot = at j; image = shows j; probe = reads j }
