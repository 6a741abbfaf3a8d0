-- A write to what words take, and the same write to the function of a dump with Command as the dump has it.
use Rattle.std.specs.Prelude.{◌⊎◌}
use Rattle.std.proofs.Common.{◌≡◌, ℕ, zero, suc, ◌+◌, ◌-◌, ◌*◌, ◌/◌, ◌%◌, ◌^◌, ◌<◌, ◌≤◌, List, [], ◌∷◌, Bool, true, false, ◌&&◌, inl, inr, refl, sym, ◌∙◌, ap, subst, arith, map}
use Rattle.std.specs.Bool.{IsFalse, nat_lt, ◌==◌, if◌then◌else◌}
use Rattle.std.specs.Int.{bit_at}
use Rattle.std.specs.List.{Contains}
use Rattle.std.proofs.lemmas.Bool.{and_parts, both_ways, cases_Bool, cases_eq, cases_lt, cond_both, eqb-true, eq-eqb, ltb-true, lt-ltb}
use Rattle.std.proofs.lemmas.Nat.{shr-shr}
use Rattle.pci_spec.specs.Number.{byte_at, has_bit, IsImage}
use Rattle.pci_spec.specs.Header.{layout, command}
use Rattle.pci_spec.specs.Registers.{COMMAND}
use Rattle.pci_spec.specs.Slot.{same_slot}
use Rattle.pci_spec.specs.System.{Function}
use Rattle.pci_spec.specs.Machine.{Write, in_fields, address_fields, writable_by, clearing_by, clearing_bits, target_of, write_function, written}
use Rattle.pci_spec.proofs.Members.{in_head, in_tail}
use Rattle.pci_spec.proofs.WritableBits.{has_bit-writable_bits, has_bit-clearing_bits}
use Rattle.pci_spec.proofs.WrittenBits.{write_sets_writable_bits, write_keeps_other_bits}
use Rattle.plan_spec.specs.Plan.{IsMoved}
use Rattle.plan_spec.specs.Planning.Fitting.{IsFitting}
use Rattle.plan_spec.proofs.Planning.Fit.{fitting_later, fitting_moves, moved_trans, written_image}
use Rattle.plan_spec.proofs.Planning.Moved.{layout_same, no_early_field}
use Rattle.plan_spec.proofs.Planning.Profile.{class_same}
use Rattle.plan_spec.proofs.Planning.Registers.{datum_bit_at, register_bit}
use Rattle.plan_spec.proofs.Planning.Settled.{function_after}
use Rattle.plan_spec.proofs.Planning.Writes.{byte_outside, write_elsewhere, write_here}
use Rattle.settle_answer_laws.proofs.Along.{IsAs, may_set, may_set_same, fields_same, clears_same}

-- ---- Command with the enables of a datum

abbrev pub put_enables : ℕ → ℕ → ℕ
put_enables c value = c / 4 * 4 + value % 4

low_bit : (c value i : ℕ) → i < 2 → bit_at (put_enables c value) i ≡ bit_at value i
low_bit c value zero small = omega arith
low_bit c value (suc zero) small = omega arith
low_bit c value (suc (suc i)) small = absurd (let no : ⊥ = omega (arith, small) in no)

pub high_bit : (c value k : ℕ) → 2 ≤ k → bit_at (put_enables c value) k ≡ bit_at c k
high_bit c value k from =
    let at : 2 + (k - 2) ≡ k = omega (arith, from) in
    let quotient : put_enables c value / 4 ≡ c / 4 = omega arith in
    ap (λ n. put_enables c value / 2 ^ n % 2) (sym at)
    ∙ ap (λ n. n % 2) (sym (shr-shr (put_enables c value) 2 (k - 2)))
    ∙ ap (λ n. n / 2 ^ (k - 2) % 2) quotient
    ∙ ap (λ n. n % 2) (shr-shr c 2 (k - 2))
    ∙ ap (λ n. c / 2 ^ n % 2) at

-- the write, where Command is c
abbrev pub put_write : ℕ → Write → Write
put_write c u = if u.offset == COMMAND then record u { value = put_enables c u.value } else u

-- it writes the same bytes of the same function
offset_is : (u : Write) (c : ℕ) → (put_write c u).offset ≡ u.offset
offset_is u c = cond_both (u.offset == COMMAND) (record u { value = put_enables c u.value }) u (λ x. x.offset ≡ u.offset) (λ on. refl) (λ off. refl)

width_is : (u : Write) (c : ℕ) → (put_write c u).width ≡ u.width
width_is u c = cond_both (u.offset == COMMAND) (record u { value = put_enables c u.value }) u (λ x. x.width ≡ u.width) (λ on. refl) (λ off. refl)

pub slot_is : (u : Write) (c : ℕ) → (put_write c u).slot ≡ u.slot
slot_is u c = cond_both (u.offset == COMMAND) (record u { value = put_enables c u.value }) u (λ x. x.slot ≡ u.slot) (λ on. refl) (λ off. refl)

-- Command is c, but for its enables
abbrev pub IsCommandOf : ℕ → Function → Type 0
IsCommandOf c f = (j i : ℕ) → j < 2 → i < 8 → IsFalse (COMMAND + j == COMMAND && nat_lt i 2) → bit_at c (8 * j + i) ≡ bit_at (byte_at f.image (COMMAND + j)) i

-- ---- one write

no_bit_at_6 : (bridge : Bool) (probe : List ℕ) (i : ℕ) → in_fields (writable_by bridge probe) 6 i ≡ false
no_bit_at_6 true probe i = refl
no_bit_at_6 false probe i = refl

a_bit_at_7 : (bridge : Bool) → in_fields (clearing_by bridge) 7 0 ≡ true
a_bit_at_7 true = refl
a_bit_at_7 false = refl

module _ (f h : Function) (shown : IsAs f h) (is : IsImage f.image) (u : Write) (fits : IsFitting u h) (c : ℕ) (known : IsCommandOf c f) where
  abbrev value : ℕ
  value = (put_write c u).value

  -- a bit of what is written that changes no region and no enable is that of the function
  kept_bit : (place i : ℕ) → u.offset ≤ place → place < u.offset + u.width → i < 8 → may_set f place i ≡ true
      → IsFalse (in_fields (address_fields f.image f.probe) place i) → IsFalse (place == COMMAND && nat_lt i 2)
      → bit_at (u.value / 256 ^ (place - u.offset) % 256) i ≡ bit_at (byte_at f.image place) i
  kept_bit place i from to small may plain other =
      let end = fits.inside in
      fits.same place i from to small (ap (λ fields. in_fields fields place i) (fields_same f h shown.kind shown.probe) ∙ plain) other
      ∙ shown.same place i (omega (arith, end, to)) small may

  -- no byte behind Command is written with it, unless none of its bits may be set
  module _ (at_command : u.offset ≡ 4) where
    short : u.width ≤ 3
    short = elim (cases_lt 3 u.width) [
      | inr few ↦ few
      | inl more ↦
          absurd (both_ways (has_bit (byte_at (clearing_bits h.image) 7) 0) (fits.clears 7 0 (omega (arith, at_command)) (omega (arith, at_command, more)) (omega arith))
          (has_bit-clearing_bits h.image 7 0 (omega arith) (omega arith) ∙ a_bit_at_7 (layout h.image == 1)))
    ]

    in_command : (place i : ℕ) → u.offset ≤ place → place < u.offset + u.width → i < 8 → may_set f place i ≡ true → place < 6
    in_command place i from to small may = elim (cases_lt place 6) [
      | inl less ↦ less
      | inr past ↦
          let few = short in
          let six : place ≡ 6 = omega (arith, at_command, to, past, few) in
          absurd (both_ways (may_set f 6 i) (has_bit-writable_bits f.image f.probe 6 i (omega arith) small ∙ no_bit_at_6 (layout f.image == 1) f.probe i)
          (ap (λ p. may_set f p i) (sym six) ∙ may))
    ]

    command_bit : (place i : ℕ) → u.offset ≤ place → place < u.offset + u.width → i < 8 → may_set f place i ≡ true
        → bit_at (put_enables c u.value / 256 ^ (place - u.offset) % 256) i ≡ bit_at (u.value / 256 ^ (place - u.offset) % 256) i
    command_bit place i from to small may =
        let below = in_command place i from to small may in
        let j = place - u.offset in
        let at : 4 + j ≡ place = omega (arith, at_command, from) in
        let few : j < 2 = omega (arith, at_command, from, below) in
        datum_bit_at (put_enables c u.value) j i small ∙ elim (cases_Bool (place == 4 && nat_lt i 2)) [
          | inl enables ↦
              let parts = and_parts (place == 4) (nat_lt i 2) enables in
              let four = eqb-true place 4 parts.0 in
              let low = ltb-true i 2 parts.1 in
              let zero_is : 8 * j + i ≡ i = omega (arith, at_command, four) in
              ap (λ n. bit_at (put_enables c u.value) n) zero_is ∙ low_bit c u.value i low ∙ ap (λ n. bit_at u.value n) (sym zero_is) ∙ sym (datum_bit_at u.value j i small)
          | inr other ↦
              let above : 2 ≤ 8 * j + i = elim (cases_lt i 2) [
                | inr more ↦ omega (arith, more)
                | inl less ↦ elim (cases_eq place 4) [
                  | inl four ↦ absurd (both_ways (place == 4 && nat_lt i 2) other (λ t. eq-eqb place 4 four t && lt-ltb i 2 less t))
                  | inr away ↦ (let later : 4 < place = omega (arith, at_command, from, away) in omega (arith, later, at))
                ]
              ] in
              let other_at : IsFalse (4 + j == 4 && nat_lt i 2) = ap (λ p. p == 4 && nat_lt i 2) at ∙ other in
              high_bit c u.value (8 * j + i) above
              ∙ known j i few small other_at
              ∙ ap (λ p. bit_at (byte_at f.image p) i) at
              ∙ sym (kept_bit place i from to small may (no_early_field f.image f.probe place i (omega (arith, below))) other)
        ]

  -- both data have the same bits that may be set
  datum_same : (place i : ℕ) → u.offset ≤ place → place < u.offset + u.width → i < 8 → may_set f place i ≡ true
      → bit_at (value / 256 ^ (place - u.offset) % 256) i ≡ bit_at (u.value / 256 ^ (place - u.offset) % 256) i
  datum_same place i from to small may = cond_both (u.offset == COMMAND) (record u { value = put_enables c u.value }) u
      (λ x. bit_at (x.value / 256 ^ (place - u.offset) % 256) i ≡ bit_at (u.value / 256 ^ (place - u.offset) % 256) i)
      (λ on. command_bit (eqb-true u.offset 4 on) place i from to small may) (λ off. refl)

  abbrev g : Function
  g = record f { image = written (target_of f) u.offset u.width value }

  abbrev k : Function
  k = record h { image = written (target_of h) u.offset u.width u.value }

  no_clear : (place i : ℕ) → u.offset ≤ place → place < u.offset + u.width → i < 8 → has_bit (byte_at (clearing_bits f.image) place) i ≡ false
  no_clear place i from to small = ap (λ b. has_bit (byte_at b place) i) (sym (clears_same f h shown.kind shown.probe)) ∙ fits.clears place i from to small

  g_moved : IsMoved f g
  g_moved = record {
    slot = refl;
    probe = refl;
    image = written_image (target_of f) u.offset u.width value is;
    same = λ place i inside small plain other. elim (cases_lt place u.offset) [
      | inl before ↦ ap (λ n. bit_at n i) (byte_outside (target_of f) u.offset u.width value place inside (inl before))
      | inr from ↦ elim (cases_lt place (u.offset + u.width)) [
        | inr after ↦ ap (λ n. bit_at n i) (byte_outside (target_of f) u.offset u.width value place inside (inr after))
        | inl to ↦ elim (cases_Bool (may_set f place i)) [
          | inl may ↦
              write_sets_writable_bits (target_of f) u.offset u.width value place i inside small from to may
              ∙ sym (datum_bit_at value (place - u.offset) i small)
              ∙ datum_same place i from to small may
              ∙ kept_bit place i from to small may plain other
          | inr fixed ↦ write_keeps_other_bits (target_of f) u.offset u.width value place i inside small fixed (no_clear place i from to small)
        ]
      ]
    ];
  }

  k_moved : IsMoved h k
  k_moved = fitting_moves u h shown.image fits

  shows : (place i : ℕ) → place < 256 → i < 8 → may_set f place i ≡ true → bit_at (byte_at k.image place) i ≡ bit_at (byte_at g.image place) i
  shows place i inside small may = elim (cases_lt place u.offset) [
    | inl before ↦ outside (inl before)
    | inr from ↦ elim (cases_lt place (u.offset + u.width)) [
      | inr after ↦ outside (inr after)
      | inl to ↦
          write_sets_writable_bits (target_of h) u.offset u.width u.value place i inside small from to (may_set_same f h shown.kind shown.probe place i inside small ∙ may)
          ∙ sym (datum_bit_at u.value (place - u.offset) i small)
          ∙ sym (datum_same place i from to small may)
          ∙ datum_bit_at value (place - u.offset) i small
          ∙ sym (write_sets_writable_bits (target_of f) u.offset u.width value place i inside small from to may)
    ]
  ]
    where
      outside : (place < u.offset) ⊎ (u.offset + u.width ≤ place) → bit_at (byte_at k.image place) i ≡ bit_at (byte_at g.image place) i
      outside apart =
          ap (λ n. bit_at n i) (byte_outside (target_of h) u.offset u.width u.value place inside apart)
          ∙ shown.same place i inside small may
          ∙ ap (λ n. bit_at n i) (sym (byte_outside (target_of f) u.offset u.width value place inside apart))

  still_as : IsAs g k
  still_as = record {
    slot = shown.slot;
    probe = shown.probe;
    kind = layout_same h k k_moved shown.image ∙ shown.kind ∙ sym (layout_same f g g_moved is);
    class = ap (λ n. n / 256) (class_same h k k_moved shown.image) ∙ shown.class ∙ ap (λ n. n / 256) (sym (class_same f g g_moved is));
    image = k_moved.image;
    same = λ place i inside small may. shows place i inside small (sym (may_set_same f g (layout_same f g g_moved is) refl place i inside small) ∙ may);
  }

-- ---- writes one after another

-- Command of a function is its own
pub own_command : (f : Function) → IsImage f.image → IsCommandOf (command f.image) f
own_command f is j i few small other = register_bit f.image 4 is 2 j i few small

-- and that of what moved from it
command_later : (f g : Function) → IsImage f.image → IsMoved f g → IsCommandOf (command f.image) g
command_later f g is m j i few small other =
    own_command f is j i few small other
    ∙ sym (m.same (4 + j) i (omega (arith, few)) small (no_early_field f.image f.probe (4 + j) i (omega (arith, few))) other)

module _ (f h : Function) (is : IsImage f.image) (first : IsAs f h) where
  -- a state of both
  pub record AreAfter (g k : Function) : Type 0 where
    pub shown : IsAs g k
    pub f_moved : IsMoved f g
    pub h_moved : IsMoved h k

  abbrev listed : Write → Write
  listed u = put_write (command f.image) u

  step : (g k : Function) (u : Write) → AreAfter g k → (same_slot h.slot u.slot ≡ true → IsFitting u h) → AreAfter (write_function (listed u) g) (write_function u k)
  step g k u state fits = elim (cases_Bool (same_slot k.slot u.slot)) [
    | inr other ↦
        subst (λ x. AreAfter x (write_function u k)) (sym (write_elsewhere (listed u) g (slot_same ∙ other)))
        (subst (λ x. AreAfter g x) (sym (write_elsewhere u k other)) state)
    | inl here ↦
        let now : IsFitting u k = fitting_later u h k first.image state.h_moved (fits (ap (λ s. same_slot s u.slot) (sym state.h_moved.slot) ∙ here)) in
        let known = command_later f g is state.f_moved in
        let c = command f.image in
        let as_now = still_as g k state.shown state.f_moved.image u now c known in
        subst (λ x. AreAfter x (write_function u k)) (sym (write_here (listed u) g (slot_same ∙ here) ∙ written_same))
        (subst (λ x. AreAfter (record g { image = written (target_of g) u.offset u.width (listed u).value }) x) (sym (write_here u k here))
        record {
          shown = as_now;
          f_moved = moved_trans f g _ is state.f_moved (g_moved g k state.shown state.f_moved.image u now c known);
          h_moved = moved_trans h k _ first.image state.h_moved (k_moved g k state.shown state.f_moved.image u now c known);
        })
  ]
    where
      slot_same : same_slot g.slot (listed u).slot ≡ same_slot k.slot u.slot
      slot_same = λ i. same_slot (sym state.shown.slot i) (slot_is u (command f.image) i)

      written_same : record g { image = written (target_of g) (listed u).offset (listed u).width (listed u).value } ≡ record g { image = written (target_of g) u.offset u.width (listed u).value }
      written_same = λ i. record g { image = written (target_of g) (offset_is u (command f.image) i) (width_is u (command f.image) i) (listed u).value }

  pub each_step : (g k : Function) (writes : List Write) → AreAfter g k → ((u : Write) → Contains writes u → same_slot h.slot u.slot ≡ true → IsFitting u h)
      → AreAfter (function_after g (map listed writes)) (function_after k writes)
  each_step g k [] state fits = state
  each_step g k (u ∷ writes) state fits =
      each_step (write_function (listed u) g) (write_function u k) writes (step g k u state (fits u (in_head u writes)))
      (λ w has. fits w (in_tail u writes w has))
