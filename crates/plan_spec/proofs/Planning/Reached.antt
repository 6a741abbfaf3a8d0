-- After all writes of a plan the system is the planned one.
use Rattle.std.proofs.Common.{◌≡◌, ℕ, suc, ◌+◌, ◌-◌, ◌*◌, ◌/◌, ◌%◌, ◌^◌, ◌<◌, ◌≤◌, ◌⊎◌, inl, inr, List, [], ◌∷◌, ◌++◌, refl, Bool, true, false, ◌&&◌, ◌||◌, arith, sym, ◌∙◌, ap, subst, map, get_or}
use Rattle.std.specs.Bool.{IsFalse, nat_lt, nat_le, ◌==◌}
use Rattle.std.specs.List.{All, AllPairs, Contains, list_any}
use Rattle.std.specs.Int.{bit_at}
use Rattle.std.proofs.lemmas.Bool.{and_parts, and_left, cases_Bool, cases_eq, cases_order, both_ways, eqb-true, leb-true, ltb-true, ne_eqb}
use Rattle.std.proofs.lemmas.Nat.Bits.{same_from_bits_below}
use Rattle.std.proofs.lemmas.List.{ext_get_or, get_or_default}
use Rattle.std.proofs.lemmas.List.Elements.{All-contains, Contains-append_cases, Contains-append_left, Contains-append_right}
use Rattle.pci_spec.specs.Number.{byte_at, number_at, has_bit, IsImage}
use Rattle.pci_spec.specs.Slot.{Slot, same_slot}
use Rattle.pci_spec.specs.Header.{command, layout, address_registers, is_in_register, registers_by}
use Rattle.pci_spec.specs.Rom.{rom_at}
use Rattle.pci_spec.specs.System.{Function, IsSystem, IsFunction, is_bridge}
use Rattle.pci_spec.specs.Machine.{Write, in_fields, address_fields, system_after}
use Rattle.plan_spec.specs.Plan.{IsMoved}
use Rattle.pci_spec.proofs.Bits.{bit_of_false}
use Rattle.pci_spec.proofs.Members.{in_map_from}
use Rattle.pci_spec.proofs.KeptBits.{field_passes, are_within}
use Rattle.pci_spec.proofs.SameSlot.{slot_itself}
use Rattle.plan_spec.specs.Planning.Safety.{is_on}
use Rattle.plan_spec.specs.Planning.Fitting.{IsFitting, FitsAt}
use Rattle.plan_spec.specs.Planning.Building.{command_write}
use Rattle.plan_spec.specs.Planning.PlanWrites.{Change, olds, news, closed_command, closing_writes, register_writes, opening_writes, plan_writes}
use Rattle.plan_spec.proofs.Planning.Behind.{Passes, any_gives}
use Rattle.plan_spec.proofs.Planning.Moved.{kind_fields}
use Rattle.plan_spec.proofs.Planning.Registers.{register_bit, number_below}
use Rattle.plan_spec.proofs.Planning.Fit.{moved_itself}
use Rattle.plan_spec.proofs.Planning.Writes.{same_number}
use Rattle.plan_spec.proofs.Planning.Staging.{changes_rise, number_of, is_register, pairs_in_order, registers_in_order, closing_to, closing_from, register_to, register_from, opening_to, opening_from, closing_write, number_write, opening_write, fits}
use Rattle.plan_spec.proofs.Planning.Settled.{IsQuiet, IsSetting, function_after, system_by_function, function_parts, function_moved, settled}

-- two elements of a list in order are one, or in order
pub two_of : {X : Type 0} (R : X → X → Type 0) (xs : List X) (x y : X) → AllPairs R xs → Contains xs x → Contains xs y → (x ≡ y) ⊎ (R x y ⊎ R y x)
two_of R xs x y pairs (j, l, ex) (k, m, ey) = elim (cases_order j k) [
  | inl e ↦ inl (sym ex ∙ ap (λ i. get_or xs i x) e ∙ get_or_default xs k x y m ∙ ey)
  | inr (inl less) ↦ inr (inl (subst (λ v. R v y) ex (subst (λ w. R (get_or xs j x) w) (get_or_default xs k x y m ∙ ey) (pairs j k x less m))))
  | inr (inr more) ↦ inr (inr (subst (λ v. R y v) ex (subst (λ w. R w (get_or xs j x)) (get_or_default xs k x y m ∙ ey) (pairs k j x more l))))
]

-- numbers that agree have bytes that agree
pub byte_of_number : (a b : List ℕ) (o w place : ℕ) → IsImage a → IsImage b → number_at a o w ≡ number_at b o w → o ≤ place → place < o + w → byte_at a place ≡ byte_at b place
byte_of_number a b o w place is_a is_b same from to =
    let j = place - o in
    let at : o + j ≡ place = omega (arith, from) in
    let short : j < w = omega (arith, from, to) in
    same_from_bits_below 8 (byte_at a place) (byte_at b place) (is_a.bytes place) (is_b.bytes place)
    (λ i small.
    ap (λ p. bit_at (byte_at a p) i) (sym at) ∙ sym (register_bit a o is_a w j i short small) ∙ ap (λ n. bit_at n (8 * j + i)) same ∙ register_bit b o is_b w j i short small ∙ ap (λ p. bit_at (byte_at b p) i) at)

fields_within : (bridge : Bool) (probe : List ℕ) (rom : ℕ) → are_within (λ place. list_any (is_in_register place) (registers_by bridge)) (kind_fields bridge probe rom) ≡ true
fields_within true probe rom = refl
fields_within false probe rom = refl

no_field_elsewhere : (f : Function) (place i : ℕ) → list_any (is_in_register place) (registers_by (is_bridge f)) ≡ false → in_fields (address_fields f.image f.probe) place i ≡ false
no_field_elsewhere f place i out = elim (cases_Bool (in_fields (address_fields f.image f.probe) place i)) [
  | inr fine ↦ fine
  | inl there ↦ absurd (both_ways (list_any (is_in_register place) (registers_by (is_bridge f))) out
      (field_passes (λ p. list_any (is_in_register p) (registers_by (is_bridge f))) (address_fields f.image f.probe) place i (fields_within (is_bridge f) f.probe (rom_at f.image f.probe)) there))
]

-- two images of a function whose address registers and Command are the same are one
same_image : (f g h : Function) → IsMoved f g → IsMoved f h → ((r : ℕ × ℕ) → Contains (address_registers (layout f.image)) r → number_at h.image r.0 r.1 ≡ number_at g.image r.0 r.1)
    → command h.image ≡ command g.image → h.image ≡ g.image
same_image f g h m n registers commands = ext_get_or 0 h.image g.image (n.image.full ∙ sym m.image.full) (λ place below.
    let full = n.image.full in
    let inside : place < 256 = omega (arith, below, full) in
    elim (cases_Bool (list_any (is_in_register place) (registers_by (is_bridge f)))) [
      | inl there ↦
          let found : Passes (is_in_register place) (registers_by (is_bridge f)) = any_gives (is_in_register place) (registers_by (is_bridge f)) there in
          let r = found.x in
          let parts = and_parts (nat_le r.0 place) (nat_lt place (r.0 + r.1)) found.is in
          byte_of_number h.image g.image r.0 r.1 place n.image m.image (registers r found.listed) (leb-true r.0 place parts.0) (ltb-true place (r.0 + r.1) parts.1)
      | inr out ↦ elim (cases_eq place 4) [
        | inl four ↦ byte_of_number h.image g.image 4 2 place n.image m.image commands (omega (arith, four)) (omega (arith, four))
        | inr other ↦
            same_from_bits_below 8 (byte_at h.image place) (byte_at g.image place) (n.image.bytes place) (m.image.bytes place)
            (λ i small.
            let plain = no_field_elsewhere f place i out in
            let free : IsFalse (place == 4 && nat_lt i 2) = and_left (place == 4) (nat_lt i 2) (ne_eqb place 4 other) in
            n.same place i inside small plain free ∙ sym (m.same place i inside small plain free))
      ]
    ])

same_function : (g h : Function) → h.slot ≡ g.slot → h.image ≡ g.image → h.probe ≡ g.probe → h ≡ g
same_function g h slot image probe = λ i. record { slot = slot i; image = image i; probe = probe i }

or_false_left : (x y : Bool) → (x || y) ≡ false → x ≡ false
or_false_left true y e = e
or_false_left false y e = refl

or_false_right : (x y : Bool) → (x || y) ≡ false → y ≡ false
or_false_right true y e = absurd (both_ways true e refl)
or_false_right false y e = e

clear_low : (n : ℕ) → bit_at n 0 ≡ 0 → bit_at n 1 ≡ 0 → n ≡ n / 4 * 4
clear_low n zero_clear one_clear =
    let a : n / 1 % 2 ≡ 0 = zero_clear in
    let b : n / 2 % 2 ≡ 0 = one_clear in
    omega (arith, a, b)

pub closed_le : (n : ℕ) → n / 4 * 4 ≤ n
closed_le n = omega arith

-- Command of a function that is off
pub off_is_closed : (f : Function) → is_on f ≡ false → command f.image ≡ closed_command f
off_is_closed f off =
    let io : has_bit (command f.image) 0 ≡ false = or_false_left (has_bit (command f.image) 0) (has_bit (command f.image) 1) off in
    let memory : has_bit (command f.image) 1 ≡ false = or_false_right (has_bit (command f.image) 0) (has_bit (command f.image) 1) off in
    clear_low (command f.image) (bit_of_false (command f.image) 0 io) (bit_of_false (command f.image) 1 memory)

number_small : (image : List ℕ) (o w : ℕ) → IsImage image → number_at image o w < 256 ^ w
number_small image o w is = number_below image o is w

module _ (changes : List Change) (system : IsSystem (olds changes)) (moved : All (λ (c : Change). IsMoved c.old c.new) changes) where
  pub moves : (c : Change) → Contains changes c → IsMoved c.old c.new
  moves c listed = All-contains (λ (d : Change). IsMoved d.old d.new) changes c moved listed

  pub old_listed : (c : Change) → Contains changes c → Contains (olds changes) c.old
  old_listed c listed = in_map_from (λ (d : Change). d.old) changes c listed

  pub image_of : (c : Change) → Contains changes c → IsImage c.old.image
  image_of c listed = (All-contains IsFunction (olds changes) c.old system.each (old_listed c listed)).image

  -- changes at one slot are one
  pub one_change : (c d : Change) → Contains changes c → Contains changes d → same_slot c.old.slot d.old.slot ≡ true → d ≡ c
  one_change c d in_c in_d here = elim (two_of (λ a b. number_of a < number_of b) changes d c (changes_rise changes system) in_d in_c) [
    | inl e ↦ e
    | inr (inl less) ↦ absurd (let e = same_number c.old.slot d.old.slot here in let impossible : ⊥ = omega (arith, less, e) in impossible)
    | inr (inr more) ↦ absurd (let e = same_number c.old.slot d.old.slot here in let impossible : ⊥ = omega (arith, more, e) in impossible)
  ]

  pub all_fit : (c : Change) → Contains changes c → (x : Write) → Contains (plan_writes changes) x → same_slot c.old.slot x.slot ≡ true → IsFitting x c.old
  all_fit c listed x has here = (All-contains (FitsAt (olds changes)) (plan_writes changes) x (fits changes system moved) has) c.old (old_listed c listed) here

  pub in_closing : (x : Write) → Contains (closing_writes changes) x → Contains (plan_writes changes) x
  in_closing x has = Contains-append_left (closing_writes changes) (register_writes changes ++ opening_writes changes) x has

  pub in_later : (x : Write) → Contains (register_writes changes ++ opening_writes changes) x → Contains (plan_writes changes) x
  in_later x has = Contains-append_right (closing_writes changes) (register_writes changes ++ opening_writes changes) x has

  -- ---- what writes leave

  -- writes to Command leave an address register
  command_quiet : (slot : Slot) (r : ℕ × ℕ) → 0x10 ≤ r.0 → (f : Function) (value : ℕ) (x : Write) → command_write f value ≡ x → IsQuiet slot r.0 r.1 x
  command_quiet slot r low f value x is =
      let at = ap (λ (w : Write). w.offset) is in
      let wide = ap (λ (w : Write). w.width) is in
      inr (inr (omega (arith, low, at, wide)))

  pub closing_quiet : (c : Change) (r : ℕ × ℕ) → 0x10 ≤ r.0 → (x : Write) → Contains (closing_writes changes) x → IsQuiet c.old.slot r.0 r.1 x
  closing_quiet c r low x has = let k = closing_to changes x has in command_quiet c.old.slot r low k.c.old (closed_command k.c.old) x k.is

  pub opening_quiet : (c : Change) (r : ℕ × ℕ) → 0x10 ≤ r.0 → (x : Write) → Contains (opening_writes changes) x → IsQuiet c.old.slot r.0 r.1 x
  opening_quiet c r low x has = let k = opening_to changes x has in command_quiet c.old.slot r low k.c.old (command k.c.new.image) x k.is

  -- and writes to address registers leave Command
  pub register_quiet : (c : Change) (x : Write) → Contains (register_writes changes) x → IsQuiet c.old.slot 4 2 x
  register_quiet c x has =
      let k = register_to changes x has in
      let low = (is_register k.c.old k.r k.register).low in
      let e = ap (λ (w : Write). w.offset) k.is in
      inr (inl (omega (arith, low, e)))

  -- ---- what they set

  -- a write to a Command sets that of its own change, and leaves the others
  command_sets : (value : Change → ℕ) (c d : Change) → Contains changes c → Contains changes d → (x : Write) → command_write d.old (value d) ≡ x → IsQuiet c.old.slot 4 2 x ⊎ IsSetting c.old.slot 4 2 (value c) x
  command_sets value c d in_c in_d x is =
      let at : same_slot c.old.slot d.old.slot ≡ same_slot c.old.slot x.slot = ap (λ (w : Write). same_slot c.old.slot w.slot) is in
      elim (cases_Bool (same_slot c.old.slot d.old.slot)) [
        | inr other ↦ inl (inl (sym at ∙ other))
        | inl here ↦ inr record {
          here = sym at ∙ here;
          offset = sym (ap (λ (w : Write). w.offset) is);
          width = sym (ap (λ (w : Write). w.width) is);
          value = sym (ap (λ (w : Write). w.value) is) ∙ ap value (one_change c d in_c in_d here);
        }
      ]

  pub closing_sets : (c : Change) → Contains changes c → (x : Write) → Contains (closing_writes changes) x → IsQuiet c.old.slot 4 2 x ⊎ IsSetting c.old.slot 4 2 (closed_command c.old) x
  closing_sets c listed x has = let k = closing_to changes x has in command_sets (λ d. closed_command d.old) c k.c listed k.listed x k.is

  pub opening_sets : (c : Change) → Contains changes c → (x : Write) → Contains (opening_writes changes) x → IsQuiet c.old.slot 4 2 x ⊎ IsSetting c.old.slot 4 2 (command c.new.image) x
  opening_sets c listed x has = let k = opening_to changes x has in command_sets (λ d. command d.new.image) c k.c listed k.listed x k.is

  -- two address registers of a function are one, or share no byte
  pub two_registers : (c d : Change) (r q : ℕ × ℕ) → Contains changes c → Contains changes d → Contains (address_registers (layout c.old.image)) r → Contains (address_registers (layout d.old.image)) q → d ≡ c
      → (r ≡ q) ⊎ ((r.0 + r.1 ≤ q.0) ⊎ (q.0 + q.1 ≤ r.0))
  two_registers c d r q in_c in_d in_r in_q e =
      two_of (λ (a b : ℕ × ℕ). a.0 + a.1 ≤ b.0) (registers_by (is_bridge c.old)) r q (pairs_in_order (registers_by (is_bridge c.old)) (registers_in_order (is_bridge c.old))) in_r
      (subst (λ (a : Change). Contains (address_registers (layout a.old.image)) q) e in_q)

  pub register_sets : (c : Change) → Contains changes c → (r : ℕ × ℕ) → Contains (address_registers (layout c.old.image)) r → (x : Write) → Contains (register_writes changes) x
      → IsQuiet c.old.slot r.0 r.1 x ⊎ IsSetting c.old.slot r.0 r.1 (number_at c.new.image r.0 r.1) x
  register_sets c listed r register x has =
      let k = register_to changes x has in
      let at : same_slot c.old.slot k.c.old.slot ≡ same_slot c.old.slot x.slot = ap (λ (w : Write). same_slot c.old.slot w.slot) k.is in
      let o = ap (λ (w : Write). w.offset) k.is in
      let n = ap (λ (w : Write). w.width) k.is in
      elim (cases_Bool (same_slot c.old.slot k.c.old.slot)) [
        | inr other ↦ inl (inl (sym at ∙ other))
        | inl here ↦
            let same = one_change c k.c listed k.listed here in
            elim (two_registers c k.c r k.r listed k.listed register k.register same) [
              | inl e ↦ inr record {
                here = sym at ∙ here;
                offset = sym o ∙ ap (λ (a : ℕ × ℕ). a.0) (sym e);
                width = sym n ∙ ap (λ (a : ℕ × ℕ). a.1) (sym e);
                value = sym (ap (λ (w : Write). w.value) k.is) ∙ ap (λ (d : Change). number_at d.new.image k.r.0 k.r.1) same ∙ ap (λ (a : ℕ × ℕ). number_at c.new.image a.0 a.1) (sym e);
              }
              | inr (inl before) ↦ inl (inr (inl (omega (arith, before, o))))
              | inr (inr after) ↦ inl (inr (inr (omega (arith, after, o, n))))
            ]
      ]

  -- ---- the end

  module _ (c : Change) (listed : Contains changes c) where
    abbrev after_closing : Function
    after_closing = function_after c.old (closing_writes changes)

    pub moved_closed : IsMoved c.old after_closing
    moved_closed = function_moved c.old (image_of c listed) c.old (closing_writes changes) (moved_itself c.old (image_of c listed)) (λ x has here. all_fit c listed x (in_closing x has) here)

    -- once the closing writes are made Command is closed
    pub closed_then : command after_closing.image ≡ closed_command c.old
    closed_then =
        settled c.old (image_of c listed) c.old (closing_writes changes) 4 2 (closed_command c.old) (moved_itself c.old (image_of c listed)) (omega arith)
        (let small = number_small c.old.image 4 2 (image_of c listed) in let less = closed_le (command c.old.image) in omega (arith, small, less))
        (λ x has here. all_fit c listed x (in_closing x has) here) (closing_sets c listed)
        (elim (cases_Bool (is_on c.old)) [
          | inl on ↦
              inr (closing_write c, closing_from changes c listed on, record { here = slot_itself c.old.slot; offset = refl; width = refl; value = refl })
          | inr off ↦ inl (off_is_closed c.old off)
        ])

    end_moved : IsMoved c.old (function_after c.old (plan_writes changes))
    end_moved = function_moved c.old (image_of c listed) c.old (plan_writes changes) (moved_itself c.old (image_of c listed)) (all_fit c listed)

    end_register : (r : ℕ × ℕ) → Contains (address_registers (layout c.old.image)) r → number_at (function_after c.old (plan_writes changes)).image r.0 r.1 ≡ number_at c.new.image r.0 r.1
    end_register r register =
        let is = is_register c.old r register in
        let low = is.low in
        let high = is.high in
        settled c.old (image_of c listed) c.old (plan_writes changes) r.0 r.1 (number_at c.new.image r.0 r.1) (moved_itself c.old (image_of c listed)) (omega (arith, high))
        (number_small c.new.image r.0 r.1 (moves c listed).image) (all_fit c listed)
        (λ x has. elim (Contains-append_cases (closing_writes changes) (register_writes changes ++ opening_writes changes) x has) [
          | inl closing ↦ inl (closing_quiet c r low x closing)
          | inr later ↦ elim (Contains-append_cases (register_writes changes) (opening_writes changes) x later) [
            | inl one ↦ register_sets c listed r register x one
            | inr opening ↦ inl (opening_quiet c r low x opening)
          ]
        ])
        (elim (cases_Bool (number_at c.new.image r.0 r.1 == number_at c.old.image r.0 r.1)) [
          | inl same ↦ inl (sym (eqb-true (number_at c.new.image r.0 r.1) (number_at c.old.image r.0 r.1) same))
          | inr differs ↦ inr (
            number_write c r,
            in_later (number_write c r) (Contains-append_left (register_writes changes) (opening_writes changes) (number_write c r) (register_from changes c r listed register differs)),
            record { here = slot_itself c.old.slot; offset = refl; width = refl; value = refl },
          )
        ])

    end_command : command (function_after c.old (plan_writes changes)).image ≡ command c.new.image
    end_command =
        ap (λ (f : Function). command f.image) (function_parts c.old (closing_writes changes) (register_writes changes ++ opening_writes changes))
        ∙ settled c.old (image_of c listed) after_closing (register_writes changes ++ opening_writes changes) 4 2 (command c.new.image) moved_closed (omega arith)
        (number_small c.new.image 4 2 (moves c listed).image) (λ x has here. all_fit c listed x (in_later x has) here)
        (λ x has. elim (Contains-append_cases (register_writes changes) (opening_writes changes) x has) [
          | inl one ↦ inl (register_quiet c x one)
          | inr opening ↦ opening_sets c listed x opening
        ])
        (elim (cases_Bool (command c.new.image == closed_command c.old)) [
          | inl same ↦ inl (closed_then ∙ sym (eqb-true (command c.new.image) (closed_command c.old) same))
          | inr differs ↦ inr (
            opening_write c,
            Contains-append_right (register_writes changes) (opening_writes changes) (opening_write c) (opening_from changes c listed differs),
            record { here = slot_itself c.old.slot; offset = refl; width = refl; value = refl },
          )
        ])

    pub end_is_new : function_after c.old (plan_writes changes) ≡ c.new
    end_is_new =
        same_function c.new (function_after c.old (plan_writes changes)) (end_moved.slot ∙ sym (moves c listed).slot)
        (same_image c.old c.new (function_after c.old (plan_writes changes)) (moves c listed) end_moved end_register end_command)
        (end_moved.probe ∙ sym (moves c listed).probe)

  -- ---- of the whole system

  map_changes : (writes : List Write) (some : List Change) → ((c : Change) → Contains some c → function_after c.old writes ≡ c.new) → map (λ f. function_after f writes) (olds some) ≡ news some
  map_changes writes [] each = refl
  map_changes writes (c ∷ some) each =
      ap (λ f. f ∷ map (λ f. function_after f writes) (olds some)) (each c (0, omega arith, refl))
      ∙ ap (λ t. c.new ∷ t) (map_changes writes some (λ d in_d. each d (suc in_d.0, (let l = in_d.1 in omega (arith, l)), in_d.2)))

  pub writes_reach : system_after (olds changes) (plan_writes changes) ≡ news changes
  writes_reach = system_by_function (olds changes) (plan_writes changes) ∙ map_changes (plan_writes changes) changes end_is_new
