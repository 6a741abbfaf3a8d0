-- What a register shows after writes.
use Rattle.std.proofs.Common.{◌≡◌, ℕ, zero, suc, ◌+◌, ◌-◌, ◌*◌, ◌/◌, ◌%◌, ◌^◌, ◌<◌, ◌≤◌, ◌⊎◌, inl, inr, List, [], ◌∷◌, ◌++◌, refl, Bool, true, false, ◌&&◌, ◌||◌, arith, sym, ◌∙◌, ap, subst, map}
use Rattle.std.specs.Bool.{IsFalse, nat_lt, ◌==◌, if◌then◌else◌}
use Rattle.std.specs.List.{Contains, fold, list_any, range_with_len}
use Rattle.std.specs.Int.{bit_at}
use Rattle.std.proofs.lemmas.Bool.{and_parts, cases_Bool, both_ways, eqb-true, ltb-true}
use Rattle.std.proofs.lemmas.Nat.{mod_below}
use Rattle.std.proofs.lemmas.Nat.Bits.{same_from_bits_below}
use Rattle.std.proofs.lemmas.List.Folds.{list_any-append}
use Rattle.pci_spec.specs.Number.{byte_at, number_at, has_bit, IsImage}
use Rattle.pci_spec.specs.Slot.{Slot, same_slot}
use Rattle.pci_spec.specs.Header.{layout, rom_place}
use Rattle.pci_spec.specs.System.{System, Function}
use Rattle.pci_spec.specs.Machine.{Target, Write, Field, field_has, in_fields, bar_field, window_fields, address_fields, writable_by, writable_bits, written, target_of, write_function, write_system, system_after, plain_field}
use Rattle.plan_spec.specs.Plan.{IsMoved}
use Rattle.pci_spec.proofs.Members.{in_nil, in_cons_cases, in_head, in_tail}
use Rattle.pci_spec.proofs.WritableBits.{has_bit-writable_bits}
use Rattle.pci_spec.proofs.WrittenBits.{write_sets_writable_bits, write_keeps_other_bits}
use Rattle.plan_spec.specs.Planning.Fitting.{IsFitting}
use Rattle.plan_spec.proofs.Planning.Moved.{kind_fields}
use Rattle.plan_spec.proofs.Planning.Registers.{register_bit, datum_bit_at, number_below, powers_same}
use Rattle.plan_spec.proofs.Planning.Writes.{write_elsewhere, write_here, byte_outside, enables_are_writable}
use Rattle.plan_spec.proofs.Planning.Fit.{moved_trans, write_moves, fitting_later, written_image}

-- ---- a write that fits is shown

moved_back : (bars rom windows enable control : Bool) → (bars || (rom || windows)) ≡ true → (bars || (windows || (enable || (rom || control)))) ≡ true
moved_back true rom windows enable control h = refl
moved_back false rom true enable control h = refl
moved_back false rom false true control h = refl
moved_back false true false false control h = refl
moved_back false false false false control h = absurd (both_ways false refl h)

-- the table has the ROM behind the windows
among_all : (bars windows control : List Field) (rom enable : Field) (place i : ℕ) → in_fields (bars ++ rom ∷ windows) place i ≡ true → in_fields (bars ++ (windows ++ enable ∷ rom ∷ control)) place i ≡ true
among_all bars windows control rom enable place i h =
    let has = field_has place i in
    list_any-append has bars (windows ++ enable ∷ rom ∷ control) ∙ ap (λ b. list_any has bars || b) (list_any-append has windows (enable ∷ rom ∷ control))
    ∙ moved_back (list_any has bars) (has rom) (list_any has windows) (has enable) (list_any has control) (sym (list_any-append has bars (rom ∷ windows)) ∙ h)

by_kind_writable : (bridge : Bool) (probe : List ℕ) (place i : ℕ) → in_fields (kind_fields bridge probe (number_at probe (rom_place bridge) 4)) place i ≡ true → in_fields (writable_by bridge probe) place i ≡ true
by_kind_writable true probe place i h =
    among_all (map (bar_field probe) (range_with_len 0 2)) (window_fields probe)
    (plain_field 0x04 2 0x0547 ∷ plain_field 0x18 1 0xff ∷ plain_field 0x19 1 0xff ∷ plain_field 0x1a 1 0xff ∷ plain_field 0x3c 1 0xff ∷ [])
    (plain_field 0x38 4 (number_at probe 0x38 4)) (plain_field 0x38 1 (if number_at probe 0x38 4 == 0 then 0 else 1)) place i h
by_kind_writable false probe place i h =
    among_all (map (bar_field probe) (range_with_len 0 6)) [] (plain_field 0x04 2 0x0547 ∷ plain_field 0x3c 1 0xff ∷ [])
    (plain_field 0x30 4 (number_at probe 0x30 4)) (plain_field 0x30 1 (if number_at probe 0x30 4 == 0 then 0 else 1)) place i h

address_bits_writable : (f : Function) (place i : ℕ) → place < 256 → i < 8 → in_fields (address_fields f.image f.probe) place i ≡ true → has_bit (byte_at (writable_bits f.image f.probe) place) i ≡ true
address_bits_writable f place i inside small h =
    has_bit-writable_bits f.image f.probe place i inside small ∙ by_kind_writable (layout f.image == 1) f.probe place i h

module _ (f : Function) (x : Write) (is : IsImage f.image) (fits : IsFitting x f) where
  -- each bit of the register is that of the datum
  bit_shown : (j i : ℕ) → j < x.width → i < 8 → bit_at (byte_at (written (target_of f) x.offset x.width x.value) (x.offset + j)) i ≡ bit_at x.value (8 * j + i)
  bit_shown j i short small =
      let t = target_of f in
      let place = x.offset + j in
      let end = fits.inside in
      let inside : place < 256 = omega (arith, end, short) in
      let at : place - x.offset ≡ j = omega arith in
      elim (cases_Bool (has_bit (byte_at t.writable place) i)) [
        | inl may ↦ write_sets_writable_bits t x.offset x.width x.value place i inside small (omega arith) (omega (arith, short)) may ∙ ap (λ k. bit_at x.value (8 * k + i)) at
        | inr fixed ↦
            let plain : IsFalse (in_fields (address_fields f.image f.probe) place i) = elim (cases_Bool (in_fields (address_fields f.image f.probe) place i)) [
              | inl there ↦ absurd (both_ways (has_bit (byte_at t.writable place) i) fixed (address_bits_writable f place i inside small there))
              | inr fine ↦ fine
            ] in
            let other : IsFalse (place == 4 && nat_lt i 2) = elim (cases_Bool (place == 4 && nat_lt i 2)) [
              | inr fine ↦ fine
              | inl enables ↦
                  let parts = and_parts (place == 4) (nat_lt i 2) enables in
                  let four = eqb-true place 4 parts.0 in
                  absurd (both_ways (has_bit (byte_at t.writable place) i) fixed
                  (ap (λ p. has_bit (byte_at t.writable p) i) four ∙ enables_are_writable f.image f.probe i (ltb-true i 2 parts.1)))
            ] in
            write_keeps_other_bits t x.offset x.width x.value place i inside small fixed (fits.clears place i (omega arith) (omega (arith, short)) small)
            ∙ sym (fits.same place i (omega arith) (omega (arith, short)) small plain other)
            ∙ ap (λ k. bit_at (x.value / 256 ^ k % 256) i) at
            ∙ datum_bit_at x.value j i small
      ]

  pub write_shows : x.value < 256 ^ x.width → same_slot f.slot x.slot ≡ true → number_at (write_function x f).image x.offset x.width ≡ x.value
  write_shows fits_width here =
      let t = target_of f in
      let after = written t x.offset x.width x.value in
      let image_after = written_image t x.offset x.width x.value is in
      let small_after : number_at after x.offset x.width < 2 ^ (8 * x.width) = subst (λ n. number_at after x.offset x.width < n) (powers_same x.width) (number_below after x.offset image_after x.width) in
      let small_value : x.value < 2 ^ (8 * x.width) = subst (λ n. x.value < n) (powers_same x.width) fits_width in
      ap (λ (g : Function). number_at g.image x.offset x.width) (write_here x f here)
      ∙ same_from_bits_below (8 * x.width) (number_at after x.offset x.width) x.value small_after small_value
      (λ b less.
      let j = b / 8 in
      let i = b % 8 in
      let small : i < 8 = mod_below b 8 (omega arith) in
      let short : j < x.width = omega (arith, less) in
      let whole : 8 * j + i ≡ b = omega arith in
      ap (λ k. bit_at (number_at after x.offset x.width) k) (sym whole)
      ∙ register_bit after x.offset image_after x.width j i short small
      ∙ bit_shown j i short small
      ∙ ap (λ k. bit_at x.value k) whole)

-- ---- a register that a write leaves

pub number_outside : (t : Target) (offset width value o w : ℕ) → o + w ≤ 256 → (o + w ≤ offset) ⊎ (offset + width ≤ o) → number_at (written t offset width value) o w ≡ number_at t.image o w
number_outside t offset width value o zero inside apart = refl
number_outside t offset width value o (suc w) inside apart =
    let rest : (o + w ≤ offset) ⊎ (offset + width ≤ o) = elim apart [ inl low ↦ inl (omega (arith, low)) | inr high ↦ inr high ] in
    ap (λ n. n + byte_at (written t offset width value) (o + w) * 256 ^ w) (number_outside t offset width value o w (omega (arith, inside)) rest)
    ∙ ap (λ b. number_at t.image o w + b * 256 ^ w)
    (byte_outside t offset width value (o + w) (omega (arith, inside)) (elim apart [ inl low ↦ inl (omega (arith, low)) | inr high ↦ inr (omega (arith, high)) ]))

-- a write that shares no byte with a register of the function at a slot
abbrev pub IsQuiet : Slot → ℕ → ℕ → Write → Type 0
IsQuiet slot o w x = (same_slot slot x.slot ≡ false) ⊎ ((o + w ≤ x.offset) ⊎ (x.offset + x.width ≤ o))

pub quiet_keeps : (f : Function) (x : Write) (o w : ℕ) → o + w ≤ 256 → IsQuiet f.slot o w x → number_at (write_function x f).image o w ≡ number_at f.image o w
quiet_keeps f x o w inside (inl other) = ap (λ (g : Function). number_at g.image o w) (write_elsewhere x f other)
quiet_keeps f x o w inside (inr apart) = elim (cases_Bool (same_slot f.slot x.slot)) [
  | inr other ↦ ap (λ (g : Function). number_at g.image o w) (write_elsewhere x f other)
  | inl here ↦ ap (λ (g : Function). number_at g.image o w) (write_here x f here) ∙ number_outside (target_of f) x.offset x.width x.value o w inside apart
]

-- the write puts the number into the register
pub record IsSetting (slot : Slot) (o w v : ℕ) (x : Write) : Type 0 where
  pub here : same_slot slot x.slot ≡ true
  pub offset : x.offset ≡ o
  pub width : x.width ≡ w
  pub value : x.value ≡ v

-- ---- a function after writes

abbrev pub function_after : Function → List Write → Function
function_after f writes = fold (λ g w. write_function w g) f writes

map_itself : (s : System) → map (λ (f : Function). f) s ≡ s
map_itself [] = refl
map_itself (f ∷ s) = ap (λ t. f ∷ t) (map_itself s)

map_twice : (p q : Function → Function) (s : System) → map p (map q s) ≡ map (λ f. p (q f)) s
map_twice p q [] = refl
map_twice p q (f ∷ s) = ap (λ t. p (q f) ∷ t) (map_twice p q s)

-- each function of a system by itself
pub system_by_function : (s : System) (writes : List Write) → system_after s writes ≡ map (λ f. function_after f writes) s
system_by_function s [] = sym (map_itself s)
system_by_function s (w ∷ writes) = system_by_function (write_system s w) writes ∙ map_twice (λ f. function_after f writes) (write_function w) s

pub function_parts : (f : Function) (a b : List Write) → function_after f (a ++ b) ≡ function_after (function_after f a) b
function_parts f [] b = refl
function_parts f (w ∷ a) b = function_parts (write_function w f) a b

module _ (start : Function) (is : IsImage start.image) where
  pub moved_step : (f : Function) (x : Write) → IsMoved start f → (same_slot start.slot x.slot ≡ true → IsFitting x start) → IsMoved start (write_function x f)
  moved_step f x m fits =
      moved_trans start f (write_function x f) is m
      (write_moves x f m.image (λ here. fitting_later x start f is m (fits (ap (λ s. same_slot s x.slot) (sym m.slot) ∙ here))))

  pub function_moved : (f : Function) (writes : List Write) → IsMoved start f → ((x : Write) → Contains writes x → same_slot start.slot x.slot ≡ true → IsFitting x start) → IsMoved start (function_after f writes)
  function_moved f [] m fits = m
  function_moved f (x ∷ writes) m fits =
      function_moved (write_function x f) writes (moved_step f x m (fits x (in_head x writes))) (λ y has. fits y (in_tail x writes y has))

  set_shown : (f : Function) (x : Write) (o w v : ℕ) → IsMoved start f → v < 256 ^ w → (same_slot start.slot x.slot ≡ true → IsFitting x start) → IsSetting start.slot o w v x → number_at (write_function x f).image o w ≡ v
  set_shown f x o w v m small fits sets =
      let here : same_slot f.slot x.slot ≡ true = ap (λ s. same_slot s x.slot) m.slot ∙ sets.here in
      let value_small : x.value < 256 ^ x.width = subst (λ n. n < 256 ^ x.width) (sym sets.value) (subst (λ k. v < 256 ^ k) (sym sets.width) small) in
      ap (λ k. number_at (write_function x f).image k w) (sym sets.offset)
      ∙ ap (λ k. number_at (write_function x f).image x.offset k) (sym sets.width)
      ∙ write_shows f x m.image (fitting_later x start f is m (fits sets.here)) value_small here
      ∙ sets.value

  -- A register that shows a number, or is set to it by some write, shows it at the end, if no write puts another there.
  pub settled : (f : Function) (writes : List Write) (o w v : ℕ) → IsMoved start f → o + w ≤ 256 → v < 256 ^ w
      → ((x : Write) → Contains writes x → same_slot start.slot x.slot ≡ true → IsFitting x start)
      → ((x : Write) → Contains writes x → IsQuiet start.slot o w x ⊎ IsSetting start.slot o w v x)
      → (number_at f.image o w ≡ v) ⊎ ((x : Write) × Contains writes x × IsSetting start.slot o w v x)
      → number_at (function_after f writes).image o w ≡ v
  settled f [] o w v m inside small fits each (inl e) = e
  settled f [] o w v m inside small fits each (inr (x, has, sets)) = absurd (in_nil x has)
  settled f (x ∷ writes) o w v m inside small fits each state =
      let next = write_function x f in
      let m_next = moved_step f x m (fits x (in_head x writes)) in
      settled next writes o w v m_next inside small (λ y has. fits y (in_tail x writes y has)) (λ y has. each y (in_tail x writes y has))
      (elim (each x (in_head x writes)) [
        | inr sets ↦ inl (set_shown f x o w v m small (fits x (in_head x writes)) sets)
        | inl quiet ↦ elim state [
          | inl e ↦ inl (quiet_keeps f x o w inside (subst (λ s. IsQuiet s o w x) (sym m.slot) quiet) ∙ e)
          | inr (y, has, sets) ↦ elim (in_cons_cases x writes y has) [
            | inl first ↦ inl (set_shown f x o w v m small (fits x (in_head x writes)) (subst (IsSetting start.slot o w v) (sym first) sets))
            | inr later ↦ inr (y, later, sets)
          ]
        ]
      ])

  -- what no write touches stays
  pub untouched : (f : Function) (writes : List Write) (o w : ℕ) → IsMoved start f → o + w ≤ 256
      → ((x : Write) → Contains writes x → same_slot start.slot x.slot ≡ true → IsFitting x start)
      → ((x : Write) → Contains writes x → IsQuiet start.slot o w x) → number_at (function_after f writes).image o w ≡ number_at f.image o w
  untouched f writes o w m inside fits each =
      settled f writes o w (number_at f.image o w) m inside (number_below f.image o m.image w) fits (λ x has. inl (each x has)) (inl refl)
