-- What moving regions keeps: the tree of buses and the capability lists.
use Rattle.std.proofs.Common.{◌≡◌, ℕ, zero, suc, ◌+◌, ◌*◌, ◌-◌, ◌/◌, ◌%◌, ◌^◌, ◌<◌, ◌≤◌, List, [], ◌∷◌, ◌++◌, refl, Bool, true, false, cond, ◌&&◌, ◌||◌, arith, sym, ◌∙◌, ap, length, map}
use Rattle.std.specs.Bool.{IsTrue, nat_le, nat_lt, ◌==◌, if◌then◌else◌}
use Rattle.std.specs.List.{list_all, range_with_len}
use Rattle.std.proofs.lemmas.Bool.{and_parts, and_left, and_right, le-ltb, leb-true, ne_eqb, both_ways, lt-leb}
use Rattle.std.proofs.lemmas.Nat.Bits.{same_from_bits_below}
use Rattle.pci_spec.specs.Number.{byte_at, has_bit, IsImage}
use Rattle.pci_spec.specs.Header.{layout, status, primary_bus}
use Rattle.pci_spec.specs.Rom.{rom_at}
use Rattle.pci_spec.specs.Capability.{pointer, pointer_at, body_length, IsChain}
use Rattle.pci_spec.specs.System.{Function, is_bridge}
use Rattle.pci_spec.specs.Bus.{secondary, subordinate}
use Rattle.pci_spec.specs.Machine.{Field, field_has, in_fields, bar_field, window_fields, address_fields}
use Rattle.plan_spec.specs.Plan.{IsMoved}

-- ---- bytes with no address bit

abbrev pub kind_fields : Bool → List ℕ → ℕ → List Field
kind_fields bridge probe rom =
    map (bar_field probe) (range_with_len 0 (if bridge then 2 else 6))
    ++ record { offset = if bridge then 0x38 else 0x30; width = 4; bits = rom } ∷ []
    ++ (if bridge then window_fields probe else [])

by_kind : (image probe : List ℕ) → address_fields image probe ≡ kind_fields (layout image == 1) probe (rom_at image probe)
by_kind image probe = refl

no_field : (fields : List Field) (limit place i : ℕ) → list_all (λ f. nat_le (f.offset + f.width) limit) fields ≡ true → limit ≤ place → in_fields fields place i ≡ false
no_field [] limit place i h past = refl
no_field (f ∷ fields) limit place i h past =
    let parts = and_parts (nat_le (f.offset + f.width) limit) (list_all (λ g. nat_le (g.offset + g.width) limit) fields) h in
    let end = leb-true (f.offset + f.width) limit parts.0 in
    let over : nat_lt place (f.offset + f.width) ≡ false = le-ltb place (f.offset + f.width) (omega (arith, end, past)) in
    let misses : field_has place i f ≡ false = and_left (nat_le f.offset place && nat_lt place (f.offset + f.width)) (has_bit f.bits (8 * (place - f.offset) + i)) (and_right (nat_le f.offset place) (nat_lt place (f.offset + f.width)) over) in
    ap (λ b. b || in_fields fields place i) misses ∙ no_field fields limit place i parts.1 past

pub no_field_before : (fields : List Field) (limit place i : ℕ) → list_all (λ f. nat_le limit f.offset) fields ≡ true → place < limit → in_fields fields place i ≡ false
no_field_before [] limit place i h before = refl
no_field_before (f ∷ fields) limit place i h before =
    let parts = and_parts (nat_le limit f.offset) (list_all (λ g. nat_le limit g.offset) fields) h in
    let start = leb-true limit f.offset parts.0 in
    let under : nat_le f.offset place ≡ false = lt-leb f.offset place (omega (arith, start, before)) in
    let misses : field_has place i f ≡ false = and_left (nat_le f.offset place && nat_lt place (f.offset + f.width)) (has_bit f.bits (8 * (place - f.offset) + i)) (and_left (nat_le f.offset place) (nat_lt place (f.offset + f.width)) under) in
    ap (λ b. b || in_fields fields place i) misses ∙ no_field_before fields limit place i parts.1 before

all_start : (bridge : Bool) (probe : List ℕ) (rom : ℕ) → list_all (λ (f : Field). nat_le 0x10 f.offset) (kind_fields bridge probe rom) ≡ true
all_start true probe rom = refl
all_start false probe rom = refl

all_end : (bridge : Bool) (probe : List ℕ) (rom : ℕ) → list_all (λ (f : Field). nat_le (f.offset + f.width) 0x3c) (kind_fields bridge probe rom) ≡ true
all_end true probe rom = refl
all_end false probe rom = refl

at_0e : (bridge : Bool) (probe : List ℕ) (rom i : ℕ) → in_fields (kind_fields bridge probe rom) 0x0e i ≡ false
at_0e true probe rom i = refl
at_0e false probe rom i = refl

at_06 : (bridge : Bool) (probe : List ℕ) (rom i : ℕ) → in_fields (kind_fields bridge probe rom) 0x06 i ≡ false
at_06 true probe rom i = refl
at_06 false probe rom i = refl

at_07 : (bridge : Bool) (probe : List ℕ) (rom i : ℕ) → in_fields (kind_fields bridge probe rom) 0x07 i ≡ false
at_07 true probe rom i = refl
at_07 false probe rom i = refl

at_34 : (bridge : Bool) (probe : List ℕ) (rom i : ℕ) → in_fields (kind_fields bridge probe rom) 0x34 i ≡ false
at_34 true probe rom i = refl
at_34 false probe rom i = refl

at_18 : (bridge : Bool) (probe : List ℕ) (rom i : ℕ) → bridge ≡ true → in_fields (kind_fields bridge probe rom) 0x18 i ≡ false
at_18 true probe rom i e = refl
at_18 false probe rom i e = absurd (both_ways false refl e)

at_19 : (bridge : Bool) (probe : List ℕ) (rom i : ℕ) → bridge ≡ true → in_fields (kind_fields bridge probe rom) 0x19 i ≡ false
at_19 true probe rom i e = refl
at_19 false probe rom i e = absurd (both_ways false refl e)

at_1a : (bridge : Bool) (probe : List ℕ) (rom i : ℕ) → bridge ≡ true → in_fields (kind_fields bridge probe rom) 0x1a i ≡ false
at_1a true probe rom i e = refl
at_1a false probe rom i e = absurd (both_ways false refl e)

pub no_early_field : (image probe : List ℕ) (place i : ℕ) → place < 0x10 → in_fields (address_fields image probe) place i ≡ false
no_early_field image probe place i below = no_field_before (address_fields image probe) 0x10 place i (all_start (layout image == 1) probe (rom_at image probe)) below

module _ (old new : Function) (m : IsMoved old new) (is : IsImage old.image) where
  same_byte : (place : ℕ) → place < 256 → ((i : ℕ) → in_fields (address_fields old.image old.probe) place i ≡ false) → (place == 4) ≡ false → byte_at new.image place ≡ byte_at old.image place
  same_byte place inside none four =
      same_from_bits_below 8 (byte_at new.image place) (byte_at old.image place) (m.image.bytes place) (is.bytes place)
      (λ i l. m.same place i inside l (none i) (and_left (place == 4) (nat_lt i 2) four))

  pub rest_same : (place : ℕ) → 0x3c ≤ place → place < 256 → byte_at new.image place ≡ byte_at old.image place
  rest_same place past inside =
      same_byte place inside
      (λ i. no_field (address_fields old.image old.probe) 0x3c place i (all_end (layout old.image == 1) old.probe (rom_at old.image old.probe)) past)
      (ne_eqb place 4 (λ e. let impossible : ⊥ = omega (arith, e, past) in impossible))

  pub low_same : (place : ℕ) → place < 0x10 → (place == 4) ≡ false → byte_at new.image place ≡ byte_at old.image place
  low_same place below four =
      same_byte place (omega (arith, below))
      (λ i. no_field_before (address_fields old.image old.probe) 0x10 place i (all_start (layout old.image == 1) old.probe (rom_at old.image old.probe)) below) four

  pub layout_same : layout new.image ≡ layout old.image
  layout_same = ap (λ b. b % 128) (same_byte 0x0e (omega arith) (λ i. at_0e (layout old.image == 1) old.probe (rom_at old.image old.probe) i) refl)

  pub bridge_same : is_bridge new ≡ is_bridge old
  bridge_same = ap (λ n. n == 1) layout_same

  pub primary_same : IsTrue (is_bridge old) → primary_bus new.image ≡ primary_bus old.image
  primary_same b = same_byte 0x18 (omega arith) (λ i. at_18 (layout old.image == 1) old.probe (rom_at old.image old.probe) i b) refl

  pub secondary_same : IsTrue (is_bridge old) → secondary new ≡ secondary old
  secondary_same b = same_byte 0x19 (omega arith) (λ i. at_19 (layout old.image == 1) old.probe (rom_at old.image old.probe) i b) refl

  pub subordinate_same : IsTrue (is_bridge old) → subordinate new ≡ subordinate old
  subordinate_same b = same_byte 0x1a (omega arith) (λ i. at_1a (layout old.image == 1) old.probe (rom_at old.image old.probe) i b) refl

  status_same : status new.image ≡ status old.image
  status_same =
      ap (λ a. 0 + a * 256 ^ 0 + byte_at new.image 7 * 256 ^ 1) (same_byte 6 (omega arith) (λ i. at_06 (layout old.image == 1) old.probe (rom_at old.image old.probe) i) refl)
      ∙ ap (λ b. 0 + byte_at old.image 6 * 256 ^ 0 + b * 256 ^ 1) (same_byte 7 (omega arith) (λ i. at_07 (layout old.image == 1) old.probe (rom_at old.image old.probe) i) refl)

  pointer_at_same : (place : ℕ) → byte_at new.image place ≡ byte_at old.image place → pointer_at new.image place ≡ pointer_at old.image place
  pointer_at_same place e = ap (λ b. b / 4 * 4) e

  module _ (places : List ℕ) (chain : IsChain old.image places) where
    pub pointer_same : (n : ℕ) → n ≤ length places → pointer new.image n ≡ pointer old.image n
    pointer_same zero h =
        ap (λ s. cond (has_bit s 4) (pointer_at new.image 0x34) 0) status_same
        ∙ ap (λ p. cond (has_bit (status old.image) 4) p 0) (pointer_at_same 0x34 (same_byte 0x34 (omega arith) (λ i. at_34 (layout old.image == 1) old.probe (rom_at old.image old.probe) i) refl))
    pointer_same (suc n) h =
        let before = pointer_same n (omega (arith, h)) in
        let range = chain.in_range n (omega (arith, h)) in
        let low = range.0 in
        let high = range.1 in
        ap (λ p. cond (p == 0) 0 (pointer_at new.image (p + 1))) before
        ∙ ap (λ q. cond (pointer old.image n == 0) 0 q) (pointer_at_same (pointer old.image n + 1) (rest_same (pointer old.image n + 1) (omega (arith, low)) (omega (arith, high))))

    length_same : (place : ℕ) → 0x40 ≤ place → place ≤ 0xfc → body_length new.image place ≡ body_length old.image place
    length_same place low high =
        let id = rest_same place (omega (arith, low)) (omega (arith, high)) in
        let two = rest_same (place + 2 + 0) (omega (arith, low)) (omega (arith, high)) in
        let three = rest_same (place + 2 + 1) (omega (arith, low)) (omega (arith, high)) in
        rw (id, two, three) refl

    pub chain_same : IsChain new.image places
    chain_same = record {
      each = λ n l. chain.each n l ∙ sym (pointer_same n (omega (arith, l)));
      end = pointer_same (length places) (omega arith) ∙ chain.end;
      in_range = λ n l. let e = pointer_same n (omega (arith, l)) in let r = chain.in_range n l in let low = r.0 in let high = r.1 in (omega (arith, e, low), omega (arith, e, high));
      distinct = λ m n less l e. chain.distinct m n less l (sym (pointer_same m (omega (arith, less, l))) ∙ e ∙ pointer_same n (omega (arith, l)));
      bodies = λ n l.
          let e = pointer_same n (omega (arith, l)) in
          let r = chain.in_range n l in
          let b = chain.bodies n l in
          let f = ap (λ p. p + body_length new.image p) e in
          let g = length_same (pointer old.image n) r.0 r.1 in
          omega (arith, b, f, g);
    }
