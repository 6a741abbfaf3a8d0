-- The printed writes fit the functions of a dump, so a machine shows after them just the bytes that they put in.
use Rattle.std.proofs.Common.{◌≡◌, ◌⊎◌, ℕ, ◌+◌, ◌-◌, ◌*◌, ◌/◌, ◌%◌, ◌^◌, ◌<◌, ◌≤◌, List, [], ◌∷◌, true, false, ◌&&◌, inl, inr, refl, sym, ◌∙◌, ap, subst, arith, map, set}
use Rattle.std.specs.Bool.{nat_lt, ◌==◌, if◌then◌else◌}
use Rattle.std.specs.Int.{bit_at}
use Rattle.std.specs.List.{AllZip, Contains, fold, All}
use Rattle.std.proofs.lemmas.Bool.{both_ways, cases_Bool, cases_lt, eq-eqb, lt-ltb, ne_eqb, false_from_ne_true}
use Rattle.std.proofs.lemmas.List.{ext_get_or}
use Rattle.std.proofs.lemmas.List.Elements.{All-contains, All-contains_itself, All-weaker}
use Rattle.std.proofs.lemmas.Nat.Bits.{same_from_bits_below}
use Rattle.pci_spec.specs.Number.{byte_at, has_bit, IsImage}
use Rattle.pci_spec.specs.Header.{command}
use Rattle.pci_spec.specs.Registers.{COMMAND}
use Rattle.pci_spec.specs.Slot.{Slot, same_slot}
use Rattle.pci_spec.specs.System.{Function, IsSystem, System, function_of, system_of}
use Rattle.pci_spec.specs.Text.{Block}
use Rattle.pci_spec.specs.Machine.{Write, address_fields, clearing_bits, in_fields, system_after, target_of, write_function, written}
use Rattle.pci_spec.proofs.Members.{in_head, in_tail, in_map_to}
use Rattle.pci_spec.proofs.Pairs.{member_forth}
use Rattle.pci_spec.proofs.WrittenBits.{write_keeps_other_bits, write_sets_writable_bits}
use Rattle.plan_spec.specs.Plan.{IsMoved}
use Rattle.plan_spec.specs.Planning.Fitting.{IsFitting, FitsAt}
use Rattle.plan_spec.proofs.Planning.Fit.{fitting_later, moved_itself, written_image, moved_trans, write_moves}
use Rattle.plan_spec.proofs.Planning.Kept.{images_of}
use Rattle.plan_spec.proofs.Planning.Registers.{datum_bit_at}
use Rattle.plan_spec.proofs.Planning.Settled.{function_after, system_by_function}
use Rattle.plan_spec.proofs.Planning.Writes.{byte_outside, write_elsewhere, write_here}
use Rattle.settle_laws.proofs.Numbers.{with_elsewhere, with_image, with_inside}
use Rattle.judge_spec.specs.ModelWords.{Words}
use Rattle.judge_spec.specs.Windows.{with_number}
use Rattle.pci_model_settle.specs.Listed.{block_after, blocks_after}
use Rattle.settle_answer_laws.proofs.AddressBits.{address_bits_writable}
use Rattle.settle_answer_laws.proofs.Along.{IsAs, clears_same, enables_may, may_set, fields_same}
use Rattle.settle_answer_laws.proofs.DeviceWrites.{IsSettledWrite}
use Rattle.settle_answer_laws.proofs.KeptRegisters.{AreRegistersKept}
use Rattle.settle_answer_laws.proofs.ListedWrites.{IsCommandOf, high_bit, put_enables, put_write, own_command}
use Rattle.settle_answer_laws.proofs.WordsAfter.{IsListing, IsPair, alone_aside, alone_kept, at_start, fits_b, start}

-- ---- bytes that are put in

-- a function after the bytes of a write are put in
abbrev pub put_function : Write → Function → Function
put_function u f = if same_slot f.slot u.slot then record f { image = with_number u.width u.offset u.value f.image } else f

abbrev pub puts : Function → List Write → Function
puts f writes = fold (λ g u. put_function u g) f writes

put_elsewhere : (u : Write) (f : Function) → same_slot f.slot u.slot ≡ false → put_function u f ≡ f
put_elsewhere u f other = ap (λ b. if b then record f { image = with_number u.width u.offset u.value f.image } else f) other

-- a bit that no write sets is no address bit and no enable
plain_bit : (f : Function) (place i : ℕ) → place < 256 → i < 8 → may_set f place i ≡ false → (in_fields (address_fields f.image f.probe) place i ≡ false) × ((place == COMMAND && nat_lt i 2) ≡ false)
plain_bit f place i below small fixed = (
  false_from_ne_true _ (λ field. both_ways (may_set f place i) fixed (address_bits_writable f place i below small field)),
  false_from_ne_true _ (λ enables. both_ways (may_set f place i) fixed (enables_may f place i enables)),
)

-- A write that fits sets what it puts in.
module _ (g : Function) (is : IsImage g.image) (u : Write) (here : same_slot g.slot u.slot ≡ true) (fits : IsFitting u g) where
  abbrev number : List ℕ
  number = with_number u.width u.offset u.value g.image

  abbrev machine : List ℕ
  machine = written (target_of g) u.offset u.width u.value

  number_is : IsImage number
  number_is = with_image u.width u.offset u.value g.image is

  machine_is : IsImage machine
  machine_is = written_image (target_of g) u.offset u.width u.value is

  byte_in : (place : ℕ) → u.offset ≤ place → place < u.offset + u.width → byte_at number place ≡ u.value / 256 ^ (place - u.offset) % 256
  byte_in place from to =
      let at : u.offset + (place - u.offset) ≡ place = omega (arith, from) in
      let full = is.full in
      ap (byte_at number) (sym at) ∙ with_inside u.width u.offset u.value (place - u.offset) g.image (omega (arith, from, to)) (let end = fits.inside in omega (arith, full, end))

  bit_same : (place i : ℕ) → place < 256 → i < 8 → u.offset ≤ place → place < u.offset + u.width → bit_at (byte_at number place) i ≡ bit_at (byte_at machine place) i
  bit_same place i below small from to = ap (λ n. bit_at n i) (byte_in place from to) ∙ elim (cases_Bool (may_set g place i)) [
    | inl may ↦ datum_bit_at u.value (place - u.offset) i small ∙ sym (write_sets_writable_bits (target_of g) u.offset u.width u.value place i below small from to may)
    | inr fixed ↦
        let plain = plain_bit g place i below small fixed in
        fits.same place i from to small plain.0 plain.1 ∙ sym (write_keeps_other_bits (target_of g) u.offset u.width u.value place i below small fixed (fits.clears place i from to small))
  ]

  byte_same : (place : ℕ) → place < 256 → byte_at number place ≡ byte_at machine place
  byte_same place below = elim (cases_lt place u.offset) [
    | inl low ↦ outside (inl low)
    | inr from ↦ elim (cases_lt place (u.offset + u.width)) [
      | inr high ↦ outside (inr high)
      | inl to ↦ same_from_bits_below 8 (byte_at number place) (byte_at machine place) (number_is.bytes place) (machine_is.bytes place) (λ i small. bit_same place i below small from to)
    ]
  ]
    where
      outside : (place < u.offset) ⊎ (u.offset + u.width ≤ place) → byte_at number place ≡ byte_at machine place
      outside apart = with_elsewhere u.width u.offset u.value place g.image apart ∙ sym (byte_outside (target_of g) u.offset u.width u.value place below apart)

  image_same : with_number u.width u.offset u.value g.image ≡ machine
  image_same = ext_get_or 0 number machine (number_is.full ∙ sym machine_is.full) (λ place less. byte_same place (let full = number_is.full in omega (arith, full, less)))

  put_is_written : put_function u g ≡ write_function u g
  put_is_written =
      ap (λ b. if b then record g { image = with_number u.width u.offset u.value g.image } else g) here
      ∙ (λ i. record g { image = image_same i })
      ∙ sym (write_here u g here)

-- ---- a function, and what it is taken as

and_both : (place i : ℕ) → place ≡ 4 → i < 2 → (place == 4 && nat_lt i 2) ≡ true
and_both place i four less = λ t. eq-eqb place 4 four t && lt-ltb i 2 less t

module _ (f b : Function) (is : IsImage f.image) (shown : IsAs f b) (registers : AreRegistersKept f b) (u : Write) (fits : IsFitting u b) where
  abbrev c : ℕ
  c = command f.image

  known : IsCommandOf c f
  known = own_command f is

  f_clears : (place i : ℕ) → u.offset ≤ place → place < u.offset + u.width → i < 8 → has_bit (byte_at (clearing_bits f.image) place) i ≡ false
  f_clears place i from to small = ap (λ bits. has_bit (byte_at bits place) i) (sym (clears_same f b shown.kind shown.probe)) ∙ fits.clears place i from to small

  -- of Command
  module _ (at : u.offset ≡ 4) (wide : u.width ≡ 2) where
    command_kept : (place i : ℕ) → u.offset ≤ place → place < u.offset + u.width → i < 8 → (place == COMMAND && nat_lt i 2) ≡ false → bit_at (put_enables c u.value / 256 ^ (place - u.offset) % 256) i ≡ bit_at (byte_at f.image place) i
    command_kept place i from to small other =
        let j = place - u.offset in
        let place_is : 4 + j ≡ place = omega (arith, at, from) in
        let few : j < 2 = omega (arith, at, wide, from, to) in
        let above : 2 ≤ 8 * j + i = elim (cases_lt i 2) [
          | inr more ↦ omega (arith, more)
          | inl less ↦ elim (cases_lt j 1) [
            | inr later ↦ omega (arith, later)
            | inl first_byte ↦ (let four : place ≡ 4 = omega (arith, place_is, first_byte) in absurd (both_ways (place == 4 && nat_lt i 2) other (and_both place i four less)))
          ]
        ] in
        datum_bit_at (put_enables c u.value) j i small
        ∙ high_bit c u.value (8 * j + i) above
        ∙ known j i few small (ap (λ p. p == 4 && nat_lt i 2) place_is ∙ other)
        ∙ ap (λ p. bit_at (byte_at f.image p) i) place_is

    command_fits : IsFitting (put_write c u) f
    command_fits = subst (λ v. IsFitting v f) (sym (ap (λ t. if t then record u { value = put_enables c u.value } else u) (eq-eqb u.offset 4 at)))
        record { inside = fits.inside; same = λ place i from to small plain other. command_kept place i from to small other; clears = f_clears }

  -- of a register from 10h to 3Bh
  module _ (from_10 : 16 ≤ u.offset) (to_3b : u.offset + u.width ≤ 60) where
    as_it_is : put_write c u ≡ u
    as_it_is = ap (λ t. if t then record u { value = put_enables c u.value } else u) (ne_eqb u.offset 4 (λ e. omega (arith, e, from_10)))

    register_kept : (place i : ℕ) → u.offset ≤ place → place < u.offset + u.width → i < 8 → in_fields (address_fields f.image f.probe) place i ≡ false → (place == COMMAND && nat_lt i 2) ≡ false
        → bit_at (u.value / 256 ^ (place - u.offset) % 256) i ≡ bit_at (byte_at f.image place) i
    register_kept place i from to small plain other =
        fits.same place i from to small (ap (λ fields. in_fields fields place i) (fields_same f b shown.kind shown.probe) ∙ plain) other
        ∙ ap (λ n. bit_at n i) (registers place (omega (arith, from_10, from)) (omega (arith, to_3b, to)))

    register_fits : IsFitting (put_write c u) f
    register_fits = subst (λ v. IsFitting v f) (sym as_it_is) record { inside = fits.inside; same = register_kept; clears = f_clears }

  listed_fits : IsSettledWrite u → IsFitting (put_write c u) f
  listed_fits (inl (at, wide)) = command_fits at wide
  listed_fits (inr (from, to)) = register_fits from to

-- ---- a dump

module _ (u : Write) where
  image_put : (b : Block) → (block_after u b).image ≡ (if same_slot b.slot u.slot then with_number u.width u.offset u.value b.image else b.image)
  image_put b = elim (cases_Bool (same_slot b.slot u.slot)) [
    | inl here ↦ (λ i. (if here i then record b { image = with_number u.width u.offset u.value b.image } else b).image) ∙ sym (ap (λ t. if t then with_number u.width u.offset u.value b.image else b.image) here)
    | inr other ↦ (λ i. (if other i then record b { image = with_number u.width u.offset u.value b.image } else b).image) ∙ sym (ap (λ t. if t then with_number u.width u.offset u.value b.image else b.image) other)
  ]

  slot_put : (b : Block) → (block_after u b).slot ≡ b.slot
  slot_put b = elim (cases_Bool (same_slot b.slot u.slot)) [
    | inl here ↦ λ i. (if here i then record b { image = with_number u.width u.offset u.value b.image } else b).slot
    | inr other ↦ λ i. (if other i then record b { image = with_number u.width u.offset u.value b.image } else b).slot
  ]

  function_put : (f : Function) → put_function u f ≡ record { slot = f.slot; image = if same_slot f.slot u.slot then with_number u.width u.offset u.value f.image else f.image; probe = f.probe }
  function_put f = elim (cases_Bool (same_slot f.slot u.slot)) [
    | inl here ↦
        (λ i. if here i then record f { image = with_number u.width u.offset u.value f.image } else f)
        ∙ sym (λ i. record { slot = f.slot; image = if here i then with_number u.width u.offset u.value f.image else f.image; probe = f.probe })
    | inr other ↦
        (λ i. if other i then record f { image = with_number u.width u.offset u.value f.image } else f)
        ∙ sym (λ i. record { slot = f.slot; image = if other i then with_number u.width u.offset u.value f.image else f.image; probe = f.probe })
  ]

  block_put : (b p : Block) → function_of (block_after u b) p ≡ put_function u (function_of b p)
  block_put b p = (λ i. record { slot = slot_put b i; image = image_put b i; probe = p.image }) ∙ sym (function_put (function_of b p))

  blocks_put : (dump probe : List Block) → system_of (map (block_after u) dump) probe ≡ map (put_function u) (system_of dump probe)
  blocks_put [] probe = refl
  blocks_put (b ∷ dump) [] = refl
  blocks_put (b ∷ dump) (p ∷ probe) = λ i. block_put b p i ∷ blocks_put dump probe i

map_itself : (s : System) → map (λ (f : Function). f) s ≡ s
map_itself [] = refl
map_itself (f ∷ s) = ap (λ t. f ∷ t) (map_itself s)

map_twice : (a b : Function → Function) (s : System) → map a (map b s) ≡ map (λ f. a (b f)) s
map_twice a b [] = refl
map_twice a b (f ∷ s) = ap (λ t. a (b f) ∷ t) (map_twice a b s)

pub dump_put : (dump probe : List Block) (writes : List Write) → system_of (blocks_after dump writes) probe ≡ map (λ f. puts f writes) (system_of dump probe)
dump_put dump probe [] = sym (map_itself (system_of dump probe))
dump_put dump probe (u ∷ writes) =
    dump_put (map (block_after u) dump) probe writes
    ∙ ap (map (λ f. puts f writes)) (blocks_put u dump probe)
    ∙ map_twice (λ f. puts f writes) (put_function u) (system_of dump probe)

-- ---- a system

-- where each write fits the function at its slot
module _ (f : Function) (is : IsImage f.image) where
  each_put : (g : Function) → IsMoved f g → (writes : List Write) → ((u : Write) → Contains writes u → same_slot f.slot u.slot ≡ true → IsFitting u f) → puts g writes ≡ function_after g writes
  each_put g m [] fits = refl
  each_put g m (u ∷ writes) fits =
      let fit = fits u (in_head u writes) in
      let later : same_slot g.slot u.slot ≡ true → IsFitting u g = λ here. fitting_later u f g is m (fit (ap (λ x. same_slot x u.slot) (sym m.slot) ∙ here)) in
      ap (λ x. puts x writes) (one g m.image u later)
      ∙ each_put (write_function u g) (moved_trans f g (write_function u g) is m (write_moves u g m.image later)) writes (λ v has. fits v (in_tail u writes v has))
    where
      one : (g : Function) → IsImage g.image → (u : Write) → (same_slot g.slot u.slot ≡ true → IsFitting u g) → put_function u g ≡ write_function u g
      one g image u fit = elim (cases_Bool (same_slot g.slot u.slot)) [
        | inl here ↦ put_is_written g image u here (fit here)
        | inr other ↦ put_elsewhere u g other ∙ sym (write_elsewhere u g other)
      ]

each_same : (r : System) (writes : List Write) → ((f : Function) → Contains r f → puts f writes ≡ function_after f writes) → map (λ f. puts f writes) r ≡ map (λ f. function_after f writes) r
each_same [] writes same = refl
each_same (f ∷ r) writes same = let first = same f (in_head f r) in let rest = each_same r writes (λ g has. same g (in_tail f r g has)) in λ i. first i ∷ rest i

pub system_put : (dump probe : List Block) (writes : List Write) → IsSystem (system_of dump probe) → All (FitsAt (system_of dump probe)) writes → system_of (blocks_after dump writes) probe ≡ system_after (system_of dump probe) writes
system_put dump probe writes system fits =
    let s = system_of dump probe in
    dump_put dump probe writes
    ∙ each_same s writes (λ f has.
    let is = images_of s system f has in
    each_put f is f (moved_itself f is) writes (λ u in_u here. All-contains (FitsAt s) writes u fits in_u f has here))
    ∙ sym (system_by_function s writes)

module _ (w : Words) (slots : List Slot) (s : System) (system : IsSystem s) (listed : Write → Write) (writes : List Write) (listing : IsListing listed s) (settled : (u : Write) → Contains writes u → IsSettledWrite u) where
  pair_fits : (f h : Function) → IsPair w slots s system listed writes listing f h → (u : Write) → Contains writes u → same_slot f.slot u.slot ≡ true → IsFitting (listed u) f
  pair_fits f h pair u has here = elim pair.either [
    | inl alone ↦ absurd (both_ways (same_slot f.slot u.slot) (alone u has) here)
    | inr written ↦
        let a = alone_aside w s f in
        let t = at_start w slots s system listed writes listing f h pair written in
        let first = start w slots s system listed writes listing f h pair written a t in
        let fits = fits_b w slots s system listed writes listing f h pair written a t in
        let at : same_slot t.b.slot u.slot ≡ true = ap (λ x. same_slot x u.slot) first.slot ∙ here in
        subst (λ v. IsFitting v f) (sym (listing.own f pair.has u here))
        (listed_fits f t.b (images_of s system f pair.has) first (λ place from to. t.registers place from to ∙ alone_kept w s f place from to) u (fits u has at) (settled u has))
  ]

  -- the printed writes fit the functions of the dump
  pub printed_fit : (t : System) → AllZip (IsPair w slots s system listed writes listing) s t → All (FitsAt s) (map listed writes)
  printed_fit t pairs = All-weaker (Contains (map listed writes)) (FitsAt s) (λ v has f in_f here.
      let made = in_map_to listed writes v has in
      let u = made.from in
      let found = member_forth (IsPair w slots s system listed writes listing) s t pairs f in_f in
      subst (λ v. IsFitting v f) made.is (pair_fits f found.0 found.2 u made.has (ap (same_slot f.slot) (sym (listing.slot u) ∙ ap (λ (x : Write). x.slot) made.is) ∙ here)))
      (map listed writes) (All-contains_itself (map listed writes))
