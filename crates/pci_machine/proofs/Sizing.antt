-- The function that is sized, under the writes of sizing.
use Rattle.std.proofs.Common.{◌≡◌, ℕ, zero, suc, ◌+◌, ◌-◌, ◌*◌, ◌/◌, ◌%◌, ◌^◌, ◌<◌, bit_and, refl, true, List, Option, Some, inl, inr, arith, sym, ◌∙◌, ap, subst}
use Rattle.std.specs.Option.{unwrap_or}
use Rattle.std.proofs.lemmas.Bool.{cases_lt, lt-ltb}
use Rattle.std.proofs.lemmas.Nat.Bits.{and_high_mask}
use Rattle.std.proofs.lemmas.List.{ext_get_or, get_or_past}
use Rattle.pci_spec.specs.Number.{byte_at, number_at, IsImage}
use Rattle.std.specs.List.{position_or_len}
use Rattle.std.proofs.lemmas.Option.{get_or_from_slice_get, slice_get_within}
use Rattle.pci_spec.specs.Slot.{Slot, same_slot}
use Rattle.pci_spec.specs.Machine.{Target, write_targets, written, written_byte, byte_of_bits, written_bit}
use Rattle.pci_spec.specs.Port.{IsLawful, IsTarget, target_at, has_function, with_image, is_access, fits}
use Rattle.pci_spec.specs.Sizing.{function_at, no_target, DiffersWithin, IsPlain}
use Rattle.pci_base.proofs.Accesses.{width_cases}
use Rattle.pci_machine.proofs.Targets.{find-index, found_at, has_found, target_at-with_image, write-with_image, with_image-same, with_image-with_image}
use Rattle.pci_machine.proofs.Writes.{written_byte-inside, written_byte-below, written_byte-above, byte_at-written, length-written}
use Rattle.pci_machine.proofs.Bytes.{byte-put_back}

-- ---- the function at the slot

-- where there is a function, it is found
pub function_found : (targets : List Target) (slot : Slot) → has_function targets slot ≡ true → target_at targets slot ≡ Some (function_at targets slot)
function_found targets slot h =
    let some = found_at targets slot h in
    some.1 ∙ ap Some (sym (ap (λ (o : Option Target). unwrap_or o no_target) some.1))

-- the function that is found
pub function_at-is : (targets : List Target) (slot : Slot) (t : Target) → target_at targets slot ≡ Some t → function_at targets slot ≡ t
function_at-is targets slot t h = ap (λ (o : Option Target). unwrap_or o no_target) h

-- it has the other image
pub function_at-with_image : (targets : List Target) (slot : Slot) (image : List ℕ) → has_function targets slot ≡ true
    → function_at (with_image targets slot image) slot ≡ record (function_at targets slot) { image = image }
function_at-with_image targets slot image h =
    function_at-is (with_image targets slot image) slot (record (function_at targets slot) { image = image })
    (target_at-with_image targets slot (function_at targets slot) image (function_found targets slot h))

-- it is still there
pub has_function-with_image : (targets : List Target) (slot : Slot) (image : List ℕ) → has_function targets slot ≡ true → has_function (with_image targets slot image) slot ≡ true
has_function-with_image targets slot image h =
    has_found (with_image targets slot image) slot (record (function_at targets slot) { image = image })
    (target_at-with_image targets slot (function_at targets slot) image (function_found targets slot h))

-- a write to the function at the slot
pub write-function : (targets : List Target) (slot : Slot) (offset width value : ℕ) → IsLawful targets → has_function targets slot ≡ true
    → write_targets targets record { slot = slot; offset = offset; width = width; value = value } ≡ with_image targets slot (written (function_at targets slot) offset width value)
write-function targets slot offset width value lawful h =
    write-with_image targets (function_at targets slot) record { slot = slot; offset = offset; width = width; value = value } lawful (function_found targets slot h)

-- its own image again leaves all as it is
pub with_image-own : (targets : List Target) (slot : Slot) → IsLawful targets → has_function targets slot ≡ true → with_image targets slot (function_at targets slot).image ≡ targets
with_image-own targets slot lawful h = with_image-same targets slot (function_at targets slot) lawful (function_found targets slot h)

-- ---- numbers and their bytes

-- the bytes of four
digits_of_four : (a b c d j : ℕ) → a < 256 → b < 256 → c < 256 → d < 256 → (n : ℕ) → n ≡ a + b * 256 + c * 65536 + d * 16777216
    → (n % 256 ≡ a) × (n / 256 % 256 ≡ b) × (n / 65536 % 256 ≡ c) × (n / 16777216 % 256 ≡ d)
digits_of_four a b c d j ha hb hc hd n e = (omega arith, omega arith, omega arith, omega arith)

-- the byte of a number of one byte
digit_of_one : (image : List ℕ) (offset j : ℕ) → IsImage image → j < 1 → number_at image offset 1 / 256 ^ j % 256 ≡ byte_at image (offset + j)
digit_of_one image offset zero good h = let fits = good.bytes (offset + 0) in omega (arith, fits)
digit_of_one image offset (suc j) good h = absurd (let no : ⊥ = omega (arith, h) in no)

-- a byte of a number of two bytes
digit_of_two : (image : List ℕ) (offset j : ℕ) → IsImage image → j < 2 → number_at image offset 2 / 256 ^ j % 256 ≡ byte_at image (offset + j)
digit_of_two image offset zero good h = let a = good.bytes (offset + 0) in let b = good.bytes (offset + 1) in omega (arith, a, b)
digit_of_two image offset (suc zero) good h = let a = good.bytes (offset + 0) in let b = good.bytes (offset + 1) in omega (arith, a, b)
digit_of_two image offset (suc (suc j)) good h = absurd (let no : ⊥ = omega (arith, h) in no)

-- a byte of a number of four bytes
digit_of_four : (image : List ℕ) (offset j : ℕ) → IsImage image → j < 4 → number_at image offset 4 / 256 ^ j % 256 ≡ byte_at image (offset + j)
digit_of_four image offset zero good h =
    let digits = digits_of_four (byte_at image (offset + 0)) (byte_at image (offset + 1)) (byte_at image (offset + 2)) (byte_at image (offset + 3)) 0
    (good.bytes (offset + 0)) (good.bytes (offset + 1)) (good.bytes (offset + 2)) (good.bytes (offset + 3)) (number_at image offset 4) (omega arith) in
    omega (arith, digits.0)
digit_of_four image offset (suc zero) good h =
    (digits_of_four (byte_at image (offset + 0)) (byte_at image (offset + 1)) (byte_at image (offset + 2)) (byte_at image (offset + 3)) 0
    (good.bytes (offset + 0)) (good.bytes (offset + 1)) (good.bytes (offset + 2)) (good.bytes (offset + 3)) (number_at image offset 4) (omega arith)).1
digit_of_four image offset (suc (suc zero)) good h =
    (digits_of_four (byte_at image (offset + 0)) (byte_at image (offset + 1)) (byte_at image (offset + 2)) (byte_at image (offset + 3)) 0
    (good.bytes (offset + 0)) (good.bytes (offset + 1)) (good.bytes (offset + 2)) (good.bytes (offset + 3)) (number_at image offset 4) (omega arith)).2
digit_of_four image offset (suc (suc (suc zero))) good h =
    (digits_of_four (byte_at image (offset + 0)) (byte_at image (offset + 1)) (byte_at image (offset + 2)) (byte_at image (offset + 3)) 0
    (good.bytes (offset + 0)) (good.bytes (offset + 1)) (good.bytes (offset + 2)) (good.bytes (offset + 3)) (number_at image offset 4) (omega arith)).3
digit_of_four image offset (suc (suc (suc (suc j)))) good h = absurd (let no : ⊥ = omega (arith, h) in no)

-- the bytes of a number that is read are those of the image
pub digit_of_number : (image : List ℕ) (offset width j : ℕ) → IsImage image → is_access offset width ≡ true → j < width
    → number_at image offset width / 256 ^ j % 256 ≡ byte_at image (offset + j)
digit_of_number image offset width j good access h = elim (width_cases offset width access) [
  | inl one ↦ subst (λ w. number_at image offset w / 256 ^ j % 256 ≡ byte_at image (offset + j)) (sym one) (digit_of_one image offset j good (omega arith))
  | inr more ↦ elim more [
    | inl two ↦ subst (λ w. number_at image offset w / 256 ^ j % 256 ≡ byte_at image (offset + j)) (sym two) (digit_of_two image offset j good (omega arith))
    | inr four ↦ subst (λ w. number_at image offset w / 256 ^ j % 256 ≡ byte_at image (offset + j)) (sym four) (digit_of_four image offset j good (omega arith))
  ]
]

-- a number that is read fits its width
pub number-fits : (image : List ℕ) (offset width : ℕ) → IsImage image → is_access offset width ≡ true → fits width (number_at image offset width) ≡ true
number-fits image offset width good access =
    let a = good.bytes (offset + 0) in
    let b = good.bytes (offset + 1) in
    let c = good.bytes (offset + 2) in
    let d = good.bytes (offset + 3) in
    elim (width_cases offset width access) [
      | inl one ↦ subst (λ w. fits w (number_at image offset w) ≡ true) (sym one) (lt-ltb (number_at image offset 1) 256 (omega (arith, a)))
      | inr more ↦ elim more [
        | inl two ↦ subst (λ w. fits w (number_at image offset w) ≡ true) (sym two) (lt-ltb (number_at image offset 2) 65536 (omega (arith, a, b)))
        | inr four ↦ subst (λ w. fits w (number_at image offset w) ≡ true) (sym four) (lt-ltb (number_at image offset 4) 4294967296 (omega (arith, a, b, c, d)))
      ]
    ]

-- the function at the slot is lawful
pub target-there : (targets : List Target) (slot : Slot) → IsLawful targets → has_function targets slot ≡ true → IsTarget (function_at targets slot)
target-there targets slot lawful h =
    let index = find-index (λ t. same_slot t.slot slot) targets (function_at targets slot) (function_found targets slot h) in
    let k = position_or_len (λ t. same_slot t.slot slot) targets in
    subst IsTarget (get_or_from_slice_get targets k (function_at targets slot) (function_at targets slot) index)
    (lawful.each k (function_at targets slot) (slice_get_within targets k (function_at targets slot) index))

-- ---- a value written and the old one put back

module _ (t : Target) (offset width value : ℕ) (good : IsImage t.image) (access : is_access offset width ≡ true) (plain : IsPlain t offset width) where
  -- each byte is as it was
  put_back_byte : (place : ℕ) → place < 256 → written_byte (record t { image = written t offset width value }) offset width (number_at t.image offset width) place ≡ byte_at t.image place
  put_back_byte place below = elim (cases_lt place offset) [
    | inl before ↦
        written_byte-below (record t { image = written t offset width value }) offset width (number_at t.image offset width) place before
        ∙ byte_at-written t offset width value place below ∙ written_byte-below t offset width value place before
    | inr from ↦ elim (cases_lt place (offset + width)) [
      | inr after ↦
          written_byte-above (record t { image = written t offset width value }) offset width (number_at t.image offset width) place after
          ∙ byte_at-written t offset width value place below ∙ written_byte-above t offset width value place after
      | inl inside ↦
          let w = byte_at t.writable place in
          let b = byte_at t.image place in
          let d = value / 256 ^ (place - offset) % 256 in
          let clear : byte_at t.clearing place ≡ 0 = plain place from inside in
          let first : byte_at (written t offset width value) place ≡ byte_of_bits (written_bit w 0 b d) =
          byte_at-written t offset width value place below ∙ written_byte-inside t offset width value place from inside ∙ ap (λ c. byte_of_bits (written_bit w c b d)) clear in
          let datum : number_at t.image offset width / 256 ^ (place - offset) % 256 ≡ b =
          digit_of_number t.image offset width (place - offset) good access (omega arith) ∙ ap (byte_at t.image) (let e : offset + (place - offset) ≡ place = omega arith in e) in
          written_byte-inside (record t { image = written t offset width value }) offset width (number_at t.image offset width) place from inside
          ∙ ap (λ c. byte_of_bits (written_bit w c (byte_at (written t offset width value) place) (number_at t.image offset width / 256 ^ (place - offset) % 256))) clear
          ∙ ap (λ n. byte_of_bits (written_bit w 0 n (number_at t.image offset width / 256 ^ (place - offset) % 256))) first
          ∙ ap (λ n. byte_of_bits (written_bit w 0 (byte_of_bits (written_bit w 0 b d)) n)) datum
          ∙ byte-put_back w b d (good.bytes place)
    ]
  ]

  -- the configuration space is as it was
  pub put_back : written (record t { image = written t offset width value }) offset width (number_at t.image offset width) ≡ t.image
  put_back =
      let full = length-written (record t { image = written t offset width value }) offset width (number_at t.image offset width) in
      ext_get_or 0 (written (record t { image = written t offset width value }) offset width (number_at t.image offset width)) t.image (full ∙ sym good.full)
      (λ place below.
      let inside : place < 256 = omega (arith, full, below) in
      byte_at-written (record t { image = written t offset width value }) offset width (number_at t.image offset width) place inside ∙ put_back_byte place inside)

-- a write changes no other bytes
pub differs-written : (t : Target) (offset width value : ℕ) → IsImage t.image → DiffersWithin offset width t.image (written t offset width value)
differs-written t offset width value good = record {
  full = length-written t offset width value ∙ sym good.full;
  outside = λ place apart. elim (cases_lt place 256) [
    | inl below ↦ byte_at-written t offset width value place below ∙ elim apart [
      | inl before ↦ written_byte-below t offset width value place before
      | inr after ↦ written_byte-above t offset width value place after
    ]
    | inr past ↦
        let full = length-written t offset width value in
        let own = good.full in
        get_or_past (written t offset width value) place 0 (omega (arith, full, past)) ∙ sym (get_or_past t.image place 0 (omega (arith, own, past)))
  ];
}

-- an image differs nowhere from itself
differs-same : (offset width : ℕ) (image : List ℕ) → DiffersWithin offset width image image
differs-same offset width image = record { full = refl; outside = λ place apart. refl }

-- what is left where nothing was written to a register, and where a value was
pub left-same : (targets new : List Target) (slot : Slot) (offset width : ℕ) → IsLawful targets → has_function targets slot ≡ true → new ≡ targets
    → (image : List ℕ) × (new ≡ with_image targets slot image) × DiffersWithin offset width (function_at targets slot).image image
left-same targets new slot offset width lawful h e =
    ((function_at targets slot).image, e ∙ sym (with_image-own targets slot lawful h), differs-same offset width (function_at targets slot).image)

-- and where a value was
pub left-written : (targets new : List Target) (slot : Slot) (offset width value : ℕ) → IsLawful targets → has_function targets slot ≡ true
    → new ≡ with_image targets slot (written (function_at targets slot) offset width value)
    → (image : List ℕ) × (new ≡ with_image targets slot image) × DiffersWithin offset width (function_at targets slot).image image
left-written targets new slot offset width value lawful h e =
    (written (function_at targets slot) offset width value, e, differs-written (function_at targets slot) offset width value (target-there targets slot lawful h).image)

-- a write as it is seen from a state that is the same
pub written_from : (targets here new : List Target) (slot : Slot) (offset width value : ℕ) → here ≡ targets → new ≡ with_image here slot (written (function_at here slot) offset width value)
    → new ≡ with_image targets slot (written (function_at targets slot) offset width value)
written_from targets here new slot offset width value same e = e ∙ ap (λ xs. with_image xs slot (written (function_at xs slot) offset width value)) same

-- all is as it was once the old value is put back
pub restored : (targets changed new : List Target) (slot : Slot) (offset width value old : ℕ) → IsLawful targets → has_function targets slot ≡ true
    → is_access offset width ≡ true → IsPlain (function_at targets slot) offset width
    → changed ≡ with_image targets slot (written (function_at targets slot) offset width value) → old ≡ number_at (function_at targets slot).image offset width
    → new ≡ with_image changed slot (written (function_at changed slot) offset width old) → new ≡ targets
restored targets changed new slot offset width value old lawful h access plain first is second =
    let t = function_at targets slot in
    let image = written t offset width value in
    let function : function_at changed slot ≡ record t { image = image } = ap (λ xs. function_at xs slot) first ∙ function_at-with_image targets slot image h in
    let back : written (function_at changed slot) offset width old ≡ t.image =
    ap (λ (u : Target). written u offset width old) function ∙ ap (λ n. written (record t { image = image }) offset width n) is
    ∙ put_back t offset width value (target-there targets slot lawful h).image access plain in
    second ∙ ap (with_image changed slot) back ∙ ap (λ xs. with_image xs slot t.image) first ∙ with_image-with_image targets slot image t.image
    ∙ with_image-own targets slot lawful h

-- ---- Command

-- Command without its decode bits
pub quiet_number : (n : ℕ) → n < 65536 → bit_and n (65535 - 3) ≡ n / 4 * 4
quiet_number n h = and_high_mask 16 2 (omega arith) n h
