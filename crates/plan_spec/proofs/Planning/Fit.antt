-- A write that fits moves a function, and a list of such writes a system.
use Rattle.std.proofs.Common.{◌≡◌, ℕ, zero, suc, ◌+◌, ◌-◌, ◌/◌, ◌%◌, ◌^◌, ◌<◌, inl, inr, List, [], ◌∷◌, refl, true, false, cond, ◌&&◌, arith, sym, ◌∙◌, ap, subst, length, take}
use Rattle.std.specs.Bool.{IsFalse, ◌==◌}
use Rattle.std.specs.List.{Contains, AllZip, All}
use Rattle.std.specs.Int.{bit_at}
use Rattle.std.proofs.lemmas.Bool.{cases_lt, cases_Bool}
use Rattle.std.proofs.lemmas.List.{get_or_past}
use Rattle.std.proofs.lemmas.List.FromFn.{length-map-range_with_len}
use Rattle.std.proofs.lemmas.List.Elements.{All-head, All-tail}
use Rattle.pci_spec.specs.Number.{byte_at, number_at, has_bit, IsImage}
use Rattle.pci_spec.specs.Slot.{same_slot}
use Rattle.pci_spec.specs.Header.{layout, rom_register}
use Rattle.pci_spec.specs.System.{System, Function}
use Rattle.pci_spec.specs.Machine.{Target, Write, in_fields, address_fields, byte_of_bits, written_bit, written_byte, written, target_of, bytes_of_bits, clearing_by, write_function, write_system, system_after, clearing_bits, writable_bits}
use Rattle.plan_spec.specs.Plan.{IsMoved}
use Rattle.pci_spec.proofs.Bits.{digit, digit_of_bit, bit_at-number_of_bits, number_of_bits-lt}
use Rattle.plan_spec.specs.Planning.Fitting.{IsFitting, FitsAt}
use Rattle.plan_spec.proofs.Planning.Moved.{kind_fields, layout_same}
use Rattle.pci_spec.proofs.Pairs.{member_back}
use Rattle.plan_spec.proofs.Planning.Writes.{write_elsewhere, write_here, byte_outside, byte_inside}

-- ---- after a write there are 256 bytes

long : (t : Target) (offset width value : ℕ) → length (written t offset width value) ≡ 256
unfolding written
long t offset width value = length-map-range_with_len (written_byte t offset width value) 0 256

pub written_image : (t : Target) (offset width value : ℕ) → IsImage t.image → IsImage (written t offset width value)
written_image t offset width value is = record {
  full = long t offset width value;
  bytes = λ place. elim (cases_lt place 256) [
    | inr past ↦
        let e = get_or_past (written t offset width value) place 0 (let l = long t offset width value in omega (arith, l, past)) in
        let P : ℕ → Type 0 = λ n. n < 256 in
        subst P (sym e) (omega arith)
    | inl inside ↦
        let P : ℕ → Type 0 = λ n. n < 256 in
        elim (cases_lt place offset) [
          | inl before ↦ subst P (sym (byte_outside t offset width value place inside (inl before))) (is.bytes place)
          | inr from ↦ elim (cases_lt place (offset + width)) [
            | inr after ↦ subst P (sym (byte_outside t offset width value place inside (inr after))) (is.bytes place)
            | inl to ↦ subst P (sym (byte_inside t offset width value place inside from to))
                (number_of_bits-lt 8 (written_bit (byte_at t.writable place) (byte_at t.clearing place) (byte_at t.image place) (value / 256 ^ (place - offset) % 256)))
          ]
        ]
  ];
}

-- ---- one function

pub moved_itself : (f : Function) → IsImage f.image → IsMoved f f
moved_itself f is = record { slot = refl; probe = refl; image = is; same = λ offset i inside bit plain other. refl }

bit_kept : (writable clearing old datum i : ℕ) → i < 8 → has_bit clearing i ≡ false → bit_at datum i ≡ bit_at old i → bit_at (byte_of_bits (written_bit writable clearing old datum)) i ≡ bit_at old i
bit_kept writable clearing old datum i small dark same =
    bit_at-number_of_bits 8 (written_bit writable clearing old datum) i small
    ∙ elim (cases_Bool (has_bit writable i)) [
      | inl may ↦ ap (λ b. digit (cond b (has_bit datum i) (cond (has_bit clearing i && has_bit datum i) false (has_bit old i)))) may ∙ digit_of_bit datum i ∙ same
      | inr fixed ↦
          ap (λ b. digit (cond b (has_bit datum i) (cond (has_bit clearing i && has_bit datum i) false (has_bit old i)))) fixed
          ∙ ap (λ b. digit (cond (b && has_bit datum i) false (has_bit old i))) dark
          ∙ digit_of_bit old i
    ]

pub fitting_moves : (w : Write) (f : Function) → IsImage f.image → IsFitting w f → IsMoved f (record f { image = written (target_of f) w.offset w.width w.value })
fitting_moves w f is fits = record {
  slot = refl;
  probe = refl;
  image = written_image (target_of f) w.offset w.width w.value is;
  same = λ place i inside small plain other. elim (cases_lt place w.offset) [
    | inl before ↦ ap (λ n. bit_at n i) (byte_outside (target_of f) w.offset w.width w.value place inside (inl before))
    | inr from ↦ elim (cases_lt place (w.offset + w.width)) [
      | inr after ↦ ap (λ n. bit_at n i) (byte_outside (target_of f) w.offset w.width w.value place inside (inr after))
      | inl to ↦
          ap (λ n. bit_at n i) (byte_inside (target_of f) w.offset w.width w.value place inside from to)
          ∙ bit_kept (byte_at (writable_bits f.image f.probe) place) (byte_at (clearing_bits f.image) place) (byte_at f.image place) (w.value / 256 ^ (place - w.offset) % 256) i small
          (fits.clears place i from to small) (fits.same place i from to small plain other)
    ]
  ];
}

pub write_moves : (w : Write) (f : Function) → IsImage f.image → (same_slot f.slot w.slot ≡ true → IsFitting w f) → IsMoved f (write_function w f)
write_moves w f is fits = elim (cases_Bool (same_slot f.slot w.slot)) [
  | inl here ↦ subst (λ (g : Function). IsMoved f g) (sym (write_here w f here)) (fitting_moves w f is (fits here))
  | inr other ↦ subst (λ (g : Function). IsMoved f g) (sym (write_elsewhere w f other)) (moved_itself f is)
]

-- moved images have the same address bits
same_fields_of : (f g : Function) → IsMoved f g → IsImage f.image → address_fields g.image g.probe ≡ address_fields f.image f.probe
same_fields_of f g m is =
    ap (λ p. address_fields g.image p) m.probe
    ∙ ap (λ k. kind_fields (k == 1) f.probe (number_at f.probe (rom_register k) 4)) (layout_same f g m is)

pub moved_trans : (f g h : Function) → IsImage f.image → IsMoved f g → IsMoved g h → IsMoved f h
moved_trans f g h is m n = record {
  slot = n.slot ∙ m.slot;
  probe = n.probe ∙ m.probe;
  image = n.image;
  same = λ place i inside small plain other.
      n.same place i inside small (ap (λ fields. in_fields fields place i) (same_fields_of f g m is) ∙ plain) other ∙ m.same place i inside small plain other;
}

-- ---- a system

pub system_moves : (w : Write) (s : System) → ((f : Function) → Contains s f → IsImage f.image) → ((f : Function) → Contains s f → same_slot f.slot w.slot ≡ true → IsFitting w f)
    → AllZip IsMoved s (write_system s w)
system_moves w [] images fits = tt
system_moves w (f ∷ s) images fits = (
  write_moves w f (images f (0, omega arith, refl)) (fits f (0, omega arith, refl)),
  system_moves w s (λ g listed. images g (suc listed.0, (let l = listed.1 in omega (arith, l)), listed.2)) (λ g listed. fits g (suc listed.0, (let l = listed.1 in omega (arith, l)), listed.2)),
)

pub system_trans : (r s t : System) → ((f : Function) → Contains r f → IsImage f.image) → AllZip IsMoved r s → AllZip IsMoved s t → AllZip IsMoved r t
system_trans [] [] [] images a b = tt
system_trans [] [] (z ∷ t) images a b = absurd b
system_trans [] (y ∷ s) t images a b = absurd a
system_trans (x ∷ r) [] t images a b = absurd a
system_trans (x ∷ r) (y ∷ s) [] images a b = absurd b
system_trans (x ∷ r) (y ∷ s) (z ∷ t) images (a, as_rest) (b, bs_rest) = (
  moved_trans x y z (images x (0, omega arith, refl)) a b,
  system_trans r s t (λ g listed. images g (suc listed.0, (let l = listed.1 in omega (arith, l)), listed.2)) as_rest bs_rest,
)

-- ---- writes that fit the start fit what comes of it

pub clearing_same : (f g : Function) → layout g.image ≡ layout f.image → clearing_bits g.image ≡ clearing_bits f.image
unfolding clearing_bits
clearing_same f g e = ap (λ k. bytes_of_bits (in_fields (clearing_by (k == 1)))) e

pub fitting_later : (w : Write) (f g : Function) → IsImage f.image → IsMoved f g → IsFitting w f → IsFitting w g
fitting_later w f g is m fits = record {
  inside = fits.inside;
  same = λ place i from to small plain other.
      let was : IsFalse (in_fields (address_fields f.image f.probe) place i) = ap (λ fields. in_fields fields place i) (sym (same_fields_of f g m is)) ∙ plain in
      fits.same place i from to small was other ∙ sym (m.same place i (let r = fits.inside in omega (arith, r, to)) small was other);
  clears = λ place i from to small. ap (λ c. has_bit (byte_at c place) i) (clearing_same f g (layout_same f g m is)) ∙ fits.clears place i from to small;
}

pub after_moved : (s t : System) (writes : List Write) → ((f : Function) → Contains s f → IsImage f.image) → All (FitsAt s) writes → AllZip IsMoved s t → (k : ℕ) → AllZip IsMoved s (system_after t (take k writes))
after_moved s t [] images fits moved zero = moved
after_moved s t [] images fits moved (suc k) = moved
after_moved s t (w ∷ writes) images fits moved zero = moved
after_moved s t (w ∷ writes) images fits moved (suc k) =
    after_moved s (write_system t w) writes images (All-tail (FitsAt s) w writes fits)
    (system_trans s t (write_system t w) images moved
    (system_moves w t
    (λ g listed. (member_back IsMoved s t moved g listed).2.image)
    (λ g listed here.
    let found = member_back IsMoved s t moved g listed in
    let f = found.0 in
    let m = found.2 in
    fitting_later w f g (images f found.1) m (All-head (FitsAt s) w writes fits f found.1 (ap (λ slot. same_slot slot w.slot) (sym m.slot) ∙ here)))))
    k

pub moved_start : (s : System) → ((f : Function) → Contains s f → IsImage f.image) → AllZip IsMoved s s
moved_start [] images = tt
moved_start (f ∷ s) images = (moved_itself f (images f (0, omega arith, refl)), moved_start s (λ g listed. images g (suc listed.0, (let l = listed.1 in omega (arith, l)), listed.2)))
