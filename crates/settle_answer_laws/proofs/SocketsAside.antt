-- Writes to a CardBus bridge that is taken as a device without registers.
use Rattle.std.proofs.Common.{◌≡◌, ◌⊎◌, ℕ, zero, suc, ◌+◌, ◌*◌, ◌/◌, ◌%◌, ◌<◌, ◌≤◌, List, set, Bool, true, false, ◌&&◌, ◌||◌, inl, inr, refl, sym, ◌∙◌, ap, subst, arith}
use Rattle.std.specs.Bool.{nat_le, nat_lt, ◌==◌, if◌then◌else◌}
use Rattle.std.proofs.lemmas.Bool.{and_from, and_parts, both_ways, cases_eq, cases_lt, eqb-true, eq-eqb, le-leb, leb-true, lt-ltb, ltb-true, or_cases, or_left, or_parts, or_right}
use Rattle.std.proofs.lemmas.List.{get_or-set_other, get_or-set_same, length-set}
use Rattle.pci_spec.specs.Number.{byte_at, number_at, IsImage}
use Rattle.pci_spec.specs.Header.{bar_register, layout}
use Rattle.pci_spec.specs.Registers.{EXPANSION_ROM, HEADER_TYPE, STATUS}
use Rattle.pci_spec.specs.Bar.{bar_at}
use Rattle.pci_spec.specs.Rom.{rom_at}
use Rattle.pci_spec.specs.System.{Function, is_bridge}
use Rattle.pci_spec.specs.Machine.{address_fields, in_fields}
use Rattle.plan_spec.proofs.Planning.Moved.{kind_fields}
use Rattle.judge_spec.specs.Bytes.{as_bare_device, cleared, without_registers}
use Rattle.judge_spec.specs.Taken.{without_socket}
use Rattle.judge_spec.proofs.Changes.{bare_is_device}
use Rattle.settle_answer_laws.proofs.DeviceFields.{no_fields, same_fields, same_writable}
use Rattle.settle_answer_laws.proofs.Stripped.{AreBoth, IsStripped, one_stripped}
use Rattle.settle_answer_laws.proofs.WithoutRegisters.{IsBeside, IsOfRegister, number_zero, without_agrees, without_zero}

-- ---- bytes

set_image : (image : List ℕ) (at v : ℕ) → IsImage image → at < 256 → v < 256 → IsImage (set image at v)
set_image image at v is inside small = record {
  full = length-set image at v ∙ is.full;
  bytes = λ k. elim (cases_eq k at) [
    | inl here ↦ (let full = is.full in subst (λ n. n < 256) (sym (ap (byte_at (set image at v)) here ∙ get_or-set_same image at v 0 (omega (arith, full, inside)))) small)
    | inr away ↦ subst (λ n. n < 256) (sym (get_or-set_other image at k v 0 away)) (is.bytes k)
  ];
}

pub cleared_image : (offset count : ℕ) (image : List ℕ) → IsImage image → offset + count ≤ 256 → IsImage (cleared offset count image)
cleared_image offset zero image is inside = is
cleared_image offset (suc count) image is inside = set_image (cleared offset count image) (offset + count) 0 (cleared_image offset count image is (omega (arith, inside))) (omega (arith, inside)) (omega arith)

without_image : (image : List ℕ) → IsImage image → IsImage (without_registers image)
without_image image is = cleared_image 48 4 (cleared 16 24 image) (cleared_image 16 24 image is (omega arith)) (omega arith)

-- Status without a list, and Header Type of a device
status_of : ℕ → ℕ
status_of n = n / 32 * 32 + n % 16

module _ (image : List ℕ) (is : IsImage image) where
  abbrev bare : List ℕ
  bare = without_registers image

  abbrev put : List ℕ
  put = set bare HEADER_TYPE (byte_at image HEADER_TYPE / 128 * 128)

  bare_is : IsImage bare
  bare_is = without_image image is

  header_small : byte_at image HEADER_TYPE / 128 * 128 < 256
  header_small = let small = is.bytes HEADER_TYPE in omega (arith, small)

  put_is : IsImage put
  put_is = set_image bare HEADER_TYPE _ bare_is (omega arith) header_small

  socket_image : IsImage (as_bare_device image)
  socket_image = set_image put STATUS _ put_is (omega arith) (let small = put_is.bytes STATUS in omega (arith, small))

  at_status : byte_at (as_bare_device image) STATUS ≡ byte_at image STATUS / 32 * 32 + byte_at image STATUS % 16
  at_status =
      let was : byte_at put STATUS ≡ byte_at image STATUS = get_or-set_other bare HEADER_TYPE STATUS _ 0 (λ e. cc e) ∙ without_agrees image STATUS (inl (omega arith)) in
      get_or-set_same put STATUS _ 0 (let full = put_is.full in omega (arith, full)) ∙ ap (λ n. n / 32 * 32 + n % 16) was

  at_header : byte_at (as_bare_device image) HEADER_TYPE ≡ byte_at image HEADER_TYPE / 128 * 128
  at_header =
      get_or-set_other put STATUS HEADER_TYPE _ 0 (λ e. cc e)
      ∙ get_or-set_same bare HEADER_TYPE _ 0 (let full = bare_is.full in omega (arith, full))

  at_other : (k : ℕ) → (k ≡ STATUS → ⊥) → (k ≡ HEADER_TYPE → ⊥) → byte_at (as_bare_device image) k ≡ byte_at bare k
  at_other k status header = get_or-set_other put STATUS k _ 0 status ∙ get_or-set_other bare HEADER_TYPE k _ 0 header

-- ---- which bytes differ

abbrev in_registers : ℕ → Bool
in_registers k = (nat_le 16 k && nat_lt k 40) || (nat_le 48 k && nat_lt k 52)

abbrev pub socket_out : ℕ → Bool
socket_out k = k == 6 || (k == 14 || in_registers k)

of_register : (k : ℕ) → in_registers k ≡ true → IsOfRegister k
of_register k is = elim (or_cases _ _ is) [
  | inl bar ↦ (let parts = and_parts (nat_le 16 k) (nat_lt k 40) bar in inl (leb-true 16 k parts.0, ltb-true k 40 parts.1))
  | inr rom ↦ (let parts = and_parts (nat_le 48 k) (nat_lt k 52) rom in inr (leb-true 48 k parts.0, ltb-true k 52 parts.1))
]

beside_registers : (k : ℕ) → in_registers k ≡ false → IsBeside k
beside_registers k none = elim (cases_lt k 16) [
  | inl low ↦ inl low
  | inr a ↦ elim (cases_lt k 40) [
    | inl b ↦ absurd (both_ways _ none (or_left _ _ (and_from _ _ (le-leb 16 k a) (lt-ltb k 40 b))))
    | inr c ↦ elim (cases_lt k 48) [
      | inl d ↦ inr (inl (c, d))
      | inr e ↦ elim (cases_lt k 52) [ inl g ↦ absurd (both_ways _ none (or_right _ _ (and_from _ _ (le-leb 48 k e) (lt-ltb k 52 g)))) | inr high ↦ inr (inr high) ]
    ]
  ]
]

-- a byte that stays
record IsSocketBeside (k : ℕ) : Type 0 where
  status : k ≡ 6 → ⊥
  header : k ≡ 14 → ⊥
  beside : IsBeside k

socket_beside : (k : ℕ) → socket_out k ≡ false → IsSocketBeside k
socket_beside k none =
    let one = or_parts (k == 6) (k == 14 || in_registers k) none in
    let two = or_parts (k == 14) (in_registers k) one.1 in
    record { status = λ e. both_ways (k == 6) one.0 (eq-eqb k 6 e); header = λ e. both_ways (k == 14) two.0 (eq-eqb k 14 e); beside = beside_registers k two.1 }

-- one that doesn't, by what it is
socket_cases : (k : ℕ) → socket_out k ≡ true → (k ≡ 6) ⊎ ((k ≡ 14) ⊎ IsOfRegister k)
socket_cases k is = elim (or_cases (k == 6) (k == 14 || in_registers k) is) [
  | inl status ↦ inl (eqb-true k 6 status)
  | inr more ↦ elim (or_cases (k == 14) (in_registers k) more) [ inl header ↦ inr (inl (eqb-true k 14 header)) | inr register ↦ inr (inr (of_register k register)) ]
]

bare_bar : (probe : List ℕ) (n : ℕ) → n < 6 → bar_at (without_registers probe) n ≡ 0
bare_bar probe n small = number_zero 4 (bar_register n) (without_registers probe) (λ j less. without_zero probe (bar_register n + j) (inl (omega arith, omega (arith, small, less))))

bare_rom : (probe : List ℕ) → number_at (without_registers probe) EXPANSION_ROM 4 ≡ 0
bare_rom probe = number_zero 4 EXPANSION_ROM (without_registers probe) (λ j less. without_zero probe (EXPANSION_ROM + j) (inr (omega arith, omega (arith, less))))

-- a byte beside is in no BAR, and not in the ROM's register
no_bar_at : (k n : ℕ) → IsBeside k → n < 6 → bar_register n ≤ k → k < bar_register n + 4 → ⊥
no_bar_at k n (inl low) small from to = omega (arith, low, from)
no_bar_at k n (inr (inl (a, b))) small from to = omega (arith, a, small, to)
no_bar_at k n (inr (inr high)) small from to = omega (arith, high, small, to)

no_rom_at : (k : ℕ) → IsBeside k → 48 ≤ k → k < 52 → ⊥
no_rom_at k (inl low) from to = omega (arith, low, from)
no_rom_at k (inr (inl (a, b))) from to = omega (arith, b, from)
no_rom_at k (inr (inr high)) from to = omega (arith, high, to)

module _ (b : Function) (is : IsImage b.image) (socket : layout b.image ≡ 2) where
  abbrev h : Function
  h = without_socket b

  device_b : is_bridge b ≡ false
  device_b = ap (λ n. n == 1) socket

  device_h : is_bridge h ≡ false
  device_h = ap (λ n. n == 1) (bare_is_device b.image)

  fields_of : (f : Function) → is_bridge f ≡ false → (place i : ℕ) → in_fields (address_fields f.image f.probe) place i ≡ in_fields (kind_fields false f.probe (rom_at f.image f.probe)) place i
  fields_of f device place i = λ j. in_fields (kind_fields (device j) f.probe (rom_at f.image f.probe)) place i

  pub socket_stripped : IsStripped socket_out b h
  socket_stripped = record {
    slot = refl;
    image = socket_image b.image is;
    before = device_b;
    after = device_h;
    same = λ place inside out.
        let beside = socket_beside place out in
        at_other b.image is place beside.status beside.header ∙ without_agrees b.image place beside.beside;
    fields = λ place i out.
        let beside = (socket_beside place out).beside in
        fields_of h device_h place i
        ∙ same_fields place i b.probe h.probe (λ n small from to. absurd (no_bar_at place n beside small from to)) (rom_at b.image b.probe) (rom_at h.image h.probe) (λ from to. absurd (no_rom_at place beside from to))
        ∙ sym (fields_of b device_b place i);
    writable = λ place i out.
        let beside = (socket_beside place out).beside in
        same_writable place i b.probe h.probe (λ n small from to. absurd (no_bar_at place n beside small from to)) (λ from to. absurd (no_rom_at place beside from to));
    command = (refl, refl);
    registers = λ r listed at from to out place i low high small.
        fields_of h device_h place i
        ∙ no_fields place i h.probe (rom_at h.image h.probe) (λ n less one other. bare_bar b.probe n less)
        (λ one other. ap (λ bridge. number_at h.probe (if bridge then 0x38 else 0x30) 4) device_h ∙ bare_rom b.probe);
  }

  -- so is what was written
  pub socket_after : (g k : Function) → AreBoth socket_out b h is socket_stripped g k → k ≡ without_socket g
  socket_after g k state =
      one_stripped socket_out b h is socket_stripped g k (without_socket g) state refl (ap without_registers state.b_moved.probe) (socket_image g.image state.b_moved.image)
      (λ place inside out.
      let beside = socket_beside place out in
      at_other g.image state.b_moved.image place beside.status beside.header ∙ without_agrees g.image place beside.beside)
      (λ place inside out. kept place inside out (socket_cases place out))
    where
      kept : (place : ℕ) → place < 256 → socket_out place ≡ true → (place ≡ 6) ⊎ ((place ≡ 14) ⊎ IsOfRegister place) → byte_at (as_bare_device g.image) place ≡ byte_at (as_bare_device b.image) place
      kept place inside out (inl status) =
          let was = sym (ap (byte_at g.image) status) ∙ state.b_kept place inside out ∙ ap (byte_at b.image) status in
          ap (byte_at (as_bare_device g.image)) status
          ∙ at_status g.image state.b_moved.image
          ∙ ap (λ n. n / 32 * 32 + n % 16) was
          ∙ sym (at_status b.image is)
          ∙ sym (ap (byte_at (as_bare_device b.image)) status)
      kept place inside out (inr (inl header)) =
          let was = sym (ap (byte_at g.image) header) ∙ state.b_kept place inside out ∙ ap (byte_at b.image) header in
          ap (byte_at (as_bare_device g.image)) header
          ∙ at_header g.image state.b_moved.image
          ∙ ap (λ n. n / 128 * 128) was
          ∙ sym (at_header b.image is)
          ∙ sym (ap (byte_at (as_bare_device b.image)) header)
      kept place inside out (inr (inr register)) =
          let status : place ≡ 6 → ⊥ = λ e. early register e (omega arith) in
          let header : place ≡ 14 → ⊥ = λ e. early register e (omega arith) in
          at_other g.image state.b_moved.image place status header ∙ without_zero g.image place register
          ∙ sym (at_other b.image is place status header ∙ without_zero b.image place register)
        where
          early : {n : ℕ} → IsOfRegister place → place ≡ n → n < 16 → ⊥
          early (inl (from, to)) e small = omega (arith, from, e, small)
          early (inr (from, to)) e small = omega (arith, from, e, small)
