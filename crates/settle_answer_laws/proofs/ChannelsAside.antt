-- Writes to an IDE controller that is taken without the BARs of channels in compatibility mode.
use Rattle.std.proofs.Common.{◌≡◌, ◌⊎◌, ℕ, zero, suc, ◌+◌, ◌*◌, ◌-◌, ◌%◌, ◌<◌, ◌≤◌, List, [], ◌∷◌, length, map, Bool, true, false, ◌&&◌, ◌||◌, not, inl, inr, refl, sym, ◌∙◌, ap, subst, arith}
use Rattle.std.specs.Bool.{nat_le, nat_lt, ◌==◌, if◌then◌else◌}
use Rattle.std.specs.List.{Contains, filter, list_any, range_with_len}
use Rattle.std.proofs.lemmas.Bool.{and_from, and_parts, and_right, both_ways, cases_Bool, cases_eq, cases_lt, eqb-true, false_from_ne_true, le-leb, le-ltb, leb-true, lt-leb, lt-ltb, ltb-true, or_cases, or_parts}
use Rattle.std.proofs.lemmas.List.{ext_get_or}
use Rattle.pci_spec.specs.Number.{byte_at, has_bit, number_at, IsImage}
use Rattle.pci_spec.specs.Header.{bar_count, bar_register, layout, registers_by}
use Rattle.pci_spec.specs.Registers.{INTERFACE}
use Rattle.pci_spec.specs.Bar.{bar_at, bar_kind, has_bar, is_io, is_wide, starts_bar, type_bits}
use Rattle.pci_spec.specs.Decoded.{DecodedBar, decoded_bar}
use Rattle.pci_spec.specs.Rom.{rom_at}
use Rattle.pci_spec.specs.System.{Function, is_bridge}
use Rattle.pci_spec.specs.Machine.{address_fields, in_fields}
use Rattle.pci_spec.proofs.BusRanges.{all_gives, any_from, any_gives}
use Rattle.pci_spec.proofs.Members.{in_filter_from, in_filter_to, in_head, in_map_from, in_map_to, in_range_from, in_tail}
use Rattle.plan_spec.specs.Plan.{IsMoved}
use Rattle.plan_spec.proofs.Planning.Moved.{kind_fields, layout_same, low_same}
use Rattle.plan_spec.proofs.Planning.SameBytes.{number_same}
use Rattle.judge_spec.specs.Bytes.{cleared, width_of, without_bars}
use Rattle.judge_spec.specs.Taken.{compatible_bars, is_compatible, without_channels}
use Rattle.judge_spec.proofs.Changes.{length_cleared}
use Rattle.judge_spec.proofs.NoEnables.{bars_stay}
use Rattle.settle_answer_laws.proofs.DeviceFields.{no_fields, same_fields, same_writable}
use Rattle.settle_answer_laws.proofs.Stripped.{AreBoth, IsStripped, one_stripped}
use Rattle.settle_answer_laws.proofs.WithoutRegisters.{cleared_other, cleared_zero, number_zero}

-- ---- bytes of BARs

-- whether a byte is in a BAR
abbrev pub covers : ℕ → DecodedBar → Bool
covers place bar = nat_le bar.register place && nat_lt place (bar.register + width_of bar.kind)

abbrev pub in_bars : List DecodedBar → ℕ → Bool
in_bars bars place = list_any (covers place) bars

apart_from : (place : ℕ) (bar : DecodedBar) → covers place bar ≡ false → (place < bar.register) ⊎ (bar.register + width_of bar.kind ≤ place)
apart_from place bar none = elim (cases_lt place bar.register) [
  | inl low ↦ inl low
  | inr from ↦ elim (cases_lt place (bar.register + width_of bar.kind)) [
    | inr high ↦ inr high
    | inl to ↦ absurd (both_ways (covers place bar) none (and_from _ _ (le-leb bar.register place from) (lt-ltb place (bar.register + width_of bar.kind) to)))
  ]
]

bars_other : (bars : List DecodedBar) (image : List ℕ) (place : ℕ) → in_bars bars place ≡ false → byte_at (without_bars bars image) place ≡ byte_at image place
bars_other [] image place none = refl
bars_other (bar ∷ bars) image place none =
    let parts = or_parts (covers place bar) (in_bars bars place) none in
    bars_other bars (cleared bar.register (width_of bar.kind) image) place parts.1
    ∙ cleared_other bar.register (width_of bar.kind) image place (apart_from place bar parts.0)

bars_zero : (bars : List DecodedBar) (image : List ℕ) (place : ℕ) → in_bars bars place ≡ true → byte_at (without_bars bars image) place ≡ 0
bars_zero [] image place is = absurd (both_ways false refl is)
bars_zero (bar ∷ bars) image place is = elim (cases_Bool (in_bars bars place)) [
  | inl later ↦ bars_zero bars (cleared bar.register (width_of bar.kind) image) place later
  | inr none ↦ elim (or_cases (covers place bar) (in_bars bars place) is) [
    | inr later ↦ absurd (both_ways (in_bars bars place) none later)
    | inl here ↦
        let parts = and_parts (nat_le bar.register place) (nat_lt place (bar.register + width_of bar.kind)) here in
        bars_other bars (cleared bar.register (width_of bar.kind) image) place none
        ∙ cleared_zero bar.register (width_of bar.kind) image place (leb-true bar.register place parts.0) (ltb-true place (bar.register + width_of bar.kind) parts.1)
  ]
]

length_of : (bars : List DecodedBar) (image : List ℕ) → length (without_bars bars image) ≡ length image
length_of [] image = refl
length_of (bar ∷ bars) image = length_of bars (cleared bar.register (width_of bar.kind) image) ∙ length_cleared bar.register (width_of bar.kind) image

image_of : (bars : List DecodedBar) (image : List ℕ) → IsImage image → IsImage (without_bars bars image)
image_of bars image is = record {
  full = length_of bars image ∙ is.full;
  bytes = λ place. elim (cases_Bool (in_bars bars place)) [
    | inl out ↦ subst (λ n. n < 256) (sym (bars_zero bars image place out)) (omega arith)
    | inr kept ↦ subst (λ n. n < 256) (sym (bars_other bars image place kept)) (is.bytes place)
  ];
}

-- ---- the width of a BAR

width_is : (mask : ℕ) → width_of (bar_kind mask) ≡ (if is_wide mask then 8 else 4)
width_is mask = elim (cases_Bool (is_io mask)) [
  | inl io ↦ rw io refl
  | inr memory ↦ elim (cases_Bool (type_bits mask == 2)) [
    | inl wide ↦ rw (memory, wide) refl
    | inr narrow ↦ elim (cases_Bool (type_bits mask == 0)) [ inl low ↦ rw (memory, narrow, low) refl | inr other ↦ rw (memory, narrow, other) refl ]
  ]
]

-- a BAR is one register or two
record IsWhole (bar : DecodedBar) : Type 0 where
  n : ℕ
  small : n < 4
  register : bar.register ≡ 16 + 4 * n
  width : (width_of bar.kind ≡ 4) ⊎ (width_of bar.kind ≡ 8)

whole_same : (bar : DecodedBar) → IsWhole bar → (n j : ℕ) → j < 4 → covers (16 + 4 * n + j) bar ≡ covers (16 + 4 * n) bar
whole_same bar is n j small =
    let register = is.register in
    let lower : nat_le bar.register (16 + 4 * n + j) ≡ nat_le bar.register (16 + 4 * n) = elim (cases_lt n is.n) [
      | inl before ↦ lt-leb bar.register (16 + 4 * n + j) (omega (arith, register, before, small)) ∙ sym (lt-leb bar.register (16 + 4 * n) (omega (arith, register, before)))
      | inr from ↦ le-leb bar.register (16 + 4 * n + j) (omega (arith, register, from)) ∙ sym (le-leb bar.register (16 + 4 * n) (omega (arith, register, from)))
    ] in
    let upper : nat_lt (16 + 4 * n + j) (bar.register + width_of bar.kind) ≡ nat_lt (16 + 4 * n) (bar.register + width_of bar.kind) = elim is.width [
      | inl four ↦ by 1 four
      | inr eight ↦ by 2 eight
    ] in
    λ i. lower i && upper i
  where
    by : (count : ℕ) → width_of bar.kind ≡ 4 * count → nat_lt (16 + 4 * n + j) (bar.register + width_of bar.kind) ≡ nat_lt (16 + 4 * n) (bar.register + width_of bar.kind)
    by count wide =
        let register = is.register in
        elim (cases_lt n (is.n + count)) [
          | inl before ↦
              lt-ltb (16 + 4 * n + j) (bar.register + width_of bar.kind) (omega (arith, register, wide, before, small))
              ∙ sym (lt-ltb (16 + 4 * n) (bar.register + width_of bar.kind) (omega (arith, register, wide, before)))
          | inr past ↦
              le-ltb (16 + 4 * n + j) (bar.register + width_of bar.kind) (omega (arith, register, wide, past))
              ∙ sym (le-ltb (16 + 4 * n) (bar.register + width_of bar.kind) (omega (arith, register, wide, past)))
        ]

all_whole : (bars : List DecodedBar) → ((bar : DecodedBar) → Contains bars bar → IsWhole bar) → (n j : ℕ) → j < 4 → in_bars bars (16 + 4 * n + j) ≡ in_bars bars (16 + 4 * n)
all_whole [] are n j small = refl
all_whole (bar ∷ bars) are n j small =
    let first = whole_same bar (are bar (in_head bar bars)) n j small in
    let rest = all_whole bars (λ x has. are x (in_tail bar bars x has)) n j small in
    λ i. first i || rest i

-- ---- the BARs of channels in compatibility mode

abbrev bars_of : Function → List DecodedBar
bars_of b = compatible_bars b

low_register : (interface register : ℕ) → is_compatible interface register ≡ true → register < 32
low_register interface register is = elim (or_cases (nat_lt register 0x18 && not (has_bit interface 0)) (nat_le 0x18 register && nat_lt register 0x20 && not (has_bit interface 2)) is) [
  | inl first ↦ (let less = ltb-true register 0x18 (and_parts (nat_lt register 0x18) (not (has_bit interface 0)) first).0 in omega (arith, less))
  | inr second ↦ ltb-true register 0x20 (and_parts (nat_le 0x18 register) (nat_lt register 0x20) (and_parts (nat_le 0x18 register && nat_lt register 0x20) (not (has_bit interface 2)) second).0).1
]

-- which registers one of these is of
record IsOfBar (b : Function) (bar : DecodedBar) : Type 0 where
  n : ℕ
  small : n < 4
  has : has_bar b.probe n ≡ true
  is : decoded_bar b.image b.probe n ≡ bar

module _ (b : Function) (device : layout b.image ≡ 0) where
  of_bar : (bar : DecodedBar) → Contains (bars_of b) bar → IsOfBar b bar
  of_bar bar listed =
      let ns = filter (has_bar b.probe) (range_with_len 0 (bar_count (layout b.image))) in
      let kept = in_filter_to (λ (x : DecodedBar). is_compatible (byte_at b.image INTERFACE) x.register) (map (decoded_bar b.image b.probe) ns) bar listed in
      let made = in_map_to (decoded_bar b.image b.probe) ns bar kept.0 in
      let one = in_filter_to (has_bar b.probe) (range_with_len 0 (bar_count (layout b.image))) made.from made.has in
      let below : bar.register < 32 = low_register (byte_at b.image INTERFACE) bar.register kept.1 in
      let register : bar_register made.from ≡ bar.register = ap (λ (x : DecodedBar). x.register) made.is in
      record { n = made.from; small = omega (arith, below, register); has = one.1; is = made.is }

  from_bar : (n : ℕ) → n < 6 → has_bar b.probe n ≡ true → is_compatible (byte_at b.image INTERFACE) (bar_register n) ≡ true → Contains (bars_of b) (decoded_bar b.image b.probe n)
  from_bar n small has compatible =
      let six : bar_count (layout b.image) ≡ 6 = ap bar_count device in
      let ns = filter (has_bar b.probe) (range_with_len 0 (bar_count (layout b.image))) in
      in_filter_from (λ (x : DecodedBar). is_compatible (byte_at b.image INTERFACE) x.register) (map (decoded_bar b.image b.probe) ns) (decoded_bar b.image b.probe n)
      (in_map_from (decoded_bar b.image b.probe) ns n (in_filter_from (has_bar b.probe) (range_with_len 0 (bar_count (layout b.image))) n (in_range_from 0 (bar_count (layout b.image)) n (omega arith) (omega (arith, small, six))) has))
      compatible

  width_at : (bar : DecodedBar) (of : IsOfBar b bar) → width_of bar.kind ≡ (if is_wide (bar_at b.probe of.n) then 8 else 4)
  width_at bar of = ap (λ (x : DecodedBar). width_of x.kind) (sym of.is) ∙ width_is (bar_at b.probe of.n)

  whole_of : (bar : DecodedBar) → Contains (bars_of b) bar → IsWhole bar
  whole_of bar listed =
      let of = of_bar bar listed in
      let width = width_at bar of in
      record {
        n = of.n;
        small = of.small;
        register = sym (ap (λ (x : DecodedBar). x.register) of.is);
        width = elim (cases_Bool (is_wide (bar_at b.probe of.n))) [ inl wide ↦ inr (width ∙ ap (λ t. if t then 8 else 4) wide) | inr narrow ↦ inl (width ∙ ap (λ t. if t then 8 else 4) narrow) ];
      }

  abbrev pub channels_out : ℕ → Bool
  channels_out place = in_bars (bars_of b) place

  -- they are among the BARs
  out_range : (place : ℕ) → channels_out place ≡ true → (16 ≤ place) × (place < 40)
  out_range place is =
      let found = any_gives (covers place) (bars_of b) is in
      let bar = found.0 in
      let whole = whole_of bar found.1 in
      let parts = and_parts (nat_le bar.register place) (nat_lt place (bar.register + width_of bar.kind)) found.2 in
      let from = leb-true bar.register place parts.0 in
      let to = ltb-true place (bar.register + width_of bar.kind) parts.1 in
      let small = whole.small in
      let register = whole.register in
      (omega (arith, from, register), elim whole.width [ inl four ↦ omega (arith, to, four, small, register) | inr eight ↦ omega (arith, to, eight, small, register) ])

  out_whole : (n j : ℕ) → j < 4 → channels_out (16 + 4 * n + j) ≡ channels_out (16 + 4 * n)
  out_whole n j small = all_whole (bars_of b) whole_of n j small

  -- a byte in a register is out where the register is
  out_in : (n place : ℕ) → bar_register n ≤ place → place < bar_register n + 4 → channels_out place ≡ channels_out (16 + 4 * n)
  out_in n place from to =
      let at : 16 + 4 * n + (place - (16 + 4 * n)) ≡ place = omega (arith, from) in
      ap channels_out (sym at) ∙ out_whole n (place - (16 + 4 * n)) (omega (arith, from, to))

  abbrev h : Function
  h = without_channels b

  bar_zero : (n : ℕ) → channels_out (16 + 4 * n) ≡ true → bar_at h.probe n ≡ 0
  bar_zero n out = number_zero 4 (bar_register n) h.probe (λ j less. bars_zero (bars_of b) b.probe (bar_register n + j) (out_whole n j less ∙ out))

  bar_kept : (n : ℕ) → channels_out (16 + 4 * n) ≡ false → bar_at h.probe n ≡ bar_at b.probe n
  bar_kept n out = number_same h.probe b.probe (bar_register n) 4 (λ j less. bars_other (bars_of b) b.probe (bar_register n + j) (out_whole n j less ∙ out))

  -- a wide BAR that is out takes the register behind it with it
  wide_out : (n : ℕ) → channels_out (16 + 4 * n) ≡ true → channels_out (16 + 4 * suc n) ≡ false → (starts_bar b.probe n && is_wide (bar_at b.probe n)) ≡ false
  wide_out n out next = false_from_ne_true _ (λ both.
      let parts = and_parts (starts_bar b.probe n) (is_wide (bar_at b.probe n)) both in
      let found = any_gives (covers (16 + 4 * n)) (bars_of b) out in
      let bar = found.0 in
      let of = of_bar bar found.1 in
      let register : bar.register ≡ 16 + 4 * of.n = sym (ap (λ (x : DecodedBar). x.register) of.is) in
      let width = width_at bar of in
      let ends = and_parts (nat_le bar.register (16 + 4 * n)) (nat_lt (16 + 4 * n) (bar.register + width_of bar.kind)) found.2 in
      let from = leb-true bar.register (16 + 4 * n) ends.0 in
      let to = ltb-true (16 + 4 * n) (bar.register + width_of bar.kind) ends.1 in
      elim (cases_eq of.n n) [
        | inl here ↦
            let wide : width_of bar.kind ≡ 8 = width ∙ ap (λ t. if t then 8 else 4) (ap (λ m. is_wide (bar_at b.probe m)) here ∙ parts.1) in
            both_ways (channels_out (16 + 4 * suc n)) next
            (any_from (covers (16 + 4 * suc n)) (bars_of b) bar found.1
            (and_from _ _ (le-leb bar.register (16 + 4 * suc n) (omega (arith, from))) (lt-ltb (16 + 4 * suc n) (bar.register + width_of bar.kind) (omega (arith, register, here, wide)))))
        | inr other ↦ elim (cases_Bool (is_wide (bar_at b.probe of.n))) [
          | inr narrow ↦ (let four : width_of bar.kind ≡ 4 = width ∙ ap (λ t. if t then 8 else 4) narrow in omega (arith, register, four, from, to, other))
          | inl wide ↦
              let eight : width_of bar.kind ≡ 8 = width ∙ ap (λ t. if t then 8 else 4) wide in
              let before : n ≡ suc of.n = omega (arith, register, eight, from, to, other) in
              let starts : starts_bar b.probe of.n ≡ true = (and_parts (starts_bar b.probe of.n) (not (bar_at b.probe of.n == 0)) of.has).0 in
              both_ways (starts_bar b.probe n) (ap (starts_bar b.probe) before ∙ ap not (and_from _ _ starts wide)) parts.0
        ]
      ])

  starts_same : (n : ℕ) → channels_out (16 + 4 * n) ≡ false → starts_bar h.probe n ≡ starts_bar b.probe n
  starts_same zero out = refl
  starts_same (suc n) out = elim (cases_Bool (channels_out (16 + 4 * n))) [
    | inr kept ↦ (let starts = starts_same n kept in let bar = bar_kept n kept in λ i. not (starts i && is_wide (bar i)))
    | inl left ↦
        ap not (and_right (starts_bar h.probe n) (is_wide (bar_at h.probe n)) (ap is_wide (bar_zero n left)))
        ∙ sym (ap not (wide_out n left out))
  ]

  device_b : is_bridge b ≡ false
  device_b = ap (λ n. n == 1) device

  device_h : is_bridge h ≡ false
  device_h = ap (λ n. n == 1) (bars_stay (bars_of b) b.image device)

  fields_of : (f : Function) → is_bridge f ≡ false → (place i : ℕ) → in_fields (address_fields f.image f.probe) place i ≡ in_fields (kind_fields false f.probe (rom_at f.image f.probe)) place i
  fields_of f kind place i = λ j. in_fields (kind_fields (kind j) f.probe (rom_at f.image f.probe)) place i

  bars_same : (place : ℕ) → channels_out place ≡ false → (n : ℕ) → n < 6 → bar_register n ≤ place → place < bar_register n + 4
      → (starts_bar h.probe n ≡ starts_bar b.probe n) × (bar_at h.probe n ≡ bar_at b.probe n)
  bars_same place out n small from to = let kept = sym (out_in n place from to) ∙ out in (starts_same n kept, bar_kept n kept)

  no_rom_out : (place : ℕ) → 40 ≤ place → channels_out place ≡ false
  no_rom_out place past = false_from_ne_true (channels_out place) (λ out. let low = (out_range place out).1 in omega (arith, low, past))

  rom_kept : number_at h.probe 48 4 ≡ number_at b.probe 48 4
  rom_kept = number_same h.probe b.probe 48 4 (λ j less. bars_other (bars_of b) b.probe (48 + j) (no_rom_out (48 + j) (omega arith)))

  rom_same : rom_at h.image h.probe ≡ rom_at b.image b.probe
  rom_same = ap (λ bridge. number_at h.probe (if bridge then 0x38 else 0x30) 4) device_h ∙ rom_kept ∙ sym (ap (λ bridge. number_at b.probe (if bridge then 0x38 else 0x30) 4) device_b)

  -- a register of a device is a whole one
  aligned : (r : ℕ × ℕ) → Contains (registers_by false) r → (r.0 % 4 ≡ 0) × (r.1 ≡ 4)
  aligned r listed =
      let parts = and_parts (r.0 % 4 == 0) (r.1 == 4) (all_gives (λ (x : ℕ × ℕ). x.0 % 4 == 0 && x.1 == 4) (registers_by false) refl r listed) in
      (eqb-true (r.0 % 4) 0 parts.0, eqb-true r.1 4 parts.1)

  module _ (is : IsImage b.image) where
    pub channels_stripped : IsStripped channels_out b h
    channels_stripped = record {
      slot = refl;
      image = image_of (bars_of b) b.image is;
      before = device_b;
      after = device_h;
      same = λ place inside out. bars_other (bars_of b) b.image place out;
      fields = λ place i out.
          fields_of h device_h place i
          ∙ same_fields place i b.probe h.probe (bars_same place out) (rom_at b.image b.probe) (rom_at h.image h.probe) (λ from to. rom_same)
          ∙ sym (fields_of b device_b place i);
      writable = λ place i out. same_writable place i b.probe h.probe (bars_same place out) (λ from to. rom_kept);
      command = (none_low 4 (omega arith), none_low 5 (omega arith));
      registers = λ r listed at from to out place i low high small.
          let table = aligned r listed in
          let whole = table.0 in
          let wide = table.1 in
          let range = out_range at out in
          let below = range.1 in
          let above = range.0 in
          fields_of h device_h place i
          ∙ no_fields place i h.probe (rom_at h.image h.probe)
          (λ n less one other. bar_zero n (sym (out_in n at (omega (arith, whole, wide, from, to, low, high, one, other)) (omega (arith, whole, wide, from, to, low, high, one, other))) ∙ out))
          (λ one other. absurd (let no : ⊥ = omega (arith, whole, wide, from, low, high, one, below) in no));
    }
      where
        none_low : (place : ℕ) → place < 16 → channels_out place ≡ false
        none_low place low = false_from_ne_true (channels_out place) (λ out. let from = (out_range place out).0 in omega (arith, from, low))

-- ---- they are the same after writes

-- by what is told of them: the programming interface, the read backs and the layout
abbrev out_by : ℕ → List ℕ → ℕ → ℕ → Bool
out_by interface probe kind place =
    list_any (λ n. is_compatible interface (bar_register n) && (nat_le (bar_register n) place && nat_lt place (bar_register n + width_of (bar_kind (bar_at probe n)))))
    (filter (has_bar probe) (range_with_len 0 (bar_count kind)))

fused : (interface : ℕ) (image probe : List ℕ) (place : ℕ) (ns : List ℕ) → list_any (covers place) (filter (λ (x : DecodedBar). is_compatible interface x.register) (map (decoded_bar image probe) ns))
    ≡ list_any (λ n. is_compatible interface (bar_register n) && (nat_le (bar_register n) place && nat_lt place (bar_register n + width_of (bar_kind (bar_at probe n))))) ns
fused interface image probe place [] = refl
fused interface image probe place (n ∷ ns) =
    let rest = fused interface image probe place ns in
    let bar = decoded_bar image probe n in
    let more = filter (λ (x : DecodedBar). is_compatible interface x.register) (map (decoded_bar image probe) ns) in
    elim (cases_Bool (is_compatible interface (bar_register n))) [
      | inl compatible ↦
          ap (λ t. list_any (covers place) (if t then bar ∷ more else more)) compatible
          ∙ (λ i. covers place bar || rest i)
          ∙ sym (ap (λ t. (t && covers place bar) || list_any (λ n. is_compatible interface (bar_register n) && (nat_le (bar_register n) place && nat_lt place (bar_register n + width_of (bar_kind (bar_at probe n))))) ns) compatible)
      | inr other ↦
          ap (λ t. list_any (covers place) (if t then bar ∷ more else more)) other
          ∙ rest
          ∙ sym (ap (λ t. (t && covers place bar) || list_any (λ n. is_compatible interface (bar_register n) && (nat_le (bar_register n) place && nat_lt place (bar_register n + width_of (bar_kind (bar_at probe n))))) ns) other)
    ]

module _ (b g : Function) (is : IsImage b.image) (device : layout b.image ≡ 0) (m : IsMoved b g) where
  out_same : (place : ℕ) → in_bars (compatible_bars g) place ≡ in_bars (compatible_bars b) place
  out_same place =
      let interface : byte_at g.image INTERFACE ≡ byte_at b.image INTERFACE = low_same b g m is 9 (omega arith) refl in
      let kind = layout_same b g m is in
      fused (byte_at g.image INTERFACE) g.image g.probe place (filter (has_bar g.probe) (range_with_len 0 (bar_count (layout g.image))))
      ∙ (λ i. out_by (interface i) (m.probe i) (kind i) place)
      ∙ sym (fused (byte_at b.image INTERFACE) b.image b.probe place (filter (has_bar b.probe) (range_with_len 0 (bar_count (layout b.image)))))

  probes_same : without_bars (compatible_bars g) g.probe ≡ without_bars (compatible_bars b) b.probe
  probes_same = ext_get_or 0 _ _ (length_of (compatible_bars g) g.probe ∙ ap length m.probe ∙ sym (length_of (compatible_bars b) b.probe)) (λ place less. elim (cases_Bool (in_bars (compatible_bars b) place)) [
    | inl out ↦ bars_zero (compatible_bars g) g.probe place (out_same place ∙ out) ∙ sym (bars_zero (compatible_bars b) b.probe place out)
    | inr kept ↦ bars_other (compatible_bars g) g.probe place (out_same place ∙ kept) ∙ ap (λ x. byte_at x place) m.probe ∙ sym (bars_other (compatible_bars b) b.probe place kept)
  ])

  pub channels_after : (k : Function) → AreBoth (channels_out b device) b (without_channels b) is (channels_stripped b device is) g k → k ≡ without_channels g
  channels_after k state =
      one_stripped (channels_out b device) b (without_channels b) is (channels_stripped b device is) g k (without_channels g) state refl probes_same (image_of (compatible_bars g) g.image state.b_moved.image)
      (λ place inside out. bars_other (compatible_bars g) g.image place (out_same place ∙ out))
      (λ place inside out. bars_zero (compatible_bars g) g.image place (out_same place ∙ out) ∙ sym (bars_zero (compatible_bars b) b.image place out))
