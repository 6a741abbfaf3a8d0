-- What a header keeps without its address registers.
use Rattle.std.proofs.Common.{◌≡◌, ℕ, zero, suc, ◌+◌, ◌*◌, ◌/◌, ◌<◌, ◌≤◌, List, length, set, true, false, ◌&&◌, not, None, inl, inr, refl, sym, ◌∙◌, ap, arith, lit<, lit≤}
use Rattle.std.specs.Prelude.{◌⊎◌}
use Rattle.std.specs.Bool.{◌==◌, if◌then◌else◌}
use Rattle.std.proofs.lemmas.Bool.{and_left, and_from, cases_lt, cond_both, le-leb, lt-ltb}
use Rattle.std.proofs.lemmas.List.{get_or-set_other, get_or-set_same, get_or_past, length-set}
use Rattle.pci_spec.specs.Number.{byte_at, number_at, has_bit}
use Rattle.pci_spec.specs.Registers.{BASE_ADDRESS, EXPANSION_ROM}
use Rattle.pci_spec.specs.Header.{address_registers, bar_count, bar_register, is_in_register, layout, command, rom_register, status}
use Rattle.pci_spec.specs.Bar.{BarReading, bar_at, bar_reading, first_broken, starts_bar}
use Rattle.pci_spec.specs.Rom.{has_rom, rom_at}
use Rattle.pci_spec.specs.Capability.{HasChain, IsChain, body_length, pointer, pointer_at}
use Rattle.pci_spec.specs.Fault.{is_in_address_register}
use Rattle.pci_spec.specs.System.{Function}
use Rattle.pci_spec.proofs.BusRanges.{any_from}
use Rattle.pci_spec.proofs.ProfileFaults.{ShowsSame}
use Rattle.judge_spec.specs.Bytes.{cleared, without_registers}
use Rattle.settle_answer_laws.specs.LeftOutLaws.{HasLawfulRegisters}

-- ---- bytes that are cleared

set_zero : (image : List ℕ) (i k : ℕ) → k ≡ i → byte_at (set image i 0) k ≡ 0
set_zero image i k same = elim (cases_lt i (length image)) [
  | inl within ↦ ap (λ j. byte_at (set image i 0) j) same ∙ get_or-set_same image i 0 0 within
  | inr past ↦ get_or_past (set image i 0) k 0 (let long = length-set image i 0 in omega (arith, past, same, long))
]

pub cleared_zero : (offset count : ℕ) (image : List ℕ) (k : ℕ) → offset ≤ k → k < offset + count → byte_at (cleared offset count image) k ≡ 0
cleared_zero offset zero image k from to = absurd (omega (arith, from, to))
cleared_zero offset (suc count) image k from to = elim (cases_lt k (offset + count)) [
  | inl before ↦ get_or-set_other (cleared offset count image) (offset + count) k 0 0 (λ e. omega (arith, before, e)) ∙ cleared_zero offset count image k from before
  | inr last ↦ set_zero (cleared offset count image) (offset + count) k (omega (arith, last, to))
]

pub cleared_other : (offset count : ℕ) (image : List ℕ) (k : ℕ) → (k < offset) ⊎ (offset + count ≤ k) → byte_at (cleared offset count image) k ≡ byte_at image k
cleared_other offset zero image k apart = refl
cleared_other offset (suc count) image k apart =
    get_or-set_other (cleared offset count image) (offset + count) k 0 0 (λ e. elim apart [ inl low ↦ omega (arith, low, e) | inr high ↦ omega (arith, high, e) ])
    ∙ cleared_other offset count image k (elim apart [ inl low ↦ inl low | inr high ↦ inr (omega (arith, high)) ])

-- a byte of a device that is in no BAR and not in its ROM register
abbrev pub IsBeside : ℕ → Type 0
IsBeside k = (k < 16) ⊎ (((40 ≤ k) × (k < 48)) ⊎ (52 ≤ k))

-- a byte of one of these
abbrev pub IsOfRegister : ℕ → Type 0
IsOfRegister k = ((16 ≤ k) × (k < 40)) ⊎ ((48 ≤ k) × (k < 52))

abbrev pub AgreeBeside : List ℕ → List ℕ → Type 0
AgreeBeside image other = (k : ℕ) → IsBeside k → byte_at other k ≡ byte_at image k

pub agree_back : (image other : List ℕ) → AgreeBeside image other → AgreeBeside other image
agree_back image other agree k beside = sym (agree k beside)

pub without_agrees : (image : List ℕ) → AgreeBeside image (without_registers image)
without_agrees image k beside =
    cleared_other EXPANSION_ROM 4 (cleared BASE_ADDRESS 24 image) k (elim beside [ inl low ↦ inl (omega (arith, low)) | inr (inl (from, to)) ↦ inl to | inr (inr high) ↦ inr high ])
    ∙ cleared_other BASE_ADDRESS 24 image k (elim beside [ inl low ↦ inl low | inr (inl (from, to)) ↦ inr from | inr (inr high) ↦ inr (omega (arith, high)) ])

pub without_zero : (image : List ℕ) (k : ℕ) → IsOfRegister k → byte_at (without_registers image) k ≡ 0
without_zero image k (inl bar) =
    let to = bar.1 in
    cleared_other EXPANSION_ROM 4 (cleared BASE_ADDRESS 24 image) k (inl (omega (arith, to))) ∙ cleared_zero BASE_ADDRESS 24 image k bar.0 to
without_zero image k (inr rom) = cleared_zero EXPANSION_ROM 4 (cleared BASE_ADDRESS 24 image) k rom.0 rom.1

-- ---- registers that are 0 break no rule

pub number_zero : (width offset : ℕ) (image : List ℕ) → ((j : ℕ) → j < width → byte_at image (offset + j) ≡ 0) → number_at image offset width ≡ 0
number_zero zero offset image zeros = refl
number_zero (suc width) offset image zeros = rw (number_zero width offset image (λ j less. zeros j (omega (arith, less))), zeros width (omega arith)) (omega arith)

zero_bar : (image : List ℕ) (n : ℕ) → n < 6 → bar_at (without_registers image) n ≡ 0
zero_bar image n small = number_zero 4 (bar_register n) (without_registers image) (λ j less. without_zero image (bar_register n + j) (inl (omega arith, omega (arith, small, less))))

none_broken : (bar : BarReading) → bar.mask ≡ 0 → bar.value ≡ 0 → first_broken bar ≡ None
none_broken bar mask value = rw (mask, value) refl

zero_rom : (image : List ℕ) → number_at (without_registers image) EXPANSION_ROM 4 ≡ 0
zero_rom image = number_zero 4 EXPANSION_ROM (without_registers image) (λ j less. without_zero image (EXPANSION_ROM + j) (inr (omega arith, omega (arith, less))))

pub without_is_lawful : (f g : Function) → layout g.image ≡ 0 → g.image ≡ without_registers f.image → g.probe ≡ without_registers f.probe → HasLawfulRegisters g
without_is_lawful f g device image probe =
    record {
      bars = λ n less.
          let small : n < 6 = (let six = ap bar_count device in omega (arith, less, six)) in
          let value : bar_at g.image n ≡ 0 = ap (λ x. bar_at x n) image ∙ zero_bar f.image n small in
          let mask : bar_at g.probe n ≡ 0 = ap (λ x. bar_at x n) probe ∙ zero_bar f.probe n small in
          let reading = bar_reading (n + 1 == bar_count (layout g.image)) g.image g.probe n in
          cond_both (starts_bar g.probe n) (first_broken reading) None (λ x. x ≡ None) (λ starts. none_broken reading mask value) (λ upper. refl);
      rom =
          let value : rom_at g.image g.image ≡ 0 = ap (λ kind. number_at g.image (rom_register kind) 4) device ∙ ap (λ x. number_at x EXPANSION_ROM 4) image ∙ zero_rom f.image in
          let mask : rom_at g.image g.probe ≡ 0 = ap (λ kind. number_at g.probe (rom_register kind) 4) device ∙ ap (λ x. number_at x EXPANSION_ROM 4) probe ∙ zero_rom f.probe in
          let none : has_rom g.image g.probe ≡ false = λ i. not (value i == 0 && mask i == 0) in
          and_left _ _ none;
    }

-- ---- bytes that are in no address register

in_one : (k base : ℕ) → base ≤ k → k < base + 4 → is_in_register k (base, 4) ≡ true
in_one k base from to = and_from _ _ (le-leb base k from) (lt-ltb k (base + 4) to)

in_bar : (k : ℕ) → 16 ≤ k → k < 40 → is_in_address_register 0 k ≡ true
in_bar k from to = elim (cases_lt k 20) [
  | inl a ↦ any_from (is_in_register k) (address_registers 0) (16, 4) (0, lit< tt, refl) (in_one k 16 from a)
  | inr b ↦ elim (cases_lt k 24) [
    | inl a ↦ any_from (is_in_register k) (address_registers 0) (20, 4) (1, lit< tt, refl) (in_one k 20 b a)
    | inr c ↦ elim (cases_lt k 28) [
      | inl a ↦ any_from (is_in_register k) (address_registers 0) (24, 4) (2, lit< tt, refl) (in_one k 24 c a)
      | inr d ↦ elim (cases_lt k 32) [
        | inl a ↦ any_from (is_in_register k) (address_registers 0) (28, 4) (3, lit< tt, refl) (in_one k 28 d a)
        | inr e ↦ elim (cases_lt k 36) [
          | inl a ↦ any_from (is_in_register k) (address_registers 0) (32, 4) (4, lit< tt, refl) (in_one k 32 e a)
          | inr g ↦ any_from (is_in_register k) (address_registers 0) (36, 4) (5, lit< tt, refl) (in_one k 36 g to)
        ]
      ]
    ]
  ]
]

in_rom : (k : ℕ) → 48 ≤ k → k < 52 → is_in_address_register 0 k ≡ true
in_rom k from to = any_from (is_in_register k) (address_registers 0) (48, 4) (6, lit< tt, refl) (in_one k 48 from to)

pub beside_or_in : (k : ℕ) → IsBeside k ⊎ (is_in_address_register 0 k ≡ true)
beside_or_in k = elim (cases_lt k 16) [
  | inl low ↦ inl (inl low)
  | inr a ↦ elim (cases_lt k 40) [
    | inl b ↦ inr (in_bar k a b)
    | inr c ↦ elim (cases_lt k 48) [
      | inl d ↦ inl (inr (inl (c, d)))
      | inr e ↦ elim (cases_lt k 52) [ inl g ↦ inr (in_rom k e g) | inr high ↦ inl (inr (inr high)) ]
    ]
  ]
]

-- ---- lists of capabilities stand behind the header

module _ (image other : List ℕ) (agree : AgreeBeside image other) where
  behind_same : (place : ℕ) → 0x40 ≤ place → byte_at other place ≡ byte_at image place
  behind_same place past = agree place (inr (inr (omega (arith, past))))

  status_same : status other ≡ status image
  status_same = let low = agree 6 (inl (lit< tt)) in let high = agree 7 (inl (lit< tt)) in omega (arith, low, high)

  module _ (places : List ℕ) (chain : IsChain image places) where
    pointer_same : (n : ℕ) → n ≤ length places → pointer other n ≡ pointer image n
    pointer_same zero h =
        ap (λ s. if has_bit s 4 then pointer_at other 0x34 else 0) status_same
        ∙ ap (λ b. if has_bit (status image) 4 then b / 4 * 4 else 0) (agree 0x34 (inr (inr (lit≤ tt))))
    pointer_same (suc n) h =
        let before = pointer_same n (omega (arith, h)) in
        let range = chain.in_range n (omega (arith, h)) in
        let low = range.0 in
        ap (λ p. if p == 0 then 0 else pointer_at other (p + 1)) before
        ∙ ap (λ b. if pointer image n == 0 then 0 else b / 4 * 4) (behind_same (pointer image n + 1) (omega (arith, low)))

    length_same : (place : ℕ) → 0x40 ≤ place → body_length other place ≡ body_length image place
    length_same place low =
        let id = behind_same place low in
        let two = behind_same (place + 2 + 0) (omega (arith, low)) in
        let three = behind_same (place + 2 + 1) (omega (arith, low)) in
        rw (id, two, three) refl

    chain_same : IsChain other places
    chain_same = record {
      each = λ n l. chain.each n l ∙ sym (pointer_same n (omega (arith, l)));
      end = pointer_same (length places) (omega arith) ∙ chain.end;
      in_range = λ n l. let e = pointer_same n (omega (arith, l)) in let r = chain.in_range n l in let low = r.0 in let high = r.1 in (omega (arith, e, low), omega (arith, e, high));
      distinct = λ m n less l e. chain.distinct m n less l (sym (pointer_same m (omega (arith, less, l))) ∙ e ∙ pointer_same n (omega (arith, l)));
      bodies = λ n l.
          let e = pointer_same n (omega (arith, l)) in
          let r = chain.in_range n l in
          let b = chain.bodies n l in
          let f = ap (λ p. p + body_length other p) e in
          let g = length_same (pointer image n) r.0 in
          omega (arith, b, f, g);
    }

  pub chain_beside : HasChain image → HasChain other
  chain_beside (places, chain) = (places, chain_same places chain)

  command_same : command other ≡ command image
  command_same = let low = agree 4 (inl (lit< tt)) in let high = agree 5 (inl (lit< tt)) in omega (arith, low, high)

  -- a device shows what a fault of the profile looks at as it did
  pub shows_beside : (layout other ≡ 1 → ⊥) → HasChain image → ShowsSame image other
  shows_beside device (places, chain) = record {
    command_bits = λ bit low high. ap (λ c. has_bit c bit) command_same;
    bridge = λ bridge. absurd (device bridge);
    chain = (places, chain);
    walk = λ n within. pointer_same places chain n within;
    behind = λ place low inside. behind_same place low;
  }
