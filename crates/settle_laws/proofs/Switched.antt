-- A function that differs at most in Command's enables shows what it showed, and each of its parts is where it was.
use Rattle.std.proofs.Common.{◌≡◌, ◌&&◌, ℕ, ◌+◌, ◌*◌, ◌/◌, ◌-◌, ◌%◌, ◌^◌, ◌<◌, inl, inr, false, not, arith, sym, ◌∙◌, ap}
use Rattle.std.specs.Bool.{nat_le, nat_lt, ◌==◌, if◌then◌else◌}
use Rattle.std.specs.Int.{bit_at}
use Rattle.std.proofs.lemmas.Bool.{and_from, both_ways, cases_eq, cases_lt, eq-eqb, lt-ltb}
use Rattle.pci_spec.specs.Number.{byte_at, number_at, has_bit, lowest_one}
use Rattle.pci_spec.specs.Registers.{COMMAND}
use Rattle.pci_spec.specs.Header.{layout, bar_register, rom_register}
use Rattle.pci_spec.specs.Bar.{bar_at, is_wide}
use Rattle.pci_spec.specs.Rom.{rom_at}
use Rattle.pci_spec.specs.Window.{WindowKind, bounds_at, has_window, lower_pages, page_size}
use Rattle.pci_spec.specs.Decoded.{aligned_range, bar_size}
use Rattle.pci_spec.specs.System.{Function, Part, Bar, Rom, Window}
use Rattle.plan_spec.specs.Plan.{IsMoved, is_open}
use Rattle.plan_spec.specs.Planning.Layout.{range_of}
use Rattle.plan_spec.proofs.Planning.SameBytes.{number_same, bounds_same}
use Rattle.settle_laws.proofs.Alike.{IsAlike}
use Rattle.settle_laws.proofs.HeaderParts.{rom_at_end}
use Rattle.settle_laws.specs.Switching.{IsSwitched}

module _ (f g : Function) (h : IsSwitched f g) where
  -- ---- registers behind Command

  later_byte : (offset : ℕ) → COMMAND < offset → byte_at f.image offset ≡ byte_at g.image offset
  later_byte offset later = sym (h.bytes offset (λ e. let no : ⊥ = omega (arith, e, later) in no))

  later_number : (offset width : ℕ) → COMMAND < offset → number_at f.image offset width ≡ number_at g.image offset width
  later_number offset width later = number_same f.image g.image offset width (λ j less. later_byte (offset + j) (omega (arith, later)))

  kind_same : layout f.image ≡ layout g.image
  kind_same = ap (λ b. b % 128) (later_byte 0x0e (omega arith))

  rom_later : COMMAND < rom_register (layout f.image)
  rom_later = elim (rom_at_end f) [ inl e ↦ omega (arith, e) | inr e ↦ omega (arith, e) ]

  rom_same : rom_at f.image f.image ≡ rom_at g.image g.image
  rom_same = later_number (rom_register (layout f.image)) 4 rom_later ∙ ap (λ k. number_at g.image (rom_register k) 4) kind_same

  pub switched_alike : IsAlike f g
  switched_alike = record {
    slot = sym h.slot;
    probe = sym h.probe;
    kind = kind_same;
    secondary = λ bridge. later_byte 0x19 (omega arith);
    subordinate = λ bridge. later_byte 0x1a (omega arith);
    rom = (let value = rom_same in let kind = kind_same in let probe = sym h.probe in λ i. not (value i == 0 && number_at (probe i) (rom_register (kind i)) 4 == 0));
    on = ap (λ n. has_bit n 0) rom_same;
  }

  -- ---- addresses

  windows_same : (c : WindowKind) → bounds_at c f.image ≡ bounds_at c g.image
  windows_same = bounds_same f.image g.image (λ place from to. later_byte place (omega (arith, from)))

  pub range_same : (p : Part) → range_of f p ≡ range_of g p
  range_same (Bar n) =
      let low = later_number (bar_register n) 4 (omega arith) in
      let high = later_number (bar_register (n + 1)) 4 (omega arith) in
      let probe = sym h.probe in
      λ i. aligned_range (if is_wide (bar_at (probe i) n) then low i + 2 ^ 32 * high i else low i) (bar_size (probe i) n)
  range_same Rom =
      let value = rom_same in
      let kind = kind_same in
      let probe = sym h.probe in
      λ i. aligned_range (value i) (2 ^ lowest_one 0 (number_at (probe i) (rom_register (kind i)) 4))
  range_same (Window c) =
      let bounds = windows_same c in
      λ i. record {
        first = ((bounds i).base_upper * lower_pages c + (bounds i).base / 16) * page_size c;
        last = ((bounds i).limit_upper * lower_pages c + (bounds i).limit / 16) * page_size c + (page_size c - 1);
      }

  pub open_same : (c : WindowKind) → is_open f c ≡ is_open g c
  open_same c =
      let kind = kind_same in
      let probe = sym h.probe in
      let bounds = windows_same c in
      λ i. (kind i == 1) && has_window c (probe i)
      && not (not (nat_le ((bounds i).base_upper * lower_pages c + (bounds i).base / 16) ((bounds i).limit_upper * lower_pages c + (bounds i).limit / 16)))

  -- ---- nothing else

  pub switched_moves : IsMoved f g
  switched_moves = record { slot = h.slot; probe = h.probe; image = h.image; same = λ offset i inside small field plain. bit_same offset i small plain }
    where
      bit_same : (offset i : ℕ) → i < 8 → (offset == COMMAND && nat_lt i 2) ≡ false → bit_at (byte_at g.image offset) i ≡ bit_at (byte_at f.image offset) i
      bit_same offset i small plain = elim (cases_eq offset COMMAND) [
        | inr other ↦ ap (λ b. bit_at b i) (h.bytes offset other)
        | inl at ↦ elim (cases_lt i 2) [
          | inl low ↦ absurd (both_ways (offset == COMMAND && nat_lt i 2) plain (and_from (offset == COMMAND) (nat_lt i 2) (eq-eqb offset COMMAND at) (lt-ltb i 2 low)))
          | inr high ↦ ap (λ o. bit_at (byte_at g.image o) i) at ∙ h.bits i high small ∙ sym (ap (λ o. bit_at (byte_at f.image o) i) at)
        ]
      ]
