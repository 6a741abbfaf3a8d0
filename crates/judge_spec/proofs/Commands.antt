-- Bits of Command that are 0, and stay so whatever words count.
use Rattle.std.proofs.Common.{◌≡◌, ℕ, zero, suc, ◌+◌, List, [], ◌∷◌, length, set, ◌&&◌, not, sym, ◌∙◌, ap, inl, inr, arith}
use Rattle.std.proofs.lemmas.Bool.{cases_eq, cases_lt, cond_both}
use Rattle.std.proofs.lemmas.List.{get_or-set_same, get_or-set_other, get_or_past, length-set}
use Rattle.pci_spec.specs.Number.{byte_at}
use Rattle.pci_spec.specs.Registers.{BASE_ADDRESS, BRIDGE_CONTROL, COMMAND, EXPANSION_ROM, HEADER_TYPE, INTERFACE, PRIMARY_BUS, SECONDARY_BUS_RESET, STATUS}
use Rattle.pci_spec.specs.Slot.{Slot}
use Rattle.pci_spec.specs.System.{Function}
use Rattle.pci_spec.specs.Decoded.{DecodedBar}
use Rattle.pci_spec.specs.Fault.{controls_bridge, is_subtractive_bridge}
use Rattle.judge_spec.specs.ModelWords.{Words}
use Rattle.judge_spec.specs.Bytes.{as_device, cleared, out_of_reset, positive, width_of, without_bars, without_registers}
use Rattle.judge_spec.specs.Taken.{FixedParts, bridge_aside, cardbus_aside, compatible_bars, function_with_image, is_anyone_behind, is_cardbus, is_ide, is_unnumbered, parts_aside, reset_aside, without_buses, without_channels, without_socket}

-- some bits of its low byte are 0
abbrev pub HasZero : (ℕ → ℕ) → List ℕ → Type 0
HasZero bits image = bits (byte_at image COMMAND) ≡ 0

module _ (bits : ℕ → ℕ) (of_zero : bits 0 ≡ 0) where
  -- another byte is written
  elsewhere : (image : List ℕ) (k n : ℕ) → (k ≡ COMMAND → ⊥) → HasZero bits image → HasZero bits (set image k n)
  elsewhere image k n other off = ap bits (get_or-set_other image k COMMAND n 0 (λ e. other (sym e))) ∙ off

  zero_keeps : (image : List ℕ) (k : ℕ) → HasZero bits image → HasZero bits (set image k 0)
  zero_keeps image k off = elim (cases_eq COMMAND k) [
    | inl same ↦ elim (cases_lt k (length image)) [
      | inl within ↦ ap bits (ap (λ j. byte_at (set image k 0) j) same ∙ get_or-set_same image k 0 0 within) ∙ of_zero
      | inr past ↦ ap bits (get_or_past (set image k 0) COMMAND 0 (omega (arith, past, same, length-set image k 0))) ∙ of_zero
    ]
    | inr other ↦ ap bits (get_or-set_other image k COMMAND 0 0 other) ∙ off
  ]

  cleared_keeps : (offset count : ℕ) (image : List ℕ) → HasZero bits image → HasZero bits (cleared offset count image)
  cleared_keeps offset zero image off = off
  cleared_keeps offset (suc count) image off = zero_keeps (cleared offset count image) (offset + count) (cleared_keeps offset count image off)

  bars_keep : (bars : List DecodedBar) (image : List ℕ) → HasZero bits image → HasZero bits (without_bars bars image)
  bars_keep [] image off = off
  bars_keep (bar ∷ bars) image off = bars_keep bars (cleared bar.register (width_of bar.kind) image) (cleared_keeps bar.register (width_of bar.kind) image off)

  pub bridge_keeps : (w : Words) (slots : List Slot) (g : Function) → HasZero bits g.image → HasZero bits (bridge_aside w slots g).image
  bridge_keeps w slots g off =
      let r = reset_aside w slots g in
      let reset : HasZero bits r.image = cond_both (w.reset && controls_bridge g.image SECONDARY_BUS_RESET && not (is_anyone_behind slots g)) (function_with_image g (out_of_reset g.image)) g (λ x. HasZero bits x.image)
      (λ on. elsewhere g.image BRIDGE_CONTROL _ (λ e. cc e) off) (λ other. off) in
      cond_both (w.subtractive && is_subtractive_bridge r.image && not (is_anyone_behind slots r)) (function_with_image r (positive r.image)) r (λ x. HasZero bits x.image)
      (λ on. elsewhere r.image INTERFACE 0 (λ e. cc e) reset) (λ other. reset)

  device_keeps : (image : List ℕ) → HasZero bits image → HasZero bits (as_device image)
  device_keeps image off = elsewhere (cleared PRIMARY_BUS 28 image) HEADER_TYPE _ (λ e. cc e) (cleared_keeps PRIMARY_BUS 28 image off)

  pub parts_keep : (w : Words) (fixed : FixedParts) (f : Function) → HasZero bits f.image → HasZero bits (parts_aside w fixed f).image
  parts_keep w fixed f off =
      cond_both (w.ide && is_ide f.image) (without_channels f) _ (λ x. HasZero bits x.image) (λ ide. bars_keep (compatible_bars f) f.image off)
      (λ other. cond_both (w.unnumbered && is_unnumbered fixed f) (without_buses f) f (λ x. HasZero bits x.image) (λ bare. device_keeps f.image off) (λ numbered. off))

  pub header_keeps : (w : Words) (f : Function) → HasZero bits f.image → HasZero bits (cardbus_aside w f).image
  header_keeps w f off =
      let bare = without_registers f.image in
      let cleared_is : HasZero bits bare = cleared_keeps EXPANSION_ROM 4 (cleared BASE_ADDRESS 24 f.image) (cleared_keeps BASE_ADDRESS 24 f.image off) in
      cond_both (w.cardbus && is_cardbus f) (without_socket f) f (λ x. HasZero bits x.image)
      (λ counts. elsewhere (set bare HEADER_TYPE _) STATUS _ (λ e. cc e) (elsewhere bare HEADER_TYPE _ (λ e. cc e) cleared_is)) (λ other. off)
