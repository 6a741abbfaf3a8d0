-- What is left aside of a function that has no fault by itself, by its record.
use Rattle.std.proofs.Common.{◌≡◌, ℕ, List, refl, sym, ◌∙◌, ap, true, false, ◌&&◌}
use Rattle.std.specs.List.{filter}
use Rattle.pci_spec.specs.Number.{byte_at}
use Rattle.pci_spec.specs.Registers.{INTERFACE}
use Rattle.pci_spec.specs.System.{Function}
use Rattle.pci_spec.specs.Decoded.{Record, record_of}
use Rattle.judge_spec.specs.ModelWords.{Words}
use Rattle.judge_spec.specs.Bytes.{as_bare_device, as_device, device_read_backs, without_bars, without_registers}
use Rattle.judge_spec.specs.Taken.{FixedParts, cardbus_aside, is_cardbus, is_compatible, is_ide, is_unnumbered, is_unnumbered_bridge, parts_aside}

pub channels_aside : (w : Words) (fixed : FixedParts) (f : Function) (r : Record) → r ≡ record_of f → w.ide ≡ true → is_ide f.image ≡ true
    → (image probe : List ℕ) → image ≡ without_bars (filter (λ bar. is_compatible (byte_at f.image INTERFACE) bar.register) r.bars) f.image
    → probe ≡ without_bars (filter (λ bar. is_compatible (byte_at f.image INTERFACE) bar.register) r.bars) f.probe
    → record { slot = f.slot; image = image; probe = probe } ≡ parts_aside w fixed f
channels_aside w fixed f r same counts ide image probe image_is probe_is = rw (counts, ide, image_is, probe_is, same) refl

pub buses_aside : (w : Words) (fixed : FixedParts) (f : Function) (r : Record) → r ≡ record_of f → (w.ide && is_ide f.image) ≡ false → w.unnumbered ≡ true
    → is_unnumbered_bridge fixed r r.bridge ≡ true
    → (image probe : List ℕ) → image ≡ as_device f.image → probe ≡ device_read_backs f.probe
    → record { slot = f.slot; image = image; probe = probe } ≡ parts_aside w fixed f
buses_aside w fixed f r same other counts bare image probe image_is probe_is =
    let is : is_unnumbered fixed f ≡ true = ap (λ x. is_unnumbered_bridge fixed x x.bridge) (sym same) ∙ bare in
    rw (other, counts, is, image_is, probe_is) refl

pub nothing_aside : (w : Words) (fixed : FixedParts) (f : Function) (r : Record) → r ≡ record_of f → (w.ide && is_ide f.image) ≡ false
    → (w.unnumbered && is_unnumbered_bridge fixed r r.bridge) ≡ false → f ≡ parts_aside w fixed f
nothing_aside w fixed f r same other numbered =
    let is : (w.unnumbered && is_unnumbered fixed f) ≡ false = ap (λ x. w.unnumbered && is_unnumbered_bridge fixed x x.bridge) (sym same) ∙ numbered in
    rw (other, is) refl

-- ---- CardBus bridges

pub socket_aside : (w : Words) (f : Function) → w.cardbus ≡ true → is_cardbus f ≡ true
    → (image probe : List ℕ) → image ≡ as_bare_device f.image → probe ≡ without_registers f.probe
    → record { slot = f.slot; image = image; probe = probe } ≡ cardbus_aside w f
socket_aside w f counts socket image probe image_is probe_is = rw (counts, socket, image_is, probe_is) refl

pub header_stays : (w : Words) (f : Function) → (w.cardbus && is_cardbus f) ≡ false → f ≡ cardbus_aside w f
header_stays w f other = rw other refl
