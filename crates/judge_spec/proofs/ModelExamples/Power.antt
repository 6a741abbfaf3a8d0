-- What is switched off.
use Rattle.std.proofs.Common.{◌≡◌, ℕ, List, [], ◌∷◌, refl}
use Rattle.pci_spec.specs.Header.{command, status}
use Rattle.pci_spec.proofs.Examples.Samples.{on_device}
use Rattle.judge_spec.specs.Bytes.{switched_off}

-- Command 0547h and Status 02B0h
abbrev on : List ℕ
on = on_device ((0x04, 0x02b00547) ∷ (0x34, 0x40) ∷ (0x40, 0x01) ∷ (0x44, 0x03) ∷ [])

other_command_bits_stay : command (switched_off on) ≡ 0x0544
other_command_bits_stay = refl

other_status_bits_stay : status (switched_off on) ≡ 0x02a0
other_status_bits_stay = refl
