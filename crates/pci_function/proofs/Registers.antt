-- Bytes outside the address registers.
use Rattle.std.proofs.Common.{◌≡◌, ℕ, List, Bool, false, not, inl, inr, sym, ◌∙◌, ap}
use Rattle.std.specs.Prelude.{◌==◌, ◌&&◌, nat_lt}
use Rattle.std.proofs.lemmas.Bool.{and_cases, and_left, and_right}
use Rattle.pci_spec.specs.Number.{byte_at}
use Rattle.pci_spec.specs.Fault.{is_in_address_register, is_stray_by}

-- a byte is stray only where these two say so
pub no_stray : (layout : ℕ) (probe : List ℕ) (offset : ℕ) (is_register : Bool) → is_register ≡ is_in_address_register layout offset
    → (not (byte_at probe offset == 0) && not is_register) ≡ false → is_stray_by layout probe offset ≡ false
no_stray layout probe offset is_register same none = elim (and_cases (not (byte_at probe offset == 0)) (not is_register) none) [
  | inl zero ↦ and_left (nat_lt offset 256 && not (byte_at probe offset == 0)) (not (is_in_address_register layout offset)) (and_right (nat_lt offset 256) (not (byte_at probe offset == 0)) zero)
  | inr register ↦ and_right (nat_lt offset 256 && not (byte_at probe offset == 0)) (not (is_in_address_register layout offset)) (ap not (sym same) ∙ register)
]
